-- What the second pass knows of a line that isn't faulty, and of the lines that remain.
use Rattle.std.proofs.Common.{◌≡◌, ℕ, ◌+◌, ◌*◌, ◌-◌, ◌≤◌, Bool, true, false, not, if◌then◌else◌, List, [], ◌∷◌, ◌++◌, length, map, Option, Some, None, option_map, Result, Ok, Err, unwrap_or, refl, sym, ap, subst, ◌∙◌, arith, append_assoc, length-append, replicate}
use Rattle.std.specs.Prelude.{ℤ}
use Rattle.std.specs.Int.{w32, to_le_bytes}
use Rattle.std.proofs.lemmas.List.{length-replicate}
use Rattle.std.proofs.lemmas.Bool.Decides.{nat_tests}
use Rattle.nv_bytes.specs.Lines.{LinesLeft, IsNextLine}
use Rattle.nv_bytes.specs.Names.{first_fault, or_later}
use Rattle.nv_asm.specs.declared.fault.AsmCause.{AsmCause}
use Rattle.nv_asm.specs.declared.fault.AsmCause.TheVariants as cause
use Rattle.nv_asm.specs.declared.place.Section.{Section}
use Rattle.nv_asm.specs.declared.place.Section.TheVariants as section
use Rattle.nv_asm.specs.declared.place.Reached.{Reached}
use Rattle.nv_asm.specs.declared.place.Label.{Label}
use Rattle.nv_asm.specs.Statements.{Word, Code, Fixed, Branch, Jump, Load, Statement, Blank, Text, Data, Bytes, Zero, Words, Entry, Instruction, OffInstruction, OffData, OffWords, loading}
use Rattle.nv_asm.specs.inner.Programs.{IsEntryAt}
use Rattle.nv_asm.proofs.Passing.{before-is, placed-line, placed-none}
use Rattle.nv_asm.specs.Places.{Placed, here, begin, size, code_size, past, or_blank, stated, place, after, placed, placed_line}
use Rattle.nv_asm.specs.Assembled.{Whole, base, address, address_of, is_entry, is_entry_place, distance, word_value, code_words, le_words, lacks, content, is_twice, is_long, padding_before, padded, laid_by, laid, cause_of, bytes_or_none, laid_in, section_bytes, entry_past, entry_address}

-- a line that isn't faulty
pub record IsLaid (w : Whole) (p : Placed) (bytes : List ℕ) : Type 0 where
  pub statement : Statement
  pub inner : List ℕ
  pub read : p.read ≡ Ok statement
  pub known : lacks w statement ≡ false
  pub content : content w (address w.text_len (place p)) statement ≡ Some inner
  pub short : is_long (after p) ≡ false
  pub all : bytes ≡ padding_before p ++ inner

pub laid-inverts : (w : Whole) (p : Placed) (bytes : List ℕ) → laid w p ≡ Ok bytes → IsLaid w p bytes
unfolding laid
laid-inverts w p bytes e = first (is_twice w p.line p.label) p.read refl e where
  fourth : (s : Statement) (inner : List ℕ) (long : Bool) → p.read ≡ Ok s → lacks w s ≡ false → content w (address w.text_len (place p)) s ≡ Some inner → is_long (after p) ≡ long
      → (if long then Err cause.Range else Ok (padding_before p ++ inner)) ≡ Ok bytes → IsLaid w p bytes
  fourth s inner true r k o l h = cc
  fourth s inner false r k o l h = let same : padding_before p ++ inner ≡ bytes = cc in record { statement = s; inner = inner; read = r; known = k; content = o; short = l; all = sym same }

  third : (s : Statement) (o : Option (List ℕ)) → p.read ≡ Ok s → lacks w s ≡ false → content w (address w.text_len (place p)) s ≡ o → padded p o ≡ Ok bytes → IsLaid w p bytes
  third s None r k o h = cc
  third s (Some inner) r k o h = fourth s inner (is_long (after p)) r k o refl h

  second : (s : Statement) (lacking : Bool) → p.read ≡ Ok s → lacks w s ≡ lacking → (if lacking then Err cause.Label else padded p (content w (address w.text_len (place p)) s)) ≡ Ok bytes → IsLaid w p bytes
  second s true r k h = cc
  second s false r k h = third s (content w (address w.text_len (place p)) s) r k refl h

  first : (twice : Bool) (read : Result Statement AsmCause) → p.read ≡ read → (if twice then Err cause.Twice else laid_by w p read) ≡ Ok bytes → IsLaid w p bytes
  first true read r h = cc
  first false (Err c) r h = cc
  first false (Ok s) r h = second s (lacks w s) r refl h

-- ---- the lines that remain

abbrev pub causes : Whole → List Placed → List (Option AsmCause)
causes w ps = map (λ p. cause_of (laid w p)) ps

pub causes-line : (w : Whole) (a b : LinesLeft) (n : ℕ) (before : Reached) (line : List ℕ) → IsNextLine a n line b
    → first_fault a.before (causes w (placed a.before before a.left))
    ≡ or_later n (cause_of (laid w (placed_line n before line))) (first_fault b.before (causes w (placed b.before (after (placed_line n before line)) b.left)))
unfolding first_fault
causes-line w a b n before line next =
    let p : Placed = placed_line n before line in
    let later : List (Option AsmCause) = causes w (placed b.before (after p) b.left) in
    ap (λ ps. first_fault a.before (causes w ps)) (placed-line a b n before line next)
    ∙ ap (λ m. or_later m (cause_of (laid w p)) (first_fault (a.before + 1) later)) (sym next.counted)
    ∙ ap (λ m. or_later n (cause_of (laid w p)) (first_fault m later)) (sym next.further)

pub causes-none : (w : Whole) (n : ℕ) (before : Reached) (left : List (List ℕ)) → left ≡ [] → first_fault n (causes w (placed n before left)) ≡ None
unfolding first_fault
causes-none w n before left e = ap (λ ps. first_fault n (causes w ps)) (placed-none n before left e)

pub bytes-line : (w : Whole) (s : Section) (a b : LinesLeft) (n : ℕ) (before : Reached) (line : List ℕ) → IsNextLine a n line b
    → section_bytes w s (placed a.before before a.left)
    ≡ laid_in s (placed_line n before line).before.section (bytes_or_none (laid w (placed_line n before line))) ++ section_bytes w s (placed b.before (after (placed_line n before line)) b.left)
unfolding section_bytes
bytes-line w s a b n before line next = ap (section_bytes w s) (placed-line a b n before line next)

pub bytes-none : (w : Whole) (s : Section) (n : ℕ) (before : Reached) (left : List (List ℕ)) → left ≡ [] → section_bytes w s (placed n before left) ≡ []
unfolding section_bytes
bytes-none w s n before left e = ap (section_bytes w s) (placed-none n before left e)

pub entry-line : (w : Whole) (entry : ℕ) (a b : LinesLeft) (n : ℕ) (before : Reached) (line : List ℕ) → IsNextLine a n line b
    → entry_address w entry (placed a.before before a.left)
    ≡ entry_address w (entry_past w entry (stated (placed_line n before line))) (placed b.before (after (placed_line n before line)) b.left)
unfolding entry_address
entry-line w entry a b n before line next = ap (entry_address w entry) (placed-line a b n before line next)

pub entry-none : (w : Whole) (entry n : ℕ) (before : Reached) (left : List (List ℕ)) → left ≡ [] → entry_address w entry (placed n before left) ≡ entry
unfolding entry_address
entry-none w entry n before left e = ap (entry_address w entry) (placed-none n before left e)

-- ---- lengths

held : {A : Type 0} (x y : A) → Some x ≡ Some y → x ≡ y
held x y e = cc

length-words : (words : List ℕ) → length (le_words words) ≡ 4 * length words
length-words [] = refl
length-words (x ∷ words) = omega (arith, length-append (to_le_bytes w32 x) (le_words words), length-words words)

length-values : (w : Whole) (ws : List Word) → length (map (word_value w) ws) ≡ length ws
length-values w [] = refl
length-values w (x ∷ ws) = omega (arith, length-values w ws)

one-word : (f : ℤ → ℕ) (d : Option ℤ) (inner : List ℕ) → option_map le_words (option_map (λ z. f z ∷ []) d) ≡ Some inner → length inner ≡ 4
one-word f None inner e = cc
one-word f (Some z) inner e = sym (ap length (held (le_words (f z ∷ [])) inner e))

length-code : (w : Whole) (at : ℕ) (c : Code) (inner : List ℕ) → option_map le_words (code_words w at c) ≡ Some inner → length inner ≡ code_size c
unfolding loading
length-code w at (Fixed words) inner e = sym (ap length (held (le_words words) inner e)) ∙ length-words words
length-code w at (Branch o rs1 rs2 target) inner e = one-word _ (distance 4096 at (address_of w target)) inner e
length-code w at (Jump rd target) inner e = one-word _ (distance 1048576 at (address_of w target)) inner e
length-code w at (Load rd target) inner e = sym (ap length (held _ inner e))

length-content : (w : Whole) (at : ℕ) (s : Statement) (inner : List ℕ) → content w at s ≡ Some inner → length inner ≡ size s
unfolding content
length-content w at Blank inner e = sym (ap length (held [] inner e))
length-content w at Text inner e = sym (ap length (held [] inner e))
length-content w at Data inner e = sym (ap length (held [] inner e))
length-content w at (Entry name) inner e = sym (ap length (held [] inner e))
length-content w at (Bytes bs) inner e = sym (ap length (held bs inner e))
length-content w at (Zero n) inner e = sym (ap length (held (replicate n 0) inner e)) ∙ length-replicate n 0
length-content w at (Words ws) inner e = sym (ap length (held (le_words (map (word_value w) ws)) inner e)) ∙ length-words (map (word_value w) ws) ∙ ap (λ n. 4 * n) (length-values w ws)
length-content w at (Instruction c) inner e = length-code w at c inner e
length-content w at OffInstruction inner e = cc
length-content w at OffData inner e = cc
length-content w at (OffWords ws) inner e = cc

abbrev at_text : ℕ → ℕ → Reached
at_text t d = record { section = section.Text; text_len = t; data_len = d }

abbrev at_data : ℕ → ℕ → Reached
at_data t d = record { section = section.Data; text_len = t; data_len = d }

past-text : (t d m : ℕ) (s : Statement) → m ≡ (begin s t - t) + size s → ((past s (at_text t d)).text_len ≡ t + m) × ((past s (at_text t d)).data_len ≡ d)
past-text t d m Blank e = (omega arith, refl)
past-text t d m Text e = (omega arith, refl)
past-text t d m Data e = (omega arith, refl)
past-text t d m (Bytes bs) e = (omega arith, refl)
past-text t d m (Zero k) e = (omega arith, refl)
past-text t d m (Words ws) e = (omega arith, refl)
past-text t d m (Entry l) e = (omega arith, refl)
past-text t d m (Instruction c) e = (omega arith, refl)
past-text t d m OffInstruction e = (omega arith, refl)
past-text t d m OffData e = (omega arith, refl)
past-text t d m (OffWords ws) e = (omega arith, refl)

past-data : (t d m : ℕ) (s : Statement) → m ≡ (begin s d - d) + size s → ((past s (at_data t d)).text_len ≡ t) × ((past s (at_data t d)).data_len ≡ d + m)
past-data t d m Blank e = (refl, omega arith)
past-data t d m Text e = (refl, omega arith)
past-data t d m Data e = (refl, omega arith)
past-data t d m (Bytes bs) e = (refl, omega arith)
past-data t d m (Zero k) e = (refl, omega arith)
past-data t d m (Words ws) e = (refl, omega arith)
past-data t d m (Entry l) e = (refl, omega arith)
past-data t d m (Instruction c) e = (refl, omega arith)
past-data t d m OffInstruction e = (refl, omega arith)
past-data t d m OffData e = (refl, omega arith)
past-data t d m (OffWords ws) e = (refl, omega arith)

-- ---- the entry

entry-place : (w : Whole) (name : List ℕ) (entry : ℕ) (o : Option Label) → w.find name ≡ o → is_entry w.text_len o ≡ true → IsEntryAt w.text_len (unwrap_or (option_map (λ (l : Label). address w.text_len l.place) o) 0)
unfolding address
entry-place w name entry None e h = cc
entry-place w name entry (Some l) e h = at l.place.section l.place.offset refl h where
  at : (s : Section) (n : ℕ) → l.place.section ≡ s → is_entry_place w.text_len (record { section = s; offset = n }) ≡ true → IsEntryAt w.text_len (base w.text_len s + n)
  at section.Text n same h = record { least = omega arith; most = grind (arith, nat_tests); aligned = grind (arith, nat_tests) }
  at section.Data n same h = cc

pub entry-past : (w : Whole) (entry : ℕ) (s : Statement) → lacks w s ≡ false → IsEntryAt w.text_len entry → IsEntryAt w.text_len (entry_past w entry s)
unfolding lacks address_of
entry-past w entry (Entry name) k h = entry-place w name entry (w.find name) refl (not-not _ k) where
  not-not : (b : Bool) → not b ≡ false → b ≡ true
  not-not true e = refl
  not-not false e = cc
entry-past w entry Blank k h = h
entry-past w entry Text k h = h
entry-past w entry Data k h = h
entry-past w entry (Bytes bs) k h = h
entry-past w entry (Zero n) k h = h
entry-past w entry (Words ws) k h = h
entry-past w entry (Instruction c) k h = h
entry-past w entry OffInstruction k h = h
entry-past w entry OffData k h = h
entry-past w entry (OffWords ws) k h = h

-- ---- a line that isn't faulty

abbrev padding-from : Statement → ℕ → ℕ
padding-from s n = begin s n - n

-- how long the sections are after a line
pub record Grows (w : Whole) (p : Placed) (before : Reached) (bytes : List ℕ) : Type 0 where
  pub text : (after p).text_len ≡ before.text_len + length (laid_in section.Text before.section bytes)
  pub contents : (after p).data_len ≡ before.data_len + length (laid_in section.Data before.section bytes)

grows : (w : Whole) (p : Placed) (bytes : List ℕ) → IsLaid w p bytes → Grows w p p.before bytes
grows w p bytes h = by_section p.before.section p.before.text_len p.before.data_len refl where
  long : length bytes ≡ padding-from (stated p) (here p.before) + size (stated p)
  long =
      let s : stated p ≡ h.statement = ap or_blank h.read in
      let inner : length h.inner ≡ size (stated p) = length-content w (address w.text_len (place p)) h.statement h.inner h.content ∙ ap size (sym s) in
      omega (arith, ap length h.all, length-append (padding_before p) h.inner, length-replicate {A = ℕ} (padding-from (stated p) (here p.before)) 0, inner)

  by_section : (s : Section) (t d : ℕ) → p.before ≡ (record { section = s; text_len = t; data_len = d }) → Grows w p p.before bytes
  by_section section.Text t d e =
      let r : Reached = at_text t d in
      let m = past-text t d (length bytes) (stated p) (long ∙ ap (λ (b : Reached). padding-from (stated p) (here b) + size (stated p)) e) in
      let same : after p ≡ past (stated p) r = ap (past (stated p)) e in
      record {
        text = ap (λ (b : Reached). b.text_len) same ∙ m.0 ∙ ap (λ (b : Reached). b.text_len + length (laid_in section.Text b.section bytes)) (sym e);
        contents = ap (λ (b : Reached). b.data_len) same ∙ m.1 ∙ omega arith ∙ ap (λ (b : Reached). b.data_len + length (laid_in section.Data b.section bytes)) (sym e);
      }
  by_section section.Data t d e =
      let r : Reached = at_data t d in
      let m = past-data t d (length bytes) (stated p) (long ∙ ap (λ (b : Reached). padding-from (stated p) (here b) + size (stated p)) e) in
      let same : after p ≡ past (stated p) r = ap (past (stated p)) e in
      record {
        text = ap (λ (b : Reached). b.text_len) same ∙ m.0 ∙ omega arith ∙ ap (λ (b : Reached). b.text_len + length (laid_in section.Text b.section bytes)) (sym e);
        contents = ap (λ (b : Reached). b.data_len) same ∙ m.1 ∙ ap (λ (b : Reached). b.data_len + length (laid_in section.Data b.section bytes)) (sym e);
      }

pub grows-line : (w : Whole) (n : ℕ) (before : Reached) (line bytes : List ℕ) → laid w (placed_line n before line) ≡ Ok bytes → Grows w (placed_line n before line) before bytes
unfolding placed_line
grows-line w n before line bytes e = grows w (placed_line n before line) bytes (laid-inverts w (placed_line n before line) bytes e)

pub entry-kept : (w : Whole) (p : Placed) (bytes : List ℕ) (entry : ℕ) → laid w p ≡ Ok bytes → IsEntryAt w.text_len entry → IsEntryAt w.text_len (entry_past w entry (stated p))
entry-kept w p bytes entry e h =
    let laid : IsLaid w p bytes = laid-inverts w p bytes e in
    subst (λ s. IsEntryAt w.text_len (entry_past w entry s)) (sym (ap or_blank laid.read)) (entry-past w entry laid.statement laid.known h)

pub short-line : (w : Whole) (p : Placed) (bytes : List ℕ) → laid w p ≡ Ok bytes → (after p).text_len + (after p).data_len ≤ 1048576
short-line w p bytes e = let short = (laid-inverts w p bytes e).short in grind (arith, nat_tests)

-- a section's bytes with those of one more line
pub bytes-more : (w : Whole) (s : Section) (a b : LinesLeft) (n : ℕ) (r q : Reached) (line bytes old new : List ℕ) → IsNextLine a n line b → laid w (placed_line n r line) ≡ Ok bytes
    → new ≡ old ++ laid_in s r.section bytes → q ≡ after (placed_line n r line)
    → new ++ section_bytes w s (placed b.before q b.left) ≡ old ++ section_bytes w s (placed a.before r a.left)
bytes-more w s a b n r q line bytes old new next ok more is =
    let p : Placed = placed_line n r line in
    let later : List ℕ = section_bytes w s (placed b.before (after p) b.left) in
    ap (λ x. new ++ section_bytes w s (placed b.before x b.left)) is ∙ ap (λ t. t ++ later) more ∙ append_assoc old (laid_in s r.section bytes) later
    ∙ ap (λ x. old ++ (laid_in s r.section (bytes_or_none x) ++ later)) (sym ok)
    ∙ ap (λ (reached : Reached). old ++ (laid_in s reached.section (bytes_or_none (laid w p)) ++ later)) (sym (before-is n r line))
    ∙ ap (λ x. old ++ x) (sym (bytes-line w s a b n r line next))
