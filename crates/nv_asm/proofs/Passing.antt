-- A pass over the lines of a text: what is gathered so far, and what remains.
use Rattle.std.proofs.Common.{◌≡◌, ℕ, ◌+◌, ◌*◌, ◌^◌, ◌<◌, ◌≤◌, Bool, true, false, List, [], ◌∷◌, Option, Some, None, if◌then◌else◌, IfSome, length, map, bytes_eq, refl, sym, ap, ◌∙◌, arith}
use Rattle.std.specs.Option.{option_or}
use Rattle.std.specs.List.{onto_first}
use Rattle.nv_bytes.specs.Lines.{lines, is_newline, LinesLeft, IsNextLine}
use Rattle.nv_bytes.specs.Names.{defined, defining, definitions, knowing}
use Rattle.nv_asm.specs.declared.place.Label.{Label}
use Rattle.nv_asm.specs.declared.place.Reached.{Reached}
use Rattle.nv_asm.specs.declared.place.Section.{Section}
use Rattle.nv_asm.specs.declared.place.Section.TheVariants as section
use Rattle.nv_asm.specs.Statements.{Statement, Blank, Text, Data, Bytes, Zero, Words, Entry, Instruction, OffInstruction, OffData, OffWords}
use Rattle.nv_asm.specs.Places.{Placed, begin, size, past, stated, place, after, placed, placed_line, ended, marked}
use Rattle.nv_asm.specs.inner.Bounds.{most_of}
use Rattle.nv_asm.specs.inner.Lines.{IsSmall}
use Rattle.nv_asm.specs.inner.Known.{defined_among}

-- ---- names

or_known : (o p : Option Label) (b : Bool) (d : Label) → option_or o (if b then Some d else p) ≡ option_or (option_or o (if b then Some d else None)) p
or_known (Some x) p b d = refl
or_known None p true d = refl
or_known None p false d = refl

-- a further name is known, and no longer among the rest
pub found-defined : (before now rest : List (List ℕ × Label)) (label name : List ℕ) (d : Label)
    → ((other : List ℕ) → defined now other ≡ knowing before label d other) → defined_among before (defining (Some label) d rest) name ≡ defined_among now rest name
unfolding defined
found-defined before now rest label name d h =
    or_known (defined before name) (defined rest name) (bytes_eq name label) d ∙ ap (λ o. option_or o (defined rest name)) (sym (h name))

or_none : (o : Option Label) → option_or o None ≡ o
or_none None = refl
or_none (Some x) = refl

pub found-none : (before rest : List (List ℕ × Label)) (name : List ℕ) → before ≡ [] → defined_among before rest name ≡ defined rest name
unfolding defined
found-none before rest name e = ap (λ ls. defined_among ls rest name) e

pub found-all : (before rest : List (List ℕ × Label)) (name : List ℕ) → rest ≡ [] → defined_among before rest name ≡ defined before name
unfolding defined
found-all before rest name e = ap (λ ls. defined_among before ls name) e ∙ or_none (defined before name)

pub knows-none : (names : List (List ℕ × Label)) (most : ℕ) → names ≡ [] → (name : List ℕ) → IfSome (defined names name) (λ (l : Label). l.place.offset < most)
unfolding defined
knows-none names most e name = rw e tt

-- ---- lines

abbrev pub names_of : List Placed → List (List ℕ × Label)
names_of ps = definitions (map marked ps)

-- the next line, in its place
pub placed-line : (a b : LinesLeft) (n : ℕ) (before : Reached) (line : List ℕ) → IsNextLine a n line b
    → placed a.before before a.left ≡ placed_line n before line ∷ placed b.before (after (placed_line n before line)) b.left
unfolding placed
placed-line a b n before line next =
    ap (λ m. placed m before a.left) (sym next.counted) ∙ ap (placed n before) next.first
    ∙ ap (λ m. placed_line n before line ∷ placed (m + 1) (after (placed_line n before line)) b.left) next.counted
    ∙ ap (λ m. placed_line n before line ∷ placed m (after (placed_line n before line)) b.left) (sym next.further)

pub placed-none : (n : ℕ) (before : Reached) (left : List (List ℕ)) → left ≡ [] → placed n before left ≡ []
unfolding placed
placed-none n before left e = ap (placed n before) e

pub names-line : (a b : LinesLeft) (n : ℕ) (before : Reached) (line : List ℕ) → IsNextLine a n line b
    → names_of (placed a.before before a.left) ≡ defining (placed_line n before line).label (record { line = (placed_line n before line).line; place = place (placed_line n before line) }) (names_of (placed b.before (after (placed_line n before line)) b.left))
unfolding definitions
names-line a b n before line next = ap names_of (placed-line a b n before line next)

pub names-none : (n : ℕ) (before : Reached) (left : List (List ℕ)) → left ≡ [] → names_of (placed n before left) ≡ []
unfolding definitions
names-none n before left e = ap names_of (placed-none n before left e)

pub ended-line : (a b : LinesLeft) (n : ℕ) (before : Reached) (line : List ℕ) → IsNextLine a n line b
    → ended before (placed a.before before a.left) ≡ ended (after (placed_line n before line)) (placed b.before (after (placed_line n before line)) b.left)
unfolding ended
ended-line a b n before line next = ap (ended before) (placed-line a b n before line next)

pub ended-none : (n : ℕ) (before : Reached) (left : List (List ℕ)) → left ≡ [] → ended before (placed n before left) ≡ before
unfolding ended
ended-none n before left e = ap (ended before) (placed-none n before left e)

-- ---- bounds

-- the most bytes that so many lines can have
abbrev pub weight : List (List ℕ) → ℕ
weight [] = 0
weight (line ∷ lines) = most_of (length line) + 3 + weight lines

abbrev pub filled_by : Reached → ℕ
filled_by r = r.text_len + r.data_len

begin-near : (s : Statement) (n : ℕ) → begin s n ≤ n + 3
begin-near Blank n = omega arith
begin-near Text n = omega arith
begin-near Data n = omega arith
begin-near (Bytes bs) n = omega arith
begin-near (Zero k) n = omega arith
begin-near (Words ws) n = omega arith
begin-near (Entry l) n = omega arith
begin-near (Instruction c) n = omega arith
begin-near OffInstruction n = omega arith
begin-near OffData n = omega arith
begin-near (OffWords ws) n = omega arith

past-near : (c : Section) (t d : ℕ) (s : Statement) → filled_by (past s (record { section = c; text_len = t; data_len = d })) ≤ t + d + 3 + size s
past-near section.Text t d Blank = omega arith
past-near section.Text t d Text = omega arith
past-near section.Text t d Data = omega arith
past-near section.Text t d (Bytes bs) = omega arith
past-near section.Text t d (Zero k) = omega arith
past-near section.Text t d (Words ws) = omega (arith, begin-near (Words ws) t)
past-near section.Text t d (Entry l) = omega arith
past-near section.Text t d (Instruction c) = omega (arith, begin-near (Instruction c) t)
past-near section.Text t d OffInstruction = omega arith
past-near section.Text t d OffData = omega arith
past-near section.Text t d (OffWords ws) = omega arith
past-near section.Data t d Blank = omega arith
past-near section.Data t d Text = omega arith
past-near section.Data t d Data = omega arith
past-near section.Data t d (Bytes bs) = omega arith
past-near section.Data t d (Zero k) = omega arith
past-near section.Data t d (Words ws) = omega (arith, begin-near (Words ws) d)
past-near section.Data t d (Entry l) = omega arith
past-near section.Data t d (Instruction c) = omega (arith, begin-near (Instruction c) d)
past-near section.Data t d OffInstruction = omega arith
past-near section.Data t d OffData = omega arith
past-near section.Data t d (OffWords ws) = omega arith

abbrev statement_of : ℕ → Reached → List ℕ → Statement
statement_of n before line = stated (placed_line n before line)

line-near : (n : ℕ) (before : Reached) (line : List ℕ) → size (statement_of n before line) ≤ most_of (length line) → filled_by (past (statement_of n before line) before) ≤ filled_by before + 3 + most_of (length line)
line-near n before line small =
    let near = past-near before.section before.text_len before.data_len (statement_of n before line) in
    omega (arith, near, small)

pub before-is : (n : ℕ) (before : Reached) (line : List ℕ) → (placed_line n before line).before ≡ before
unfolding placed_line
before-is n before line = refl

after-is : (n : ℕ) (before : Reached) (line : List ℕ) → after (placed_line n before line) ≡ past (statement_of n before line) before
after-is n before line = ap (past (statement_of n before line)) (before-is n before line)

-- what is filled after a line, with what the lines after it can have at most
pub weight-line : (a b : LinesLeft) (n : ℕ) (before : Reached) (line : List ℕ) → IsNextLine a n line b → size (stated (placed_line n before line)) ≤ most_of (length line)
    → filled_by (after (placed_line n before line)) + weight b.left ≤ filled_by before + weight a.left
weight-line a b n before line next small =
    let whole : weight a.left ≡ most_of (length line) + 3 + weight b.left = ap weight next.first in
    let same : filled_by (after (placed_line n before line)) ≡ filled_by (past (statement_of n before line) before) = ap filled_by (after-is n before line) in
    omega (arith, whole, same, line-near n before line small)

onto-weight : (b : ℕ) (ls : List (List ℕ)) → weight (onto_first b ls) ≤ weight ls + 1048587
onto-weight b [] = omega arith
onto-weight b (l ∷ ls) = omega arith

-- a bound on all lines by the text's length
pub weight-le : (text : List ℕ) → weight (lines text) ≤ 2 ^ 21 * length text
unfolding lines
weight-le [] = omega arith
weight-le (b ∷ bs) = step (is_newline b) (weight-le bs) where
  step : (x : Bool) → weight (lines bs) ≤ 2 ^ 21 * length bs → weight (if x then [] ∷ lines bs else onto_first b (lines bs)) ≤ 2 ^ 21 * length (b ∷ bs)
  step true h = omega arith
  step false h = omega (arith, onto-weight b (lines bs))

-- what is filled stays small
pub filled-small : (r : Reached) (text : List ℕ) (left : List (List ℕ)) → filled_by r + weight left ≤ weight (lines text) → length text < 2 ^ 64 → IsSmall r
filled-small r text left filled long = record { text = omega (arith, filled, weight-le text); «data» = omega (arith, filled, weight-le text) }
