-- The text of a script and the lines of what came after it are the script with these arrivals.
use Rattle.std.proofs.Common.{◌≡◌, ℕ, ◌+◌, ◌<◌, Bool, true, false, cond, List, [], ◌∷◌, ◌++◌, Some, Result, Ok, Err, codes, length, map, refl, sym, ap, ◌∙◌, arith, append_assoc, append-nil, subst}
use Rattle.std.specs.List.{All, list_all, onto_first}
use Rattle.std.specs.Result.{is_ok}
use Rattle.std.proofs.lemmas.Bool.{and_parts}
use Rattle.std.proofs.lemmas.List.Elements.{All-head, All-tail}
use Rattle.nv_bytes.specs.Lines.{is_newline, lines}
use Rattle.nv_bytes.specs.Numbers.{hex_of}
use Rattle.nv_bytes.proofs.Laws.{lines-line}
use Rattle.nv_script.specs.declared.arrival.ArrivalCause.{ArrivalCause}
use Rattle.nv_script.specs.Arrivals.{Arrival, Input, InputEnd, ClientsEnd, Connect, Data, End, Time, is_arrival, BringsBytes}
use Rattle.nv_script.specs.Order.{Came, most_clients, nothing_came, admitted, onward as onward_in, after, are_orderly}
use Rattle.nv_script.specs.Writing.{front, is_line, input_text, line_text}
use Rattle.nv_script.proofs.Orderly.{after-append, after-first, after-none}
use Rattle.nv_script.proofs.ReadBack.{read_back, line_text-lacks, line_text-begins}
use Rattle.nv_script.specs.declared.form.Form.{Form}
use Rattle.nv_script.specs.declared.form.Form.TheVariants.{Fifth}
use Rattle.nv_script.specs.declared.fault.ScriptCause.{ScriptCause}
use Rattle.nv_script.specs.declared.fault.ScriptFault.{ScriptFault}
use Rattle.nv_script.specs.Entry.{Arrives, form_of, is_passed_over, arrives, entry_of}
use Rattle.nv_script.specs.Scripts.{Setup, Draft, blank, with_came, with_result, with_script_line, onward, drafted, finished, finished_result, script_in, script_of_lines, script_of}
use Rattle.nv_script.specs.Transcripts.{lines_of, continued_by, IsTranscript}
use Rattle.nv_script.proofs.Sound.{drafted-keeps, blank-keeps}

-- ---- lines in two parts

onto_first-append : (b : ℕ) (xs ys : List (List ℕ)) → 0 < length xs → onto_first b (xs ++ ys) ≡ onto_first b xs ++ ys
onto_first-append b [] ys some = absurd (omega arith)
onto_first-append b (x ∷ xs) ys some = refl

onto_first-some : (b : ℕ) (xs : List (List ℕ)) → 0 < length (onto_first b xs)
onto_first-some b [] = omega arith
onto_first-some b (x ∷ xs) = omega arith

lines-some : (front : List ℕ) → 0 < length (lines (front ++ 10 ∷ []))
unfolding lines
lines-some [] = omega arith
lines-some (b ∷ bs) = step (is_newline b) where
  step : (x : Bool) → 0 < length (cond x ([] ∷ lines (bs ++ 10 ∷ [])) (onto_first b (lines (bs ++ 10 ∷ []))))
  step true = omega arith
  step false = onto_first-some b (lines (bs ++ 10 ∷ []))

lines-append : (front rest : List ℕ) → lines (front ++ 10 ∷ rest) ≡ lines (front ++ 10 ∷ []) ++ lines rest
unfolding lines
lines-append [] rest = refl
lines-append (b ∷ bs) rest = step (is_newline b) (lines-append bs rest) where
  step : (x : Bool) → lines (bs ++ 10 ∷ rest) ≡ lines (bs ++ 10 ∷ []) ++ lines rest
      → cond x ([] ∷ lines (bs ++ 10 ∷ rest)) (onto_first b (lines (bs ++ 10 ∷ rest))) ≡ cond x ([] ∷ lines (bs ++ 10 ∷ [])) (onto_first b (lines (bs ++ 10 ∷ []))) ++ lines rest
  step true later = ap (λ ls. [] ∷ ls) later
  step false later = ap (onto_first b) later ∙ onto_first-append b (lines (bs ++ 10 ∷ [])) (lines rest) (lines-some bs)

pub lines-ended : (text front rest : List ℕ) → text ≡ front ++ 10 ∷ [] → lines (text ++ rest) ≡ lines text ++ lines rest
lines-ended text front rest e =
    let whole : text ++ rest ≡ front ++ 10 ∷ rest = ap (λ t. t ++ rest) e ∙ append_assoc front (10 ∷ []) rest in
    ap lines whole ∙ lines-append front rest ∙ ap (λ t. lines t ++ lines rest) (sym e)

lines-arrivals : (arrivals : List Arrival) → list_all is_arrival arrivals ≡ true → All BringsBytes arrivals → lines (lines_of arrivals) ≡ map line_text arrivals
unfolding lines
lines-arrivals [] sound are = refl
lines-arrivals (a ∷ rest) sound are =
    let parts = and_parts (is_arrival a) (list_all is_arrival rest) sound in
    ap lines (append_assoc (line_text a) (10 ∷ []) (lines_of rest))
    ∙ lines-line (line_text a) (lines_of rest) (line_text-lacks a parts.0 (All-head BringsBytes a rest are))
    ∙ ap (λ ls. line_text a ∷ ls) (lines-arrivals rest parts.1 (All-tail BringsBytes a rest are))

-- ---- a draft over lines in two parts

pub drafted-append : (form : Form) (n : ℕ) (xs ys : List (List ℕ)) (d e : Draft) → drafted form n xs d ≡ Ok e → drafted form n (xs ++ ys) d ≡ drafted form (n + length xs) ys e
unfolding drafted
drafted-append form n [] ys d e h =
    let same : d ≡ e = cc in
    let here : n ≡ n + length {A = List ℕ} [] = omega arith in
    ap (drafted form n ys) same ∙ ap (λ (m : ℕ). drafted form m ys e) here
drafted-append form n (x ∷ xs) ys d e h =
    let along : n + 1 + length xs ≡ n + length (x ∷ xs) = omega arith in
    step (with_script_line form x d) h (λ next. drafted-append form (n + 1) xs ys next e) ∙ ap (λ (m : ℕ). drafted form m ys e) along where
      step : (r : Result Draft ScriptCause) → onward n r (λ next. drafted form (n + 1) xs next) ≡ Ok e
          → ((next : Draft) → drafted form (n + 1) xs next ≡ Ok e → drafted form (n + 1) (xs ++ ys) next ≡ drafted form (n + 1 + length xs) ys e)
          → onward n r (λ next. drafted form (n + 1) (xs ++ ys) next) ≡ drafted form (n + 1 + length xs) ys e
      step (Ok next) h later = later next h
      step (Err cause) h later = cc

-- ---- the lines of arrivals

input-said : (bytes : List ℕ) → is_passed_over (input_text bytes) ≡ false
input-said bytes = step (is_line bytes) where
  step : (x : Bool) → is_passed_over (cond x (codes "line " ++ front bytes) (codes "input " ++ hex_of bytes)) ≡ false
  step true = refl
  step false = refl

-- an arrival's line is no comment
line_text-said : (a : Arrival) → is_passed_over (line_text a) ≡ false
unfolding line_text
line_text-said (Input bytes) = input-said bytes
line_text-said InputEnd = refl
line_text-said ClientsEnd = refl
line_text-said (Connect port) = refl
line_text-said (Data n bytes) = refl
line_text-said (End n) = refl
line_text-said (Time seconds nanos) = refl

entry-arrives : (a : Arrival) → is_arrival a ≡ true → BringsBytes a → entry_of Fifth (line_text a) ≡ Ok (Arrives a)
unfolding entry_of
entry-arrives a sound are =
    let word = line_text-begins a in
    let passed = line_text-said a in
    rw (passed, word) (ap arrives (read_back a sound are))

line-arrives : (a : Arrival) (d : Draft) → is_arrival a ≡ true → BringsBytes a → with_script_line Fifth (line_text a) d ≡ with_came a (admitted a d.came) d
unfolding with_script_line
line-arrives a d sound are = ap (λ r. with_result r d) (entry-arrives a sound are)

-- the draft with what came
abbrev further : Draft → List Arrival → Came → Draft
further d arrivals now = record d { arrivals = d.arrivals ++ arrivals; came = now }

arrivals-drafted : (n : ℕ) (arrivals : List Arrival) (d : Draft) (now : Came) → list_all is_arrival arrivals ≡ true → All BringsBytes arrivals → after arrivals d.came ≡ Ok now
    → drafted Fifth n (map line_text arrivals) d ≡ Ok (further d arrivals now)
unfolding drafted
arrivals-drafted n [] d now sound are h =
    let come : Ok d.came ≡ Ok now = sym (after-none d.came) ∙ h in
    let same : d.came ≡ now = cc in
    ap (λ (xs : List Arrival). Ok (record d { arrivals = xs })) (sym (append-nil d.arrivals)) ∙ ap (λ (c : Came). Ok (further d [] c)) same
arrivals-drafted n (a ∷ rest) d now sound are h =
    let parts = and_parts (is_arrival a) (list_all is_arrival rest) sound in
    ap (λ r. onward n r (λ next. drafted Fifth (n + 1) (map line_text rest) next)) (line-arrives a d parts.0 (All-head BringsBytes a rest are))
    ∙ step (admitted a d.came) (sym (after-first a rest d.came) ∙ h) (λ e. arrivals-drafted (n + 1) rest e now parts.1 (All-tail BringsBytes a rest are)) where
      step : (r : Result Came ArrivalCause) → onward_in r (λ c. after rest c) ≡ Ok now
          → ((e : Draft) → after rest e.came ≡ Ok now → drafted Fifth (n + 1) (map line_text rest) e ≡ Ok (further e rest now))
          → onward n (with_came a r d) (λ next. drafted Fifth (n + 1) (map line_text rest) next) ≡ Ok (further d (a ∷ rest) now)
      step (Ok next) h later =
          later (record d { arrivals = d.arrivals ++ a ∷ []; came = next }) h
          ∙ ap (λ (xs : List Arrival). Ok (record d { arrivals = xs; came = now })) (append_assoc d.arrivals (a ∷ []) rest)
      step (Err c) h later = cc

-- ---- the whole text

pub first-line : (body : List ℕ) → lines (codes "varan-script 5\n" ++ body) ≡ codes "varan-script 5" ∷ lines body
unfolding lines
first-line body = refl

fifth : form_of (codes "varan-script 5") ≡ Some Fifth
unfolding form_of
fifth = refl

pub in-form : (rest : List (List ℕ)) → script_of_lines (codes "varan-script 5" ∷ rest) ≡ finished_result Fifth (drafted Fifth 1 rest (blank Fifth))
in-form rest = ap (λ f. script_in f rest) fifth

went : (arrivals : List Arrival) → are_orderly (most_clients true) arrivals ≡ true → (P : Type 0) → ((now : Came) → after arrivals (nothing_came (most_clients true)) ≡ Ok now → P) → P
went arrivals h P found = step (after arrivals (nothing_came (most_clients true))) refl h where
  step : (r : Result Came ArrivalCause) → after arrivals (nothing_came (most_clients true)) ≡ r → is_ok r ≡ true → P
  step (Ok now) e h = found now e
  step (Err c) e h = cc

comes-after : (old arrivals : List Arrival) (came now : Came) → after old (nothing_came (most_clients true)) ≡ Ok came → after (old ++ arrivals) (nothing_came (most_clients true)) ≡ Ok now → after arrivals came ≡ Ok now
comes-after old arrivals came now e h = sym (after-append old arrivals (nothing_came (most_clients true)) ∙ ap (λ r. onward_in r (λ c. after arrivals c)) e) ∙ h

drafted-more : (body : List (List ℕ)) (arrivals : List Arrival) (s : Setup) (r : Result Draft ScriptFault) → drafted Fifth 1 body (blank Fifth) ≡ r → finished_result Fifth r ≡ Ok s
    → list_all is_arrival arrivals ≡ true → All BringsBytes arrivals → are_orderly (most_clients true) (s.arrivals ++ arrivals) ≡ true
    → finished_result Fifth (drafted Fifth 1 (body ++ map line_text arrivals) (blank Fifth)) ≡ Ok (continued_by arrivals s)
drafted-more body arrivals s (Err fault) is h sound are orderly = cc
drafted-more body arrivals s (Ok d) is h sound are orderly =
    let same : finished Fifth d ≡ s = cc in
    let keeps = drafted-keeps (most_clients true) Fifth 1 body (blank Fifth) d (blank-keeps Fifth) is in
    let whole : are_orderly (most_clients true) (d.arrivals ++ arrivals) ≡ true = ap (λ (t : Setup). are_orderly (most_clients true) (t.arrivals ++ arrivals)) same ∙ orderly in
    went (d.arrivals ++ arrivals) whole (finished_result Fifth (drafted Fifth 1 (body ++ map line_text arrivals) (blank Fifth)) ≡ Ok (continued_by arrivals s))
    (λ now e.
    ap (finished_result Fifth) (drafted-append Fifth 1 body (map line_text arrivals) (blank Fifth) d is
    ∙ arrivals-drafted (1 + length body) arrivals d now sound are (comes-after d.arrivals arrivals d.came now keeps.arrivals.orderly e))
    ∙ ap (λ (t : Setup). Ok (continued_by arrivals t)) same)

record Ended (text : List ℕ) : Type 0 where
  front : List ℕ
  is : text ≡ front ++ 10 ∷ []

ended : (arrivals : List Arrival) (text front : List ℕ) → text ≡ front ++ 10 ∷ [] → Ended (text ++ lines_of arrivals)
ended [] text front e = record { front = front; is = append-nil text ∙ e }
ended (a ∷ rest) text front e =
    subst Ended (append_assoc text (line_text a ++ 10 ∷ []) (lines_of rest)) (ended rest (text ++ (line_text a ++ 10 ∷ [])) (text ++ line_text a) (sym (append_assoc text (line_text a) (10 ∷ []))))

says : (text : List ℕ) (s : Setup) (arrivals : List Arrival) → IsTranscript text s → list_all is_arrival arrivals ≡ true → All BringsBytes arrivals → are_orderly (most_clients true) (s.arrivals ++ arrivals) ≡ true
    → script_of (text ++ lines_of arrivals) ≡ Ok (continued_by arrivals s)
unfolding script_of
says text s arrivals tells sound are orderly =
    let told : lines text ≡ codes "varan-script 5" ∷ lines tells.body = ap lines tells.begins ∙ first-line tells.body in
    let all : lines (text ++ lines_of arrivals) ≡ codes "varan-script 5" ∷ (lines tells.body ++ map line_text arrivals) =
    lines-ended text tells.front (lines_of arrivals) tells.ends ∙ ap (λ ls. ls ++ lines (lines_of arrivals)) told
    ∙ ap (λ ls. codes "varan-script 5" ∷ (lines tells.body ++ ls)) (lines-arrivals arrivals sound are) in
    let before : finished_result Fifth (drafted Fifth 1 (lines tells.body) (blank Fifth)) ≡ Ok s = sym (ap script_of_lines told ∙ in-form (lines tells.body)) ∙ tells.says in
    ap script_of_lines all ∙ in-form (lines tells.body ++ map line_text arrivals)
    ∙ drafted-more (lines tells.body) arrivals s (drafted Fifth 1 (lines tells.body) (blank Fifth)) refl before sound are orderly

pub transcript : (text : List ℕ) (s : Setup) (arrivals : List Arrival) → IsTranscript text s → list_all is_arrival arrivals ≡ true → All BringsBytes arrivals → are_orderly (most_clients true) (s.arrivals ++ arrivals) ≡ true
    → IsTranscript (text ++ lines_of arrivals) (continued_by arrivals s)
transcript text s arrivals tells sound are orderly =
    let end = ended arrivals text tells.front tells.ends in
    record {
      body = tells.body ++ lines_of arrivals;
      begins = ap (λ t. t ++ lines_of arrivals) tells.begins ∙ append_assoc (codes "varan-script 5\n") tells.body (lines_of arrivals);
      front = end.front;
      ends = end.is;
      says = says text s arrivals tells sound are orderly;
    }
