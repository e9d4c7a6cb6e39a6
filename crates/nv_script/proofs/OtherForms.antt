-- A script of any form in which nothing comes is one of the fourth, and one of the fifth.
use Rattle.std.proofs.Common.{◌≡◌, ℕ, ◌+◌, ◌==◌, Bool, true, false, not, ◌&&◌, cond, nat_lt, nat_le, length, List, [], ◌∷◌, ◌++◌, Option, Some, None, is_some, Result, Ok, Err, codes, refl, sym, ap, ◌∙◌}
use Rattle.std.specs.List.{All, list_all}
use Rattle.std.proofs.lemmas.Bool.{and_parts}
use Rattle.nv_bytes.specs.Fields.{first_word, rest_of}
use Rattle.nv_bytes.specs.Lines.{lines}
use Rattle.nv_bytes.specs.Names.{defined}
use Rattle.nv_bytes.proofs.Laws.{lines-line}
use Rattle.nv_script.specs.declared.word.Word.{Word}
use Rattle.nv_script.specs.Order.{Came, most_clients, nothing_came}
use Rattle.nv_script.specs.Reading.{word_of, is_word as is_arrival_word, is_timeless, arrival_of}
use Rattle.nv_script.specs.declared.form.Form.{Form}
use Rattle.nv_script.specs.declared.form.Form.TheVariants as form
use Rattle.nv_script.specs.declared.kind.Kind.{Kind}
use Rattle.nv_script.specs.declared.kind.Kind.TheVariants as kind
use Rattle.nv_script.specs.declared.fault.ScriptCause.{ScriptCause}
use Rattle.nv_script.specs.declared.fault.ScriptCause.TheVariants.{Twice, Long}
use Rattle.nv_script.specs.declared.fault.ScriptFault.{ScriptFault}
use Rattle.nv_script.specs.Entry.{Entry, Nothing, Argument, Input, File, Time, Seed, Hand, Connection, Arrives, form_of, is_fifth, entry_kinds, in_form, kind_of, is_passed_over, arrives, begins_arrival, entry_with, entry_of}
use Rattle.nv_script.specs.Scripts.{Setup, Draft, blank, has_name, has_hand, with_argument, with_named_file, with_connection, with_entry, with_result, with_script_line, onward, drafted, finished, finished_result, script_in, script_of_lines, script_of}
use Rattle.nv_script.specs.Transcripts.{says_what_comes}
use Rattle.nv_script.proofs.Sound.{stated_sound, stated-along, entry_with-sound}
use Rattle.nv_script.proofs.Transcripts.{first-line}

not_true : (x : Bool) → not x ≡ true → x ≡ false
not_true true e = cc
not_true false e = refl

-- the forms in which an arrival may come: the fifth, and the fourth
abbrev late : Bool → Form
late true = form.Fifth
late false = form.Fourth

in_form-late : (b : Bool) (found : Option Kind) → in_form (late b) found ≡ found
in_form-late true found = refl
in_form-late false found = refl

in_form-found : (f : Form) (found : Option Kind) (k : Kind) → in_form f found ≡ Some k → found ≡ Some k
in_form-found form.First (Some kind.Hand) k e = cc
in_form-found form.First (Some kind.Connect) k e = cc
in_form-found form.First (Some kind.Argument) k e = e
in_form-found form.First (Some kind.Line) k e = e
in_form-found form.First (Some kind.Input) k e = e
in_form-found form.First (Some kind.File) k e = e
in_form-found form.First (Some kind.Clock) k e = e
in_form-found form.First (Some kind.Random) k e = e
in_form-found form.First None k e = cc
in_form-found form.Second (Some kind.Hand) k e = e
in_form-found form.Second (Some kind.Connect) k e = cc
in_form-found form.Second (Some kind.Argument) k e = e
in_form-found form.Second (Some kind.Line) k e = e
in_form-found form.Second (Some kind.Input) k e = e
in_form-found form.Second (Some kind.File) k e = e
in_form-found form.Second (Some kind.Clock) k e = e
in_form-found form.Second (Some kind.Random) k e = e
in_form-found form.Second None k e = cc
in_form-found form.Third found k e = e
in_form-found form.Fourth found k e = e
in_form-found form.Fifth found k e = e

with-late : (b : Bool) (f : Form) (found : Option Kind) (rest : Option (List ℕ)) (e : Entry) → entry_with (in_form f found) rest ≡ Ok e → entry_with (in_form (late b) found) rest ≡ Ok e
with-late b f found rest e h = step (in_form f found) refl h where
  step : (r : Option Kind) → in_form f found ≡ r → entry_with r rest ≡ Ok e → entry_with (in_form (late b) found) rest ≡ Ok e
  step None is h = cc
  step (Some k) is h = ap (λ r. entry_with r rest) (in_form-late b found ∙ in_form-found f found k is) ∙ h

timeless-not : (w : Option Word) → is_some w ≡ false → is_timeless w ≡ false
timeless-not None e = refl
timeless-not (Some w) e = cc

begins-not : (f : Form) (line : List ℕ) → is_arrival_word (first_word line) ≡ false → begins_arrival f line ≡ false
begins-not form.First line e = refl
begins-not form.Second line e = refl
begins-not form.Third line e = refl
begins-not form.Fourth line e = timeless-not (word_of (first_word line)) e
begins-not form.Fifth line e = e

-- a line that says nothing of what comes says the same in both
entry-late : (b : Bool) (f : Form) (line : List ℕ) (e : Entry) → says_what_comes line ≡ false → entry_of f line ≡ Ok e → entry_of (late b) line ≡ Ok e
unfolding entry_of kind_of
entry-late b f line e quiet h = step (is_passed_over line) (is_arrival_word (first_word line)) refl refl quiet h where
  step : (x y : Bool) → is_passed_over line ≡ x → is_arrival_word (first_word line) ≡ y → (not x && y) ≡ false
      → cond x (Ok Nothing) (cond (begins_arrival f line) (arrives (arrival_of line)) (entry_with (in_form f (defined entry_kinds (first_word line))) (rest_of line))) ≡ Ok e
      → cond x (Ok Nothing) (cond (begins_arrival (late b) line) (arrives (arrival_of line)) (entry_with (in_form (late b) (defined entry_kinds (first_word line))) (rest_of line))) ≡ Ok e
  step true y p w quiet h = h
  step false true p w quiet h = cc
  step false false p w quiet h =
      let before = begins-not f line w in
      let now = begins-not (late b) line w in
      rw now (with-late b f (defined entry_kinds (first_word line)) (rest_of line) e (rw before at h))

entry-stated : (f : Form) (line : List ℕ) (e : Entry) → says_what_comes line ≡ false → entry_of f line ≡ Ok e → stated_sound e ≡ true
unfolding entry_of
entry-stated f line e quiet h = step (is_passed_over line) (is_arrival_word (first_word line)) refl quiet h where
  step : (x y : Bool) → is_arrival_word (first_word line) ≡ y → (not x && y) ≡ false
      → cond x (Ok Nothing) (cond (begins_arrival f line) (arrives (arrival_of line)) (entry_with (kind_of f (first_word line)) (rest_of line))) ≡ Ok e → stated_sound e ≡ true
  step true y w quiet h = stated-along Nothing e refl cc
  step false true w quiet h = cc
  step false false w quiet h =
      let before = begins-not f line w in
      entry_with-sound (kind_of f (first_word line)) (rest_of line) e (rw before at h)

-- the draft with this as what has come
abbrev beside : Came → Draft → Draft
beside came d = record d { came = came }

-- a draft that is one of two refusals, or else this one
same-beside : (came : Came) (twice room : Bool) (d e : Draft) → cond twice (Err Twice) (cond room (Ok d) (Err Long)) ≡ Ok e
    → cond twice (Err Twice) (cond room (Ok (beside came d)) (Err Long)) ≡ Ok (beside came e)
same-beside came true room d e h = cc
same-beside came false true d e h =
    let same : d ≡ e = cc in
    ap (λ (t : Draft). Ok (beside came t)) same
same-beside came false false d e h = cc

-- an entry that brings nothing does the same whatever has come
entry-beside : (came : Came) (entry : Entry) (d e : Draft) → stated_sound entry ≡ true → with_entry entry d ≡ Ok e → with_entry entry (beside came d) ≡ Ok (beside came e)
unfolding with_argument with_named_file with_connection
entry-beside came Nothing d e sound h = same-beside came false true d e h
entry-beside came (Argument text) d e sound h = same-beside came false (nat_lt (length d.arguments) 256) (record d { arguments = d.arguments ++ text ∷ [] }) e h
entry-beside came (Input bytes) d e sound h = same-beside came false true (record d { input = d.input ++ bytes }) e h
entry-beside came (File name content) d e sound h =
    same-beside came (has_name name d.files) (nat_lt (length d.files) 256 && nat_le (length content) 1048576) (record d { files = d.files ++ (name, content) ∷ [] }) e h
entry-beside came (Time clock) d e sound h = same-beside came (is_some d.clock) true (record d { clock = Some clock }) e h
entry-beside came (Seed seed) d e sound h = same-beside came (is_some d.seed) true (record d { seed = Some seed }) e h
entry-beside came (Hand n) d e sound h = same-beside came (has_hand n d.hands) (nat_lt (length d.hands) 8) (record d { hands = d.hands ++ n ∷ [] }) e h
entry-beside came (Connection port input) d e sound h =
    same-beside came false (nat_lt (length d.connections) 64 && nat_le (length input) 1048576) (record d { connections = d.connections ++ (port, input) ∷ [] }) e h
entry-beside came (Arrives a) d e sound h = cc

line-late : (b : Bool) (f : Form) (came : Came) (line : List ℕ) (d next : Draft) → says_what_comes line ≡ false → with_script_line f line d ≡ Ok next → with_script_line (late b) line (beside came d) ≡ Ok (beside came next)
unfolding with_script_line
line-late b f came line d next quiet h = step (entry_of f line) refl h where
  step : (r : Result Entry ScriptCause) → entry_of f line ≡ r → with_result r d ≡ Ok next → with_result (entry_of (late b) line) (beside came d) ≡ Ok (beside came next)
  step (Ok e) is h = ap (λ r. with_result r (beside came d)) (entry-late b f line e quiet is) ∙ entry-beside came e d next (entry-stated f line e quiet is) h
  step (Err c) is h = cc

drafted-late : (b : Bool) (f : Form) (came : Came) (n : ℕ) (text : List (List ℕ)) (d end : Draft) → list_all (λ line. not (says_what_comes line)) text ≡ true → drafted f n text d ≡ Ok end
    → drafted (late b) n text (beside came d) ≡ Ok (beside came end)
unfolding drafted
drafted-late b f came n [] d end quiet h =
    let same : d ≡ end = cc in
    ap (λ (t : Draft). Ok (beside came t)) same
drafted-late b f came n (line ∷ rest) d end quiet h =
    let parts = and_parts (not (says_what_comes line)) (list_all (λ l. not (says_what_comes l)) rest) quiet in
    step (with_script_line f line d) refl h (λ next. drafted-late b f came (n + 1) rest next end parts.1) (λ next. line-late b f came line d next (not_true (says_what_comes line) parts.0)) where
      step : (r : Result Draft ScriptCause) → with_script_line f line d ≡ r → onward n r (λ next. drafted f (n + 1) rest next) ≡ Ok end
          → ((next : Draft) → drafted f (n + 1) rest next ≡ Ok end → drafted (late b) (n + 1) rest (beside came next) ≡ Ok (beside came end))
          → ((next : Draft) → with_script_line f line d ≡ Ok next → with_script_line (late b) line (beside came d) ≡ Ok (beside came next))
          → onward n (with_script_line (late b) line (beside came d)) (λ next. drafted (late b) (n + 1) rest next) ≡ Ok (beside came end)
      step (Ok next) is h later same = ap (λ r. onward n r (λ d. drafted (late b) (n + 1) rest d)) (same next is) ∙ later next h
      step (Err c) is h later same = cc

-- the script is the same but for its calls, which are those of its form
abbrev in_late : Bool → Setup → Setup
in_late b s = record s { polls = is_fifth (late b) }

finished-late : (b : Bool) (f : Form) (text : List (List ℕ)) (s : Setup) → list_all (λ line. not (says_what_comes line)) text ≡ true → finished_result f (drafted f 1 text (blank f)) ≡ Ok s
    → finished_result (late b) (drafted (late b) 1 text (blank (late b))) ≡ Ok (in_late b s)
finished-late b f text s quiet h = step (drafted f 1 text (blank f)) refl h where
  step : (r : Result Draft ScriptFault) → drafted f 1 text (blank f) ≡ r → finished_result f r ≡ Ok s → finished_result (late b) (drafted (late b) 1 text (blank (late b))) ≡ Ok (in_late b s)
  step (Ok d) is h =
      let same : finished f d ≡ s = cc in
      ap (finished_result (late b)) (drafted-late b f (nothing_came (most_clients (is_fifth (late b)))) 1 text (blank f) d quiet is) ∙ ap (λ (t : Setup). Ok (in_late b t)) same
  step (Err c) is h = cc

-- ---- the first line

abbrev late_line : Bool → List ℕ
late_line true = codes "varan-script 5"
late_line false = codes "varan-script 4"

form-late : (b : Bool) → form_of (late_line b) ≡ Some (late b)
unfolding form_of
form-late true = refl
form-late false = refl

lines-late : (b : Bool) (first : List ℕ) (text : List (List ℕ)) (s : Setup) → list_all (λ line. not (says_what_comes line)) text ≡ true → script_of_lines (first ∷ text) ≡ Ok s
    → script_of_lines (late_line b ∷ text) ≡ Ok (in_late b s)
lines-late b first text s quiet h = step (form_of first) h where
  step : (found : Option Form) → script_in found text ≡ Ok s → script_of_lines (late_line b ∷ text) ≡ Ok (in_late b s)
  step (Some f) h = ap (λ found. script_in found text) (form-late b) ∙ finished-late b f text s quiet h
  step None h = cc

fourth-line : (body : List ℕ) → lines (codes "varan-script 4\n" ++ body) ≡ codes "varan-script 4" ∷ lines body
unfolding lines
fourth-line body = refl

-- the lines after the first, under another first line
pub other_form : (first body : List ℕ) (s : Setup) → All (λ b. (b == 10) ≡ false) first → list_all (λ line. not (says_what_comes line)) (lines body) ≡ true → script_of (first ++ 10 ∷ body) ≡ Ok s
    → script_of (codes "varan-script 5\n" ++ body) ≡ Ok (record s { polls = true })
unfolding script_of
other_form first body s plain quiet h =
    ap script_of_lines (first-line body) ∙ lines-late true first (lines body) s quiet (sym (ap script_of_lines (lines-line first body plain)) ∙ h)

pub fourth_form : (first body : List ℕ) (s : Setup) → All (λ b. (b == 10) ≡ false) first → list_all (λ line. not (says_what_comes line)) (lines body) ≡ true → script_of (first ++ 10 ∷ body) ≡ Ok s
    → script_of (codes "varan-script 4\n" ++ body) ≡ Ok (record s { polls = false })
unfolding script_of
fourth_form first body s plain quiet h =
    ap script_of_lines (fourth-line body) ∙ lines-late false first (lines body) s quiet (sym (ap script_of_lines (lines-line first body plain)) ∙ h)
