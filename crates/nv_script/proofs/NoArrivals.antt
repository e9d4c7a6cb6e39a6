-- Nothing comes in a script of the first three forms.
use Rattle.std.proofs.Common.{◌≡◌, ℕ, ◌+◌, Bool, true, false, ◌&&◌, cond, nat_lt, nat_le, List, [], ◌∷◌, ◌++◌, Some, None, is_some, Result, Ok, Err, bytes_eq, codes, length, refl, sym, ap, ◌∙◌}
use Rattle.nv_bytes.specs.Fields.{first_word, rest_of}
use Rattle.nv_bytes.specs.Lines.{lines}
use Rattle.nv_script.specs.Reading.{arrival_of}
use Rattle.nv_script.specs.declared.form.Form.{Form}
use Rattle.nv_script.specs.declared.form.Form.TheVariants as form
use Rattle.nv_script.specs.declared.fault.ScriptCause.{ScriptCause}
use Rattle.nv_script.specs.declared.fault.ScriptCause.TheVariants.{Twice, Long}
use Rattle.nv_script.specs.declared.fault.ScriptFault.{ScriptFault}
use Rattle.nv_script.specs.Entry.{Entry, Nothing, Argument, Input, File, Time, Seed, Hand, Connection, Arrives, form_of, kind_of, is_passed_over, arrives, begins_arrival, entry_with, entry_of}
use Rattle.nv_script.specs.Scripts.{Setup, Draft, blank, has_name, has_hand, with_argument, with_named_file, with_connection, with_entry, with_result, with_script_line, onward, drafted, finished, finished_result, script_in, script_of_lines, script_of}
use Rattle.nv_script.proofs.Sound.{stated_sound, stated-along, entry_with-sound}

-- a draft that is one of two refusals, or else this one
same-arrivals : (twice room : Bool) (d f e : Draft) → f.arrivals ≡ d.arrivals → cond twice (Err Twice) (cond room (Ok f) (Err Long)) ≡ Ok e → e.arrivals ≡ d.arrivals
same-arrivals true room d f e kept h = cc
same-arrivals false true d f e kept h =
    let same : f ≡ e = cc in
    ap (λ (t : Draft). t.arrivals) (sym same) ∙ kept
same-arrivals false false d f e kept h = cc

entry-brings-none : (entry : Entry) (d e : Draft) → stated_sound entry ≡ true → with_entry entry d ≡ Ok e → e.arrivals ≡ d.arrivals
unfolding with_argument with_named_file with_connection
entry-brings-none Nothing d e sound h = same-arrivals false true d d e refl h
entry-brings-none (Argument text) d e sound h = same-arrivals false (nat_lt (length d.arguments) 256) d (record d { arguments = d.arguments ++ text ∷ [] }) e refl h
entry-brings-none (Input bytes) d e sound h = same-arrivals false true d (record d { input = d.input ++ bytes }) e refl h
entry-brings-none (File name content) d e sound h =
    same-arrivals (has_name name d.files) (nat_lt (length d.files) 256 && nat_le (length content) 1048576) d (record d { files = d.files ++ (name, content) ∷ [] }) e refl h
entry-brings-none (Time clock) d e sound h = same-arrivals (is_some d.clock) true d (record d { clock = Some clock }) e refl h
entry-brings-none (Seed seed) d e sound h = same-arrivals (is_some d.seed) true d (record d { seed = Some seed }) e refl h
entry-brings-none (Hand n) d e sound h = same-arrivals (has_hand n d.hands) (nat_lt (length d.hands) 8) d (record d { hands = d.hands ++ n ∷ [] }) e refl h
entry-brings-none (Connection port input) d e sound h =
    same-arrivals false (nat_lt (length d.connections) 64 && nat_le (length input) 1048576) d (record d { connections = d.connections ++ (port, input) ∷ [] }) e refl h
entry-brings-none (Arrives a) d e sound h = cc

entry_of-stated : (f : Form) (line : List ℕ) (e : Entry) → begins_arrival f line ≡ false → entry_of f line ≡ Ok e → stated_sound e ≡ true
unfolding entry_of
entry_of-stated f line e none h = step (is_passed_over line) (begins_arrival f line) none h where
  step : (x y : Bool) → y ≡ false → cond x (Ok Nothing) (cond y (arrives (arrival_of line)) (entry_with (kind_of f (first_word line)) (rest_of line))) ≡ Ok e → stated_sound e ≡ true
  step true y none h = stated-along Nothing e refl cc
  step false true none h = cc
  step false false none h = entry_with-sound (kind_of f (first_word line)) (rest_of line) e h

line-brings-none : (f : Form) (line : List ℕ) (d e : Draft) → begins_arrival f line ≡ false → with_script_line f line d ≡ Ok e → e.arrivals ≡ d.arrivals
unfolding with_script_line
line-brings-none f line d e none h = step (entry_of f line) refl h where
  step : (r : Result Entry ScriptCause) → entry_of f line ≡ r → with_result r d ≡ Ok e → e.arrivals ≡ d.arrivals
  step (Ok entry) is h = entry-brings-none entry d e (entry_of-stated f line entry none is) h
  step (Err c) is h = cc

drafted-brings-none : (f : Form) (n : ℕ) (text : List (List ℕ)) (d e : Draft) → ((line : List ℕ) → begins_arrival f line ≡ false) → drafted f n text d ≡ Ok e → e.arrivals ≡ d.arrivals
unfolding drafted
drafted-brings-none f n [] d e none h =
    let same : d ≡ e = cc in
    ap (λ (t : Draft). t.arrivals) (sym same)
drafted-brings-none f n (line ∷ rest) d e none h = step (with_script_line f line d) refl h (λ next. drafted-brings-none f (n + 1) rest next e none) where
  step : (r : Result Draft ScriptCause) → with_script_line f line d ≡ r → onward n r (λ next. drafted f (n + 1) rest next) ≡ Ok e
      → ((next : Draft) → drafted f (n + 1) rest next ≡ Ok e → e.arrivals ≡ next.arrivals) → e.arrivals ≡ d.arrivals
  step (Ok next) is h later = later next h ∙ line-brings-none f line d next (none line) is
  step (Err c) is h later = cc

finished-brings-none : (f : Form) (text : List (List ℕ)) (s : Setup) → ((line : List ℕ) → begins_arrival f line ≡ false) → finished_result f (drafted f 1 text (blank f)) ≡ Ok s → s.arrivals ≡ []
finished-brings-none f text s none h = step (drafted f 1 text (blank f)) refl h where
  step : (r : Result Draft ScriptFault) → drafted f 1 text (blank f) ≡ r → finished_result f r ≡ Ok s → s.arrivals ≡ []
  step (Ok d) is h =
      let same : finished f d ≡ s = cc in
      ap (λ (t : Setup). t.arrivals) (sym same) ∙ drafted-brings-none f 1 text (blank f) d none is
  step (Err fault) is h = cc

script_in-brings-none : (first : List ℕ) (rest : List (List ℕ)) (s : Setup) → bytes_eq first (codes "varan-script 4") ≡ false → bytes_eq first (codes "varan-script 5") ≡ false → script_in (form_of first) rest ≡ Ok s
    → s.arrivals ≡ []
unfolding form_of
script_in-brings-none first rest s fourth fifth h =
    step (bytes_eq first (codes "varan-script 1")) (bytes_eq first (codes "varan-script 2")) (bytes_eq first (codes "varan-script 3")) (bytes_eq first (codes "varan-script 4"))
    (bytes_eq first (codes "varan-script 5")) fourth fifth h where
      step : (x y z v w : Bool) → v ≡ false → w ≡ false
          → script_in (cond x (Some form.First) (cond y (Some form.Second) (cond z (Some form.Third) (cond v (Some form.Fourth) (cond w (Some form.Fifth) None))))) rest ≡ Ok s → s.arrivals ≡ []
      step true y z v w p q h = finished-brings-none form.First rest s (λ line. refl) h
      step false true z v w p q h = finished-brings-none form.Second rest s (λ line. refl) h
      step false false true v w p q h = finished-brings-none form.Third rest s (λ line. refl) h
      step false false false true w p q h = cc
      step false false false false true p q h = cc
      step false false false false false p q h = cc

pub no_arrivals : (text first : List ℕ) (rest : List (List ℕ)) (s : Setup) → lines text ≡ first ∷ rest → bytes_eq first (codes "varan-script 4") ≡ false → bytes_eq first (codes "varan-script 5") ≡ false
    → script_of text ≡ Ok s → s.arrivals ≡ []
unfolding script_of
no_arrivals text first rest s are fourth fifth h = script_in-brings-none first rest s fourth fifth (sym (ap script_of_lines are) ∙ h)
