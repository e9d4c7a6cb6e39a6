-- Which scripts have the calls that wait for several things at once.
use Rattle.std.proofs.Common.{◌≡◌, ℕ, Bool, true, false, cond, List, ◌∷◌, Some, None, Result, Ok, Err, codes, bytes_eq, refl, sym, ap, ◌∙◌}
use Rattle.std.proofs.lemmas.Slice.Eq.{bytes_eq-Decides}
use Rattle.nv_bytes.specs.Lines.{lines}
use Rattle.nv_script.specs.declared.form.Form.{Form}
use Rattle.nv_script.specs.declared.form.Form.TheVariants as form
use Rattle.nv_script.specs.declared.fault.ScriptFault.{ScriptFault}
use Rattle.nv_script.specs.Entry.{form_of, is_fifth}
use Rattle.nv_script.specs.Scripts.{Setup, Draft, blank, drafted, finished, finished_result, script_in, script_of_lines, script_of}

-- a line that is one text is no other
unlike : (line text other : List ℕ) → bytes_eq text other ≡ false → bytes_eq line text ≡ true → bytes_eq line other ≡ false
unlike line text other differ same = ap (λ (l : List ℕ). bytes_eq l other) ((bytes_eq-Decides line text).0 same) ∙ differ

finished-polls : (f : Form) (r : Result Draft ScriptFault) (s : Setup) → finished_result f r ≡ Ok s → s.polls ≡ is_fifth f
finished-polls f (Ok d) s h =
    let same : finished f d ≡ s = cc in
    ap (λ (t : Setup). t.polls) (sym same)
finished-polls f (Err fault) s h = cc

in-polls : (first : List ℕ) (rest : List (List ℕ)) (s : Setup) → script_in (form_of first) rest ≡ Ok s → s.polls ≡ bytes_eq first (codes "varan-script 5")
unfolding form_of
in-polls first rest s h =
    step (bytes_eq first (codes "varan-script 1")) (bytes_eq first (codes "varan-script 2")) (bytes_eq first (codes "varan-script 3")) (bytes_eq first (codes "varan-script 4"))
    (bytes_eq first (codes "varan-script 5")) (unlike first (codes "varan-script 1") (codes "varan-script 5") refl) (unlike first (codes "varan-script 2") (codes "varan-script 5") refl)
    (unlike first (codes "varan-script 3") (codes "varan-script 5") refl) (unlike first (codes "varan-script 4") (codes "varan-script 5") refl) h where
      step : (x y z v w : Bool) → (x ≡ true → w ≡ false) → (y ≡ true → w ≡ false) → (z ≡ true → w ≡ false) → (v ≡ true → w ≡ false)
          → script_in (cond x (Some form.First) (cond y (Some form.Second) (cond z (Some form.Third) (cond v (Some form.Fourth) (cond w (Some form.Fifth) None))))) rest ≡ Ok s → s.polls ≡ w
      step true y z v w p q r t h = finished-polls form.First (drafted form.First 1 rest (blank form.First)) s h ∙ sym (p refl)
      step false true z v w p q r t h = finished-polls form.Second (drafted form.Second 1 rest (blank form.Second)) s h ∙ sym (q refl)
      step false false true v w p q r t h = finished-polls form.Third (drafted form.Third 1 rest (blank form.Third)) s h ∙ sym (r refl)
      step false false false true w p q r t h = finished-polls form.Fourth (drafted form.Fourth 1 rest (blank form.Fourth)) s h ∙ sym (t refl)
      step false false false false true p q r t h = finished-polls form.Fifth (drafted form.Fifth 1 rest (blank form.Fifth)) s h
      step false false false false false p q r t h = cc

pub polls : (text first : List ℕ) (rest : List (List ℕ)) (s : Setup) → lines text ≡ first ∷ rest → script_of text ≡ Ok s → s.polls ≡ bytes_eq first (codes "varan-script 5")
unfolding script_of
polls text first rest s are h = in-polls first rest s (sym (ap script_of_lines are) ∙ h)
