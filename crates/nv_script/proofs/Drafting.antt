-- A draft over the lines of a text.
use Rattle.std.proofs.Common.{◌≡◌, ℕ, ◌+◌, List, [], ◌∷◌, Option, Result, sym, ap, ◌∙◌, Ok}
use Rattle.nv_bytes.specs.Lines.{lines}
use Rattle.nv_script.specs.declared.form.Form.{Form}
use Rattle.nv_script.specs.declared.fault.ScriptCause.{ScriptCause}
use Rattle.nv_script.specs.Entry.{form_of}
use Rattle.nv_script.specs.Scripts.{Draft, with_script_line, onward, drafted, no_form, script_in, script_of_lines, script_of}

-- the step of a loop over the lines
pub drafted-line : (form : Form) (n : ℕ) (left : List (List ℕ)) (line : List ℕ) (rest : List (List ℕ)) (draft : Draft) (r : Result Draft ScriptCause) → left ≡ line ∷ rest → r ≡ with_script_line form line draft
    → drafted form n left draft ≡ onward n r (λ next. drafted form (n + 1) rest next)
unfolding drafted
drafted-line form n left line rest draft r e f =
    ap (λ ls. drafted form n ls draft) e ∙ ap (λ s. onward n s (λ next. drafted form (n + 1) rest next)) (sym f)

pub drafted-none : (form : Form) (n : ℕ) (left : List (List ℕ)) (draft : Draft) → left ≡ [] → drafted form n left draft ≡ Ok draft
unfolding drafted
drafted-none form n left draft e = ap (λ ls. drafted form n ls draft) e

pub script_of-none : (bytes : List ℕ) → lines bytes ≡ [] → script_of bytes ≡ no_form
unfolding script_of
script_of-none bytes e = ap script_of_lines e

-- a script by its first line and the lines after it
pub script_of-line : (bytes first : List ℕ) (rest : List (List ℕ)) (found : Option Form) → lines bytes ≡ first ∷ rest → form_of first ≡ found → script_of bytes ≡ script_in found rest
unfolding script_of
script_of-line bytes first rest found e f = ap script_of_lines e ∙ ap (λ x. script_in x rest) f
