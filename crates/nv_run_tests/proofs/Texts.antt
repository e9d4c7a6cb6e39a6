-- A transcript with one thing more.
use Rattle.std.proofs.Common.{◌≡◌, ◌∙◌, sym, ap, subst, refl, ℕ, List, [], ◌∷◌, ◌++◌, append_assoc, append-nil}
use Rattle.nv_script.specs.Doings.{Doing, Takes, Says, Hands}
use Rattle.nv_run_tests.specs.Transcript.{said_text, taken_text, text_of, Wrote}
use Rattle.nv_run_tests.specs.declared.transcript.Transcript.{Transcript}

pub text_both : (xs ys : List Doing) → text_of (xs ++ ys) ≡ text_of xs ++ text_of ys
text_both [] ys = refl
text_both (Takes a ∷ xs) ys = ap (λ (z : List ℕ). taken_text a ++ z) (text_both xs ys) ∙ sym (append_assoc (taken_text a) (text_of xs) (text_of ys))
text_both (Says s ∷ xs) ys = ap (λ (z : List ℕ). said_text s ++ z) (text_both xs ys) ∙ sym (append_assoc (said_text s) (text_of xs) (text_of ys))
text_both (Hands n ∷ xs) ys = text_both xs ys

-- nothing more
pub wrote_none : (first now : Transcript) (done : List Doing) → Wrote first now done → Wrote first now (done ++ [])
wrote_none first now done h = subst (Wrote first now) (sym (append-nil done)) h

pub text_more : (first old new text : List ℕ) (done : List Doing) (more : Doing) → text_of (more ∷ []) ≡ text → new ≡ old ++ text → old ≡ first ++ text_of done → new ≡ first ++ text_of (done ++ more ∷ [])
text_more first old new text done more e n o =
    n ∙ ((λ i. o i ++ sym e i) ∙ (append_assoc first (text_of done) (text_of (more ∷ [])) ∙ ap (λ (z : List ℕ). first ++ z) (sym (text_both done (more ∷ [])))))
