-- What an outside tells, one thing behind another.
use Rattle.std.proofs.Common.{◌≡◌, sym, ap, refl, subst, List, [], ◌∷◌, ◌++◌, map, append_assoc, append-nil}
use Rattle.nv_script.specs.Doings.{Said, Doing, Says}
use Rattle.nv_arriving.specs.Telling.{Adds}

pub says_both : (xs ys : List Said) → map Says (xs ++ ys) ≡ map Says xs ++ map Says ys
says_both [] ys = refl
says_both (s ∷ xs) ys = ap (λ (z : List Doing). Says s ∷ z) (says_both xs ys)

module _ {O : Type 0} (did : O → O → List Doing → Type 0) where
  pub adds_none : (at : O) → Adds did at at []
  adds_none at first done h = subst (did first at) (sym (append-nil done)) h

  pub adds_both : (before mid now : O) (xs ys : List Doing) → Adds did before mid xs → Adds did mid now ys → Adds did before now (xs ++ ys)
  adds_both before mid now xs ys p q first done h = subst (did first now) (append_assoc done xs ys) (q first (done ++ xs) (p first done h))

  pub adds_is : (before now : O) (xs ys : List Doing) → xs ≡ ys → Adds did before now xs → Adds did before now ys
  adds_is before now xs ys e p first done h = subst (λ (z : List Doing). did first now (done ++ z)) e (p first done h)

  -- one said behind another
  pub says_then : (before mid now : O) (xs ys : List Said) → Adds did before mid (map Says xs) → Adds did mid now (map Says ys) → Adds did before now (map Says (xs ++ ys))
  says_then before mid now xs ys p q = adds_is before now (map Says xs ++ map Says ys) (map Says (xs ++ ys)) (sym (says_both xs ys)) (adds_both before mid now (map Says xs) (map Says ys) p q)

  pub says_is : (before now : O) (xs ys : List Said) → xs ≡ ys → Adds did before now (map Says xs) → Adds did before now (map Says ys)
  says_is before now xs ys e = adds_is before now (map Says xs) (map Says ys) (ap (map Says) e)
