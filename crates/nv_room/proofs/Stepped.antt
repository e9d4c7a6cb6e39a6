-- Steps one after another.
use Rattle.std.proofs.Common.{ℕ, List, [], ◌∷◌, ◌++◌, refl, subst}
use Rattle.nv_room.specs.declared.view.View.{View}
use Rattle.nv_room.specs.Kinds.{Kind, StepGives, Went, Stepped}

module _ {T : Type 0} (n : ℕ) where
  pub no_step : (v : View T) → Stepped n v v
  no_step v = ([], refl)

  pub one_step : (v w : View T) (k : Kind) → StepGives n v w k → Stepped n v w
  one_step v w k gives = (k ∷ [], (w, gives, refl))

  went_on : (a b c : View T) (ks ls : List Kind) → Went n a ks b → Went n b ls c → Went n a (ks ++ ls) c
  went_on a b c [] ls first second = subst (λ (z : View T). Went n z ls c) first second
  went_on a b c (k ∷ ks) ls first second = (first.0, first.1, went_on first.0 b c ks ls first.2 second)

  pub more_steps : (a b c : View T) → Stepped n a b → Stepped n b c → Stepped n a c
  more_steps a b c first second = (first.0 ++ second.0, went_on a b c first.0 second.0 first.1 second.1)
