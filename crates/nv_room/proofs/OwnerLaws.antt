-- Which stations are marked gone.
use Rattle.std.proofs.Common.{◌≡◌, ℕ, zero, suc, ◌<◌, ◌≤◌, Bool, true, false, List, [], ◌∷◌, get_or, length, refl, eq-eqb, arith}
use Rattle.std.proofs.lemmas.Bool.{eqb-true}
use Rattle.std.specs.Prelude.{◌&&◌, ◌==◌}
use Rattle.nv_room.specs.Owner.{GONE, lower_marked}

pub and_both : (a b : Bool) → (a && b) ≡ true → (a ≡ true) × (b ≡ true)
and_both true true e = (refl, refl)
and_both true false e = cc
and_both false b e = cc

and_join : (a b : Bool) → a ≡ true → b ≡ true → (a && b) ≡ true
and_join true true e f = refl
and_join true false e f = cc
and_join false b e f = cc

pub marked : (st : ℕ) (fs : List ℕ) → lower_marked st fs ≡ true → (s : ℕ) → s < st → get_or fs s 0 ≡ GONE
marked zero fs e s l = absurd (omega arith)
marked (suc st) [] e s l = cc
marked (suc st) (f ∷ fs) e zero l = eqb-true f GONE (and_both (f == GONE) (lower_marked st fs) e).0
marked (suc st) (f ∷ fs) e (suc s) l = marked st fs (and_both (f == GONE) (lower_marked st fs) e).1 s (omega arith)

pub marks_all : (st : ℕ) (fs : List ℕ) → st ≤ length fs → ((s : ℕ) → s < st → get_or fs s 0 ≡ GONE) → lower_marked st fs ≡ true
marks_all zero fs long h = refl
marks_all (suc st) [] long h = absurd (omega arith)
marks_all (suc st) (f ∷ fs) long h = and_join (f == GONE) (lower_marked st fs) (eq-eqb f GONE (h zero (omega arith))) (marks_all st fs (omega arith) (λ s l. h (suc s) (omega arith)))
