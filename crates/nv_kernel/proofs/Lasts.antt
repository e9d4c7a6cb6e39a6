-- The last item of a list, and of what it is mapped to.
use Rattle.std.proofs.Common.{◌≡◌, ap, refl, List, [], ◌∷◌, ◌++◌, length, map, drop, arith}
use Rattle.std.proofs.lemmas.List.{length-append}

-- what is the last of a list is mapped to the last
pub last_mapped : {A B : Type 0} (f : A → B) (xs : List A) (y : A) → ((past : List A) (x : A) → xs ≡ past ++ x ∷ [] → y ≡ x)
    → (past : List B) (e : B) → map f xs ≡ past ++ e ∷ [] → f y ≡ e
last_mapped f [] y is past e h = absurd (omega (arith, ap length h, length-append past (e ∷ [])))
last_mapped f (x ∷ []) y is [] e h = let k : y ≡ x = is [] x refl in cc
last_mapped f (x ∷ []) y is (p ∷ ps) e h = absurd (omega (arith, ap length h, length-append ps (e ∷ [])))
last_mapped f (x ∷ z ∷ zs) y is [] e h = absurd (omega (arith, ap length h))
last_mapped f (x ∷ z ∷ zs) y is (p ∷ ps) e h = last_mapped f (z ∷ zs) y (λ past w k. is (x ∷ past) w (ap (λ l. x ∷ l) k)) ps e (ap (drop 1) h)
