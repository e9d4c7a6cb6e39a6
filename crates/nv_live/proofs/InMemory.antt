-- One more of the reads of a source in memory.
use Rattle.std.proofs.Common.{◌≡◌, ℕ, ◌+◌, ◌<◌, List, [], ◌∷◌, ◌++◌, length, take, map, get_or, refl, sym, ap, ◌∙◌, arith}
use Rattle.std.proofs.lemmas.List.{take_more}
use Rattle.std.proofs.lemmas.Grind.{common_steps}

front : (bytes rest : List ℕ) → take (length bytes) (bytes ++ rest) ≡ bytes
front [] rest = refl
front (b ∷ bytes) rest = ap (λ later. b ∷ later) (front bytes rest)

module _ {X : Type 0} (f : X → List ℕ) where
  mapped : (xs : List X) (i : ℕ) (d : X) → get_or (map f xs) i (f d) ≡ f (get_or xs i d)
  mapped xs i d = grind (arith, common_steps)

  pub reads_next : (xs : List X) (next count : ℕ) (bytes : X) (room rest : List ℕ) → next < length xs → bytes ≡ get_or xs next bytes → count ≡ length (f bytes) → room ≡ f bytes ++ rest
      → take (next + 1) (map f xs) ≡ take next (map f xs) ++ take count room ∷ []
  reads_next xs next count bytes room rest inside is size put =
      let given : take count room ≡ f bytes = ap (λ n. take n room) size ∙ ap (take (length (f bytes))) put ∙ front (f bytes) rest in
      let read : get_or (map f xs) next (f bytes) ≡ take count room = mapped xs next bytes ∙ ap f (sym is) ∙ sym given in
      let long : next < length (map f xs) = grind (arith, common_steps) in
      take_more (map f xs) next (f bytes) long ∙ ap (λ b. take next (map f xs) ++ b ∷ []) read
