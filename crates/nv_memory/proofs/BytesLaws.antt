-- Laws of bytes that are written at an address.
use Rattle.std.proofs.Common.{◌≡◌, ℕ, ◌+◌, List, [], ◌∷◌, ◌++◌, length, set, refl, ap, ◌∙◌, arith, length-set}
use Rattle.nv_memory.specs.Bytes.{put}

-- as many bytes as before
pub length_put : (bytes : List ℕ) (a : ℕ) (from : List ℕ) → length (put bytes a from) ≡ length bytes
length_put bytes a [] = refl
length_put bytes a (b ∷ bs) = length_put (set bytes a b) (a + 1) bs ∙ length-set bytes a b

-- bytes that are written in two parts
pub put_append : (bytes : List ℕ) (a : ℕ) (xs ys : List ℕ) → put bytes a (xs ++ ys) ≡ put (put bytes a xs) (a + length xs) ys
put_append bytes a [] ys = ap (λ (n : ℕ). put bytes n ys) (omega arith)
put_append bytes a (x ∷ xs) ys = put_append (set bytes a x) (a + 1) xs ys ∙ ap (λ (n : ℕ). put (put (set bytes a x) (a + 1) xs) n ys) (omega arith)
