-- What a write to the rest of a slice leaves.
use Rattle.std.proofs.Common.{◌≡◌, ℕ, ◌+◌, ◌-◌, ◌≤◌, List, [], ◌++◌, length, take, drop, arith, refl, length-drop}
use Rattle.std.proofs.lemmas.List.{take_rest, drop_all, drop-drop, append-nil}
use borrow.Rule.Slice.PartMut.{put_mid, mid_of}

-- a write to the beginning of the rest from a
pub put_rest : (n a : ℕ) (xs ys first : List ℕ) → ys ≡ first ++ drop n (mid_of a (length xs - a) xs) → put_mid a (length xs - a) xs ys ≡ take a xs ++ (first ++ drop (a + n) xs)
put_rest n a xs ys first e =
    let past : drop (length xs - a) (drop a xs) ≡ [] = drop_all (length xs - a) (drop a xs) (omega (arith, length-drop a xs)) in
    rw (e, take_rest xs a, drop-drop n a xs, past, append-nil (first ++ drop (a + n) xs)) refl
