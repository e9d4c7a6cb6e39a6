-- The inboxes of clients that will connect, where one is added, taken or gets more memory.
use Rattle.std.proofs.Common.{ℕ, zero, suc, ◌<◌, List, [], ◌∷◌, ◌++◌, length, get_or, set, arith}
use Rattle.nv_sockets.specs.Inboxes.{Room}
use Rattle.nv_arriving.specs.Prepared.{IsNew, AreNew}

pub new_more : (xs : List Room) (x : Room) → AreNew xs → IsNew x → AreNew (xs ++ x ∷ [])
new_more [] x h k = (k, tt)
new_more (y ∷ xs) x h k = (h.0, new_more xs x h.1 k)

pub new_front : (xs : List Room) (x : Room) → AreNew (xs ++ x ∷ []) → AreNew xs
new_front [] x h = tt
new_front (y ∷ xs) x h = (h.0, new_front xs x h.1)

pub new_last : (xs : List Room) (x : Room) → AreNew (xs ++ x ∷ []) → IsNew x
new_last [] x h = h.0
new_last (y ∷ xs) x h = new_last xs x h.1

pub new_at : (xs : List Room) (i : ℕ) (d : Room) → i < length xs → AreNew xs → IsNew (get_or xs i d)
new_at [] i d l h = absurd (omega arith)
new_at (x ∷ xs) zero d l h = h.0
new_at (x ∷ xs) (suc i) d l h = new_at xs i d (omega arith) h.1

pub new_set : (xs : List Room) (i : ℕ) (x : Room) → AreNew xs → IsNew x → AreNew (set xs i x)
new_set [] i x h k = tt
new_set (y ∷ xs) zero x h k = (k, h.1)
new_set (y ∷ xs) (suc i) x h k = (h.0, new_set xs i x h.1 k)
