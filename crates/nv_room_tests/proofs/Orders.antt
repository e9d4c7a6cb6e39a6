-- Readers in the order of their versions.
use Rattle.std.proofs.Common.{◌≡◌, ℕ, zero, suc, ◌+◌, ◌-◌, ◌<◌, ◌⊎◌, List, [], ◌∷◌, ◌++◌, length, get_or, sym, ap, refl, ◌∙◌, subst, inl, inr, ⊎_elim, arith}
use mathlib.Core.Option.{some, some-injective, some-ne-none}
use lib.ListN.{get_elem?}
use Rattle.atomic_table.proofs.Lists.{at_longer, at_last}
use Rattle.nv_calls.specs.declared.kernel.SyscallKernel.{Ghosts}
use Rattle.nv_room.specs.declared.room.Room.{Room}
use Rattle.nv_room.specs.declared.room.Reader.{Reader}
use Rattle.nv_room.specs.declared.room.Left.{Left}
use Rattle.nv_room.specs.Seats.{FreshReaders, IsFreshReader, IsOfRoom, IsLeftOf, version_of_reader, version_of_left, versions_of}
use Rattle.nv_room.specs.Lefts.{IsEach}
use Rattle.nv_room_tests.specs.Backs.{LeftInOrder}

pub at_below : {A : Type 0} (l : List A) (i : ℕ) (a : A) → get_elem? l i ≡ some a → i < length l
at_below [] i a e = absurd (some-ne-none a (sym e))
at_below (x ∷ xs) zero a e = omega arith
at_below (x ∷ xs) (suc i) a e = let h = at_below xs i a e in omega arith

pub at_value : {A : Type 0} (l : List A) (i : ℕ) (a d : A) → get_elem? l i ≡ some a → get_or l i d ≡ a
at_value [] i a d e = absurd (some-ne-none a (sym e))
at_value (x ∷ xs) zero a d e = some-injective x a e
at_value (x ∷ xs) (suc i) a d e = at_value xs i a d e

there : {A : Type 0} (l : List A) (i : ℕ) → i < length l → (a : A) × (get_elem? l i ≡ some a)
there [] i h = absurd (omega arith)
there (x ∷ xs) zero h = (x, refl)
there (x ∷ xs) (suc i) h = there xs i (omega arith)

at_end : {A : Type 0} (l : List A) (a b : A) (j : ℕ) → get_elem? (l ++ a ∷ []) j ≡ some b → (get_elem? l j ≡ some b) ⊎ ((j ≡ length l) × (a ≡ b))
at_end [] a b zero e = inr (refl, some-injective a b e)
at_end [] a b (suc j) e = absurd (some-ne-none b (sym e))
at_end (x ∷ xs) a b zero e = inl e
at_end (x ∷ xs) a b (suc j) e = ⊎_elim (λ t. inl t) (λ t. inr (ap suc t.0, t.1)) (at_end xs a b j e)

-- Seats that have left

module _ {K : Type 0} {G : Ghosts K} where
  -- the seats of the highest versions, downwards
  abbrev pub Down : Room K → List (Left K G) → Type 0
  Down room ls = (i : ℕ) (l : Left K G) → get_elem? ls i ≡ some l → IsLeftOf room l × (version_of_left l + i + 1 ≡ versions_of room)

  pub down_more : (room : Room K) (ls : List (Left K G)) (l : Left K G) → Down room ls → IsLeftOf room l → version_of_left l + length ls + 1 ≡ versions_of room → Down room (ls ++ l ∷ [])
  down_more room ls l old of is i x f = ⊎_elim (λ (q : get_elem? ls i ≡ some x). old i x q)
      (λ (q : (i ≡ length ls) × (l ≡ x)). subst (λ (z : Left K G). IsLeftOf room z × (version_of_left z + i + 1 ≡ versions_of room)) q.1 (of, (let a = q.0 in omega arith))) (at_end ls l x i f)

  -- as many as there are versions are the seats of all
  pub all_left : (room : Room K) (ls : List (Left K G)) → Down room ls → length ls ≡ versions_of room → IsEach room ls
  all_left room ls h long = (
    record {
      table = λ i l f. let m = h i l f in m.0;
      apart = λ i j l q f g e. let a = (h i l f).1 in let b = (h j q g).1 in omega arith;
    },
    λ s near. let i : ℕ = versions_of room - suc s in let x = there ls i (omega arith) in let m = (h i x.0 x.1).1 in (i, x.0, x.1, omega arith),
  )

  pub fresh_less : (room : Room K) (rs rest : List (Reader K G)) (r : Reader K G) → rs ≡ rest ++ r ∷ [] → FreshReaders room rs → FreshReaders room rest × IsFreshReader room (length rest + 1) r
  fresh_less room rs rest r is old = (
    (λ i x f. old i x (ap (λ (z : List (Reader K G)). get_elem? z i) is ∙ at_longer rest (r ∷ []) i x f)),
    old (length rest) r (ap (λ (z : List (Reader K G)). get_elem? z (length rest)) is ∙ at_last rest r (length rest) refl),
  )

  -- the seats of the versions from 1 on, and of version 0 after them, are the seats of all
  pub first_after : (room : Room K) (ls all : List (Left K G)) (first : Left K G) → all ≡ ls ++ first ∷ [] → LeftInOrder room ls → IsLeftOf room first → version_of_left first ≡ 0 → length ls + 1 ≡ versions_of room → IsEach room all
  first_after room ls all first is order of zeroth long = subst (IsEach room) (sym is) (
    record {
      table = λ i l f. ⊎_elim (λ (q : get_elem? ls i ≡ some l). (order i l q).0) (λ (q : (i ≡ length ls) × (first ≡ l)). subst (λ (z : Left K G). IsLeftOf room z) q.1 of) (at_end ls first l i f);
      apart = λ i j l q f g e. ⊎_elim
          (λ (a : get_elem? ls i ≡ some l). ⊎_elim (λ (b : get_elem? ls j ≡ some q). let x = (order i l a).1 in let y = (order j q b).1 in omega arith)
          (λ (b : (j ≡ length ls) × (first ≡ q)). let x = (order i l a).1 in let y = ap (λ (z : Left K G). version_of_left z) b.1 in absurd (omega arith)) (at_end ls first q j g))
          (λ (a : (i ≡ length ls) × (first ≡ l)). ⊎_elim (λ (b : get_elem? ls j ≡ some q). let x = ap (λ (z : Left K G). version_of_left z) a.1 in let y = (order j q b).1 in absurd (omega arith))
          (λ (b : (j ≡ length ls) × (first ≡ q)). a.0 ∙ sym b.0) (at_end ls first q j g))
          (at_end ls first l i f);
    },
    λ s near. at_version s near,
  )
    where
      at_version : (s : ℕ) → s < versions_of room → (i : ℕ) × (r : Left K G) × (get_elem? (ls ++ first ∷ []) i ≡ some r) × (version_of_left r ≡ s)
      at_version zero near = (length ls, first, at_last ls first (length ls) refl, zeroth)
      at_version (suc s) near = let x = there ls s (omega arith) in let m = (order s x.0 x.1).1 in (s, x.0, at_longer ls (first ∷ []) s x.0 x.1, omega arith)
