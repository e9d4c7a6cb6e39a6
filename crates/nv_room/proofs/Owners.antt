-- What the owner word's parts are.
use Rattle.std.proofs.Common.{◌≡◌, ℕ, ◌/◌, ◌%◌, ◌<◌, ◌≤◌, ◌⊎◌, Bool, true, false, eq-eqb, ne_eqb, List, refl, inl, inr, Some, arith}
use Rattle.std.specs.Prelude.{Option, if◌then◌else◌}
use Rattle.nv_room.specs.Owner.{Phase, held, free, closed, owner_word, owner_at, opened_at, is_held, is_free, is_closed, is_noted, note_of, note_after}

pub data Found (n r : ℕ) : Phase → Type 0 where
  as_held : is_held r ≡ true → is_free r ≡ false → is_closed r ≡ false → (owner_at r ≡ 0) × (r < 2048) → Found n r held
  as_free : is_held r ≡ false → is_free r ≡ true → is_closed r ≡ false → owner_at r ≡ n → Found n r free
  as_closed : is_held r ≡ false → is_free r ≡ false → is_closed r ≡ true → owner_at r ≡ n → Found n r closed

pub found : (ph : Phase) (h o n r : ℕ) → h < 16 → o ≤ 16 → r ≡ owner_word ph h o n → Found n r ph
found held h o n r l b is = let m : r % 4 ≡ 1 = omega arith in let d : r / 2048 ≡ 0 = omega arith in as_held (eq-eqb (r % 4) 1 m) (ne_eqb (r % 4) 0 (λ e. omega arith)) (ne_eqb (r % 4) 2 (λ e. omega arith)) (d, omega arith)
found free h o n r l b is = let m : r % 4 ≡ 0 = omega arith in let d : r / 2048 ≡ n = omega arith in as_free (ne_eqb (r % 4) 1 (λ e. omega arith)) (eq-eqb (r % 4) 0 m) (ne_eqb (r % 4) 2 (λ e. omega arith)) d
found closed h o n r l b is = let m : r % 4 ≡ 2 = omega arith in let d : r / 2048 ≡ n = omega arith in as_closed (ne_eqb (r % 4) 1 (λ e. omega arith)) (ne_eqb (r % 4) 0 (λ e. omega arith)) (eq-eqb (r % 4) 2 m) d

-- every owner word tells how many stations are open
pub found_open : (ph : Phase) (h o n r : ℕ) → h < 16 → o ≤ 16 → r ≡ owner_word ph h o n → opened_at r ≡ o
found_open held h o n r l b is = let q : r / 64 % 32 ≡ o = omega arith in q
found_open free h o n r l b is = let q : r / 64 % 32 ≡ o = omega arith in q
found_open closed h o n r l b is = let q : r / 64 % 32 ≡ o = omega arith in q

noted_by : (b : Bool) (a k : ℕ) (freed : Option ℕ) → (if b then Some a else freed) ≡ Some k → ((b ≡ true) × (a ≡ k)) ⊎ (freed ≡ Some k)
noted_by true a k freed e = inl (refl, cc)
noted_by false a k freed e = inr e

-- the note is new, or was there
pub noted_is : (freed : Option ℕ) (st : ℕ) (floors : List ℕ) (r k : ℕ) → note_after freed st floors r ≡ Some k → ((is_noted st floors r ≡ true) × (note_of r ≡ k)) ⊎ (freed ≡ Some k)
noted_is freed st floors r k e = noted_by (is_noted st floors r) (note_of r) k freed e
