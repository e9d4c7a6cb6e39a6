-- Bytes that are stored at once are those that are stored one by one.
use Rattle.std.proofs.Common.{◌≡◌, ◌∙◌, ap, refl, ℕ, suc, ◌+◌, ◌^◌, ◌<◌, ◌≤◌, Bool, true, false, if◌then◌else◌, nat_lt, List, [], ◌∷◌, length, set, sym, Result, Ok, Err, inl, inr, arith}
use Rattle.std.specs.Prelude.{is_ok}
use Rattle.std.specs.List.{list_any}
use Rattle.std.proofs.lemmas.Bool.{or_cases, or_left, or_right, eqb-true}
use Rattle.std.proofs.lemmas.Bool.Decides.{nat_tests}
use Rattle.nv_memory.specs.declared.region.Access.{Access}
use Rattle.nv_memory.specs.declared.region.Region.{Region}
use Rattle.nv_memory.specs.declared.region.Right.{Right}
use Rattle.nv_memory.specs.declared.region.Right.TheVariants.{Write}
use Rattle.nv_memory.specs.Bytes.{put}
use Rattle.nv_memory.specs.Region.{covers, holds}
use Rattle.nv_memory.specs.Image.{Image, allowed, stored}
use Rattle.nv_guest.specs.Answers.{with_byte, with_each_byte}

in_one : (rs : List Region) (a n b m : ℕ) (right : Right) → a ≤ b → b + m ≤ a + n → list_any (covers a n right) rs ≡ true → list_any (covers b m right) rs ≡ true
in_one [] a n b m right h k t = t
in_one (r ∷ rs) a n b m right h k t = elim (or_cases _ _ t) [
  | inl here ↦ or_left _ _ (at_one here)
  | inr there ↦ or_right _ _ (in_one rs a n b m right h k there)
]
  where
    at_one : covers a n right r ≡ true → covers b m right r ≡ true
    at_one here = grind (arith, nat_tests)

-- a part of a range that is held is held
part_held : (rs : List Region) (a n b m : ℕ) (right : Right) → a ≤ b → b + m ≤ a + n → 0 < n → holds rs a n right ≡ true → holds rs b m right ≡ true
part_held rs a n b m right h k some t = elim (or_cases _ _ t) [
  | inl none ↦ (let z : n ≡ 0 = eqb-true n 0 none in absurd (omega (arith, z)))
  | inr one ↦ or_right _ _ (in_one rs a n b m right h k one)
]

one_byte : (memory : Image) (at b : ℕ) → at < 2 ^ 32 → holds memory.regions at 1 Write ≡ true → with_byte memory at b ≡ record memory { bytes = set memory.bytes at b }
unfolding with_byte
one_byte memory at b low held =
    let is : nat_lt at (2 ^ 32) ≡ true = grind (arith, nat_tests) in
    ap (λ x. if x then stored memory at (b ∷ []) else memory) is ∙ ap (λ x. if x then record memory { bytes = set memory.bytes at b } else memory) held

block : (memory : Image) (at : ℕ) (bytes : List ℕ) → at + length bytes < 2 ^ 32 → holds memory.regions at (length bytes) Write ≡ true
    → with_each_byte memory at bytes ≡ record memory { bytes = put memory.bytes at bytes }
unfolding with_each_byte
block memory at [] low held = refl
block memory at (b ∷ bs) low held =
    let first = part_held memory.regions at (suc (length bs)) at 1 Write (omega arith) (omega arith) (omega arith) held in
    let rest = part_held memory.regions at (suc (length bs)) (at + 1) (length bs) Write (omega arith) (omega arith) (omega arith) held in
    ap (λ (m : Image). with_each_byte m (at + 1) bs) (one_byte memory at b (omega arith) first)
    ∙ block (record memory { bytes = set memory.bytes at b }) (at + 1) bs (omega arith) rest

module _ (memory : Image) (at : ℕ) (bytes : List ℕ) where
  abbrev answer : Bool → Result (Unit {0}) Access
  answer b = if b then Ok tt else Err (record { 0 = at })

  abbrev after : Bool → Image
  after b = if b then record memory { bytes = put memory.bytes at bytes } else memory

  -- where the memory takes all bytes at once, they are all stored
  pub stored_all : (r : Result (Unit {0}) Access) (new : Image) → at + length bytes < 2 ^ 32 → r ≡ allowed memory at (length bytes) Write → new ≡ stored memory at bytes → is_ok r ≡ true
      → new ≡ with_each_byte memory at bytes
  stored_all r new low answers is ok =
      by (holds memory.regions at (length bytes) Write) refl
    where
      by : (b : Bool) → holds memory.regions at (length bytes) Write ≡ b → new ≡ with_each_byte memory at bytes
      by true h = is ∙ ap after h ∙ sym (block memory at bytes low h)
      by false h = (let refuses : is_ok r ≡ false = ap is_ok (answers ∙ ap answer h) in cc)

  pub stored_none : (r : Result (Unit {0}) Access) (new : Image) → r ≡ allowed memory at (length bytes) Write → new ≡ stored memory at bytes → is_ok r ≡ false → new ≡ memory
  stored_none r new answers is refuses =
      by (holds memory.regions at (length bytes) Write) refl
    where
      by : (b : Bool) → holds memory.regions at (length bytes) Write ≡ b → new ≡ memory
      by true h = (let takes : is_ok r ≡ true = ap is_ok (answers ∙ ap answer h) in cc)
      by false h = is ∙ ap after h
