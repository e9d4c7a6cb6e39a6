-- How long a list may become with the memory that it has.
use Rattle.std.proofs.Common.{◌≡◌, ℕ, ◌+◌, ◌≤◌, ◌<◌, arith}
use Rattle.std.proofs.Math.Nat.{min-le_left, min-le_right, le-min}
use Rattle.nv_calls.specs.Known.{most_of}
use Rattle.nv_calls.specs.Tables.{table_most}

module _ (gone capacity : ℕ) where
  pub most-inside : (n : ℕ) → n < most_of gone capacity → (n < gone + capacity) × (n < 18446744073709551615)
  unfolding most_of
  most-inside n few = (omega (arith, few, min-le_left (gone + capacity) 18446744073709551615), omega (arith, few, min-le_right (gone + capacity) 18446744073709551615))

  pub most-fits : (n : ℕ) → n ≤ most_of gone capacity → (n ≤ gone + capacity) × (n ≤ 18446744073709551615)
  unfolding most_of
  most-fits n few = (omega (arith, few, min-le_left (gone + capacity) 18446744073709551615), omega (arith, few, min-le_right (gone + capacity) 18446744073709551615))

  pub most-holds : (n : ℕ) → n ≤ gone + capacity → n ≤ 18446744073709551615 → n ≤ most_of gone capacity
  unfolding most_of
  most-holds n few small = le-min few small

  pub most-grows : (gone' capacity' : ℕ) → gone + capacity ≤ gone' + capacity' → most_of gone capacity ≤ most_of gone' capacity'
  unfolding most_of
  most-grows gone' capacity' more =
      let few = min-le_left (gone + capacity) 18446744073709551615 in
      le-min (omega (arith, few, more)) (min-le_right (gone + capacity) 18446744073709551615)

-- the same of a list of which so many of so many are there
module _ (count there places room : ℕ) where
  pub table-inside : (n : ℕ) → there ≤ count → count ≡ n → n < table_most count there places room → (there < places) × (there < room) × (count < 18446744073709551615)
  unfolding table_most
  table-inside n less is few = (omega (arith, less, is, few), omega (arith, less, is, few), omega (arith, less, is, few))

  pub table-holds : (more : ℕ) → there ≤ count → there + more ≤ places → there + more ≤ room → count + more ≤ 18446744073709551615 → count + more ≤ table_most count there places room
  unfolding table_most
  table-holds more less numbered held small = omega (arith, less, numbered, held, small)

  pub table-grows : (there' places' room' : ℕ) → there' ≤ there → places ≤ places' → room ≤ room' → table_most count there places room ≤ table_most count there' places' room'
  unfolding table_most
  table-grows there' places' room' less numbered held = omega (arith, less, numbered, held)

  pub table-more : (there' places' room' : ℕ) → there ≤ count → there' ≡ there + 1 → places' ≡ places → room' ≡ room → table_most (count + 1) there' places' room' ≡ table_most count there places room
  unfolding table_most
  table-more there' places' room' less more numbered held = omega (arith, less, more, numbered, held)
