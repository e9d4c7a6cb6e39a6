-- What a seat caches beside its view.
use Rattle.std.specs.Prelude.{◌≡◌, ℕ, ◌<◌, ◌≤◌, List, length, slice_index_or, slice_get, Some}
use Rattle.nv_words.specs.Spelling.{IsWhole, low}

-- none is above the view's of the same place
abbrev pub AtMost : List ℕ → List ℕ → Type 0
AtMost cached floors = (s : ℕ) → s < length floors → slice_index_or cached s 0 ≤ slice_index_or floors s 0

-- while words are no whole spelling, one more has a place
abbrev pub HasNext : List ℕ → Type 0
HasNext words = ¬ IsWhole words → length words < 518

-- there are no more words than an event has, and the low half of word 1 is the event's number
pub record AreOf (number : ℕ) (words : List ℕ) : Type 0 where
  pub few : length words ≤ 518
  pub number_is : (x : ℕ) → slice_get words 1 ≡ Some x → low x ≡ number
