-- What `lower_gone` says of the stations below a reader's.
use Rattle.std.specs.Prelude.{◌≡◌, ◌<◌, ◌≤◌, ℕ, true, slice_index_or}
use Rattle.nv_calls.specs.Limits.{MOST_EVENTS}
use Rattle.nv_room.specs.Owner.{GONE, lower_marked}
use Rattle.nv_room.specs.declared.view.View.{View}
use Rattle.nv_promotion.specs.declared.takes.Lower.{Lower}
use Rattle.nv_promotion.specs.declared.takes.Lower.TheVariants.{AllGone, Alive}

-- the looks change no list and no note, and take no mark back
pub record KeepsMarks {T : Type 0} (old new : View T) : Type 0 where
  pub seen : new.seen ≡ old.seen
  pub read : new.read ≡ old.read
  pub station : new.station ≡ old.station
  pub freed : new.freed ≡ old.freed
  pub spans : new.spans ≡ old.spans
  pub head_looks : new.head_looks ≡ old.head_looks
  pub head_last : new.head_last ≡ old.head_last
  pub owner_looks : new.owner_looks ≡ old.owner_looks
  pub owner_last : new.owner_last ≡ old.owner_last
  pub owner_after : new.owner_after ≡ old.owner_after
  pub marks_stay : (s : ℕ) → slice_index_or old.floors s 0 ≡ GONE → slice_index_or new.floors s 0 ≡ GONE

-- a lower station's cursor was looked at since, last of all, and was a number
pub record IsAlive {T : Type 0} (old new : View T) (own s : ℕ) : Type 0 where
  pub lower : s < own
  pub looked : old.cursor_looks < new.cursor_looks
  pub last : new.cursor_of ≡ s
  pub count : new.cursor_last ≤ MOST_EVENTS

abbrev pub IsLower : {T : Type 0} → View T → View T → ℕ → Lower → Type 0
IsLower old new own AllGone = lower_marked own new.floors ≡ true
IsLower old new own (Alive s) = IsAlive old new own s
