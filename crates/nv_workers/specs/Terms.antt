-- What the turns of a run go by.
use Rattle.std.specs.Prelude.{◌≡◌, ◌≤◌, ℕ}
use Rattle.std.specs.Option.{option_copied}
use Rattle.nv_calls.specs.Limits.{MOST_EVENTS}
use Rattle.nv_room.specs.declared.room.Room.{Room}
use Rattle.nv_room.specs.Seats.{hands_of}
use Rattle.nv_replay.specs.Follow.{Judge, judge_of}
use Rattle.nv_workers.specs.declared.terms.Terms.{Terms}

-- each version's judge
abbrev pub judges_of : {T : Type 0} → Terms T → ℕ → Judge
judges_of t = judge_of (option_copied t.rules)

-- the planned lengths are those that the room was made with, and the log is no longer than a room tells
pub record AreOfRoom {K : Type 0} (room : Room K) {T : Type 0} (t : Terms T) : Type 0 where
  pub most : t.most ≤ MOST_EVENTS
  pub hands : hands_of room ≡ t.hands.now
