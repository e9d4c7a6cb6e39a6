-- How many steps that get on a seat can take.
use Rattle.std.specs.Prelude.{ℕ, ◌+◌, ◌-◌, ◌*◌, List, [], ◌∷◌, length}
use Rattle.nv_calls.specs.Limits.{MOST_EVENTS}
use Rattle.nv_room.specs.declared.view.View.{View}
use Rattle.nv_room.specs.declared.view.Role.{Role}
use Rattle.nv_room.specs.declared.view.Role.TheVariants.{Reader, Lead, Opening, Leaving, Moving, Gone, Spent}
use Rattle.nv_room.specs.Kinds.{Kind, looks_head, looks_owner, looks_cursor, looks_spare, probes, reads, writes, sees, publishes, takes, gives_up, leaves, opens, hands, moves}

-- at most so many steps of a seat change its role, before it is at a later station or has left
abbrev pub turns_at : Role → ℕ
turns_at Moving = 4
turns_at Reader = 3
turns_at Lead = 2
turns_at Opening = 1
turns_at Leaving = 1
turns_at Gone = 0
turns_at Spent = 0

-- in a room of n stations: an event for each that the log may still get, and what is left at this station and the later ones
abbrev pub steps_left : {T : Type 0} → ℕ → View T → ℕ
steps_left n v = (MOST_EVENTS - length v.seen) + 4 * (n - v.station) + turns_at v.role

-- 1 for a step that gets on
abbrev pub gets_on : Kind → ℕ
gets_on (looks_head r) = 0
gets_on (looks_owner r) = 0
gets_on (looks_cursor s r) = 0
gets_on (looks_spare r) = 0
gets_on (probes l r) = 0
gets_on (reads r) = 0
gets_on (writes r) = 0
gets_on sees = 1
gets_on publishes = 1
gets_on takes = 1
gets_on (gives_up r) = 1
gets_on leaves = 1
gets_on opens = 1
gets_on (hands r) = 1
gets_on moves = 1

-- how many of them got on
abbrev pub steps_on : List Kind → ℕ
steps_on [] = 0
steps_on (k ∷ ks) = gets_on k + steps_on ks
