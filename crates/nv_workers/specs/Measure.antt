-- How many turns of a worker may still get on.
use Rattle.std.specs.Prelude.{◌<◌, ◌≤◌, ◌+◌, ◌-◌, ◌*◌, ℕ}
use Rattle.nv_calls.specs.Limits.{MOST_EVENTS}
use Rattle.nv_calls.specs.declared.kernel.SyscallKernel.{Ghosts}
use Rattle.nv_replay.specs.Rewrites.{MOST_REWRITES}
use Rattle.nv_workers.specs.declared.worker.Seat.{Seat}
use Rattle.nv_workers.specs.declared.worker.Seat.TheVariants.{Reading, Leading, Gone, Moving}
use Rattle.nv_workers.specs.declared.worker.Turn.{Turn}
use Rattle.nv_workers.specs.declared.worker.Turn.TheVariants.{Moved, Ahead, Waiting, Done}
use Rattle.nv_workers.specs.declared.worker.Worker.{Worker}
use Rattle.nv_workers.specs.Worker.{IsGone, seen_by}

-- in so many turns a version may go on while it waits, and so many may get on in all, as its worker is made
abbrev pub MOST_AHEAD : ℕ
MOST_AHEAD = 1000000000

abbrev pub MOST_TURNS : ℕ
MOST_TURNS = 2 * MOST_EVENTS + MOST_REWRITES + MOST_AHEAD + 2

module _ {K : Type 0} {G : Ghosts K} where
  -- a reader may still take the lead, and each seat has to leave
  abbrev pub seat_left : Seat K G → ℕ
  seat_left (Reading r held) = 2
  seat_left (Leading l asked) = 1
  seat_left (Gone l) = 0
  seat_left Moving = 0

  -- for each event that the log may still get, for each call that may still be rewritten, for each turn in which the version may still go on while it
  -- waits, and for the seat; a lead that becomes a reader again has just served an event
  abbrev pub turns_left : Worker K G → ℕ
  turns_left w = 2 * (MOST_EVENTS - seen_by w.seat) + (MOST_REWRITES - w.version.at.rewrites) + w.spare + seat_left w.seat

  -- a turn that gets on leaves fewer, as does the one with which the seat leaves, and none leaves more
  abbrev pub Falls : Turn → Worker K G → Worker K G → Type 0
  Falls Moved v w = turns_left w < turns_left v
  Falls Ahead v w = turns_left w < turns_left v
  Falls Waiting v w = turns_left w ≤ turns_left v
  Falls Done v w = (turns_left w ≤ turns_left v) × (¬ IsGone v.seat → turns_left w < turns_left v)
