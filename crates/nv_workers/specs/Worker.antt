-- What a worker keeps, whatever its seat is.
use Rattle.std.specs.Prelude.{◌≡◌, ◌<◌, ◌⊎◌, ℕ, false, List, length, None}
use Rattle.nv_calls.specs.declared.kernel.SyscallKernel.{Ghosts}
use Rattle.nv_room.specs.declared.room.Room.{Room}
use Rattle.nv_room.specs.Seats.{IsLeftOf, view, lead_view, left_view, version_of_reader, version_of_lead, version_of_left, hands_of, on_demand_of}
use Rattle.nv_threads.specs.Threads.{Proc}
use Rattle.nv_replay.specs.Follow.{Judge}
use Rattle.nv_replay.specs.Sequence.{is_going}
use Rattle.nv_replay.specs.Version.{Running}
use Rattle.nv_workers.specs.declared.worker.Seat.{Seat}
use Rattle.nv_workers.specs.declared.worker.Seat.TheVariants.{Reading, Leading, Gone, Moving}
use Rattle.nv_workers.specs.declared.worker.Turn.{Turn}
use Rattle.nv_workers.specs.declared.worker.Turn.TheVariants.{Moved, Ahead, Waiting, Done}
use Rattle.nv_workers.specs.declared.worker.Worker.{Worker}
use Rattle.nv_ring.specs.Places.{WaitsFor}
use Rattle.nv_workers.specs.Follows.{HasWaited}
use Rattle.nv_workers.specs.Working.{FollowsOn, LeadsOn, HasEnded}

module _ {K : Type 0} {G : Ghosts K} where
  -- the version that the seat began with
  abbrev pub version_of_seat : Seat K G → ℕ
  version_of_seat (Reading r held) = version_of_reader r
  version_of_seat (Leading l asked) = version_of_lead l
  version_of_seat (Gone l) = version_of_left l
  version_of_seat Moving = 0

  abbrev pub version_of : Worker K G → ℕ
  version_of w = version_of_seat w.seat

  -- the version's fate is there and the seat has left
  abbrev pub IsGone : Seat K G → Type 0
  IsGone (Reading r held) = ⊥
  IsGone (Leading l asked) = ⊥
  IsGone (Gone l) = Unit {0}
  IsGone Moving = ⊥

module _ (judges : ℕ → Judge) {K : Type 0} {G : Ghosts K} (room : Room K) (most : ℕ) (p : Proc) (v : Running Proc) (buf : List ℕ) where
  abbrev pub WorksAt : Seat K G → Type 0
  WorksAt (Reading r held) = FollowsOn judges room most p v r held buf
  WorksAt (Leading l asked) = LeadsOn judges room most p v false l asked
  WorksAt (Gone l) = IsLeftOf room l × HasEnded judges most (hands_of room) (on_demand_of room) (version_of_left l) p v (left_view l)
  WorksAt Moving = ⊥

module _ {K : Type 0} {G : Ghosts K} where
  -- of a version that was fresh with the process p
  abbrev pub Works : (ℕ → Judge) → Room K → ℕ → Proc → Worker K G → Type 0
  Works judges room most p w = WorksAt judges room most p w.version w.buf w.seat

  -- a turn is the last one exactly where the seat has left
  abbrev pub IsLast : Turn → Seat K G → Type 0
  IsLast Moved s = ¬ IsGone s
  IsLast Ahead s = ¬ IsGone s
  IsLast Waiting s = ¬ IsGone s
  IsLast Done s = IsGone s

  -- how many events the seat has seen
  abbrev pub seen_by : Seat K G → ℕ
  seen_by (Reading r held) = length (view r).seen
  seen_by (Leading l asked) = length (lead_view l).seen
  seen_by (Gone l) = length (left_view l).seen
  seen_by Moving = 0

  abbrev pub TookLead : Seat K G → Seat K G → Type 0
  TookLead (Reading r held) (Reading r2 held2) = ⊥
  TookLead (Reading r held) (Leading l asked) = Unit {0}
  TookLead (Reading r held) (Gone l) = ⊥
  TookLead (Reading r held) Moving = ⊥
  TookLead (Leading l asked) t = ⊥
  TookLead (Gone l) t = ⊥
  TookLead Moving t = ⊥

  -- the last looks of a seat that waits
  abbrev pub HasStayed : Room K → Seat K G → Seat K G → Type 0
  HasStayed room (Reading r held) (Reading r2 held2) = HasWaited (view r) (view r2)
  HasStayed room (Reading r held) (Leading l asked) = ⊥
  HasStayed room (Reading r held) (Gone l) = ⊥
  HasStayed room (Reading r held) Moving = ⊥
  HasStayed room (Leading l asked) (Reading r held) = ⊥
  HasStayed room (Leading l asked) (Leading l2 asked2) = (s : ℕ) × WaitsFor room l l2 s
  HasStayed room (Leading l asked) (Gone l2) = ⊥
  HasStayed room (Leading l asked) Moving = ⊥
  HasStayed room (Gone l) t = ⊥
  HasStayed room Moving t = ⊥

  -- Moved: the seat's seen list grew, the version's rewrites grew, or the reader took the lead. Ahead, Waiting: the last looks.
  -- Done: the version has its fate, and before that it has none
  abbrev pub TurnTells : Room K → Turn → Running Proc → Running Proc → Seat K G → Seat K G → Type 0
  TurnTells room Moved v v2 s s2 = ((seen_by s < seen_by s2) ⊎ ((v.at.rewrites < v2.at.rewrites) ⊎ TookLead s s2)) × (v2.at.fate ≡ None)
  TurnTells room Ahead v v2 s s2 = HasStayed room s s2 × (v2.at.fate ≡ None)
  TurnTells room Waiting v v2 s s2 = HasStayed room s s2 × (v2.at.fate ≡ None)
  TurnTells room Done v v2 s s2 = is_going v2.at.fate ≡ false
