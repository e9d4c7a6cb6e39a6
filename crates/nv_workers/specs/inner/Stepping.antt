-- What a turn comes to before the seat changes.
use Rattle.std.specs.Prelude.{◌≡◌, ◌<◌, ◌⊎◌, ℕ, true, false, List, length, Some, None}
use Rattle.nv_calls.specs.declared.kernel.SyscallKernel.{Ghosts}
use Rattle.nv_room.specs.declared.room.Room.{Room}
use Rattle.nv_room.specs.Seats.{IsOfRoom, IsLeadOf, view, lead_view, version_of_reader, version_of_lead, due_of, hands_of, on_demand_of, AskedSoFar}
use Rattle.nv_threads.specs.Threads.{Proc}
use Rattle.nv_replay.specs.Follow.{Judge}
use Rattle.nv_replay.specs.Sequence.{is_going}
use Rattle.nv_replay.specs.Version.{Running}
use Rattle.nv_workers.specs.declared.follows.Next.{Next}
use Rattle.nv_workers.specs.declared.follows.Next.TheVariants.{Moved, Ahead, Waits, Leads, Hands, Leaves, Left}
use Rattle.nv_workers.specs.declared.worker.Seat.{Seat}
use Rattle.nv_workers.specs.declared.worker.Seat.TheVariants.{Reading, Leading, Gone, Moving}
use Rattle.nv_workers.specs.Working.{FollowsOn, LeadsOn, HasEnded}
use Rattle.nv_workers.specs.Worker.{WorksAt, IsGone, HasStayed, seen_by}

module _ (judges : ℕ → Judge) {K : Type 0} {G : Ghosts K} (room : Room K) (p : Proc) (v : Running Proc) where
  -- a reader that holds no event, and whose station is next to lead
  abbrev pub CanLead : ℕ → List ℕ → Seat K G → Type 0
  CanLead most buf (Reading r held) = FollowsOn judges room most p v r false buf × ((view r).freed ≡ Some (length (view r).seen))
  CanLead most buf (Leading l asked) = ⊥
  CanLead most buf (Gone l) = ⊥
  CanLead most buf Moving = ⊥

  -- a leader that hands over
  abbrev pub CanHand : ℕ → Seat K G → Type 0
  CanHand most (Reading r held) = ⊥
  CanHand most (Leading l asked) = LeadsOn judges room most p v true l asked × (asked ≡ None)
  CanHand most (Gone l) = ⊥
  CanHand most Moving = ⊥

  -- the version has its fate, and the seat has still to leave
  abbrev pub CanLeave : ℕ → Seat K G → Type 0
  CanLeave most (Reading r held) = IsOfRoom room r × HasEnded judges most (hands_of room) (on_demand_of room) (version_of_reader r) p v (view r)
  CanLeave most (Leading l asked) = IsLeadOf room l × (due_of l ≡ false) × HasEnded judges most (hands_of room) (on_demand_of room) (version_of_lead l) p v (lead_view l) × AskedSoFar room l
  CanLeave most (Gone l) = ⊥
  CanLeave most Moving = ⊥

  abbrev pub AfterStep : ℕ → List ℕ → Seat K G → Next → Type 0
  AfterStep most buf s Moved = WorksAt judges room most p v buf s × ¬ IsGone s
  AfterStep most buf s Ahead = WorksAt judges room most p v buf s × ¬ IsGone s
  AfterStep most buf s Waits = WorksAt judges room most p v buf s × ¬ IsGone s
  AfterStep most buf s Leads = CanLead most buf s
  AfterStep most buf s Hands = CanHand most s
  AfterStep most buf s Leaves = CanLeave most s
  AfterStep most buf s Left = WorksAt judges room most p v buf s × IsGone s

module _ {K : Type 0} {G : Ghosts K} where
  abbrev pub IsReadingSeat : Seat K G → Type 0
  IsReadingSeat (Reading r held) = Unit {0}
  IsReadingSeat (Leading l asked) = ⊥
  IsReadingSeat (Gone l) = ⊥
  IsReadingSeat Moving = ⊥

  -- Moved: the seat's seen list grew, or the version's rewrites did. Ahead, Waits: the last looks. Only a reader is next to lead. Hands: the seen
  -- list grew.
  -- Leaves, Left: the version has its fate, and before that it has none
  abbrev pub StepTells : Room K → Next → Running Proc → Running Proc → Seat K G → Seat K G → Type 0
  StepTells room Moved v v2 s s2 = ((seen_by s < seen_by s2) ⊎ (v.at.rewrites < v2.at.rewrites)) × (v2.at.fate ≡ None)
  StepTells room Ahead v v2 s s2 = HasStayed room s s2 × (v2.at.fate ≡ None)
  StepTells room Waits v v2 s s2 = HasStayed room s s2 × (v2.at.fate ≡ None)
  StepTells room Leads v v2 s s2 = IsReadingSeat s
  StepTells room Hands v v2 s s2 = (seen_by s < seen_by s2) × (v2.at.fate ≡ None)
  StepTells room Leaves v v2 s s2 = is_going v2.at.fate ≡ false
  StepTells room Left v v2 s s2 = is_going v2.at.fate ≡ false
