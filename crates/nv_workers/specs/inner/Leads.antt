-- What a leader's turn comes to.
use Rattle.std.specs.Prelude.{◌≡◌, ◌+◌, ◌<◌, ◌≤◌, ◌⊎◌, ℕ, Bool, true, false, List, length, Option, None, Some}
use Rattle.nv_calls.specs.declared.kernel.SyscallKernel.{Ghosts}
use Rattle.nv_room.specs.declared.view.View.{View}
use Rattle.nv_room.specs.declared.room.Room.{Room}
use Rattle.nv_room.specs.declared.room.Lead.{Lead}
use Rattle.nv_room.specs.Seats.{IsLeadOf, lead_view, version_of_lead, opened_of, due_of, stations_of, hands_of, on_demand_of, AskedSoFar}
use Rattle.nv_ring.specs.Places.{WaitsFor}
use Rattle.nv_threads.specs.Threads.{Proc, threads}
use Rattle.nv_replay.specs.Follow.{Judge}
use Rattle.nv_calls.specs.Hands.{has}
use Rattle.nv_replay.specs.Hands.{count_above}
use Rattle.nv_replay.specs.Sequence.{is_going}
use Rattle.nv_replay.specs.Version.{Running, asking_next}
use Rattle.nv_workers.specs.declared.follows.Next.{Next}
use Rattle.nv_workers.specs.declared.follows.Next.TheVariants.{Moved, Ahead, Waits, Leads, Hands, Leaves, Left}
use Rattle.nv_workers.specs.Working.{LeadsOn, HasEnded}

-- The version came to no call: it was dropped.
abbrev pub HasDropped : ℕ → Running Proc → Running Proc → Option ℕ → Type 0
HasDropped most v v2 asked = (asked ≡ None) × (v2 ≡ asking_next threads most v) × (v2.asked ≡ None) × (is_going v2.at.fate ≡ false)

-- A call of this thread was asked already, or the version has come to it.
abbrev pub HasCome : ℕ → Running Proc → Running Proc → Option ℕ → ℕ → Type 0
HasCome most v v2 asked tid = ((asked ≡ Some tid) × (v2 ≡ v)) ⊎ ((asked ≡ None) × (v2 ≡ asking_next threads most v) × (v2.asked ≡ Some tid))

-- Leaders hand over on demand. A station is left beside those kept for the planned lengths above this one, and the version may lead a part beside those that it
-- may have to lead from them on.
pub record HasSpare {K : Type 0} {G : Ghosts K} (planned : List ℕ) (room : Room K) (v : Running Proc) (l : Lead K G) : Type 0 where
  pub demand : on_demand_of room ≡ true
  pub station : opened_of l + count_above planned v.at.seen < stations_of room
  pub part : length v.led + count_above planned v.at.seen ≤ 8

-- What comes next for a leader whose call was served: with its fate it leaves. Else it goes on only at a length that isn't planned, and hands over only at one
-- that is, or where it may.
module _ {K : Type 0} {G : Ghosts K} (planned : List ℕ) (room : Room K) (v : Running Proc) (l : Lead K G) where
  abbrev pub IsNext : Next → Type 0
  IsNext Moved = (v.at.fate ≡ None) × (has planned v.at.seen ≡ false)
  IsNext Ahead = ⊥
  IsNext Waits = ⊥
  IsNext Leads = ⊥
  IsNext Hands = (v.at.fate ≡ None) × ((has planned v.at.seen ≡ true) ⊎ HasSpare planned room v l)
  IsNext Leaves = is_going v.at.fate ≡ false
  IsNext Left = ⊥

module _ (judges : ℕ → Judge) {K : Type 0} {G : Ghosts K} (room : Room K) (most : ℕ) (p : Proc) (v : Running Proc) (l : Lead K G) (asked : Option ℕ) where
  abbrev pub AfterLead : Next → Type 0
  AfterLead Moved = LeadsOn judges room most p v false l asked
  AfterLead Ahead = ⊥
  AfterLead Waits = LeadsOn judges room most p v false l asked
  AfterLead Leads = ⊥
  AfterLead Hands = LeadsOn judges room most p v true l asked × (asked ≡ None)
  AfterLead Leaves = IsLeadOf room l × (due_of l ≡ false) × HasEnded judges most (hands_of room) (on_demand_of room) (version_of_lead l) p v (lead_view l) × AskedSoFar room l
  AfterLead Left = ⊥

-- the lead is given up
abbrev pub gives_up : Next → Bool
gives_up Moved = false
gives_up Ahead = false
gives_up Waits = false
gives_up Leads = false
gives_up Hands = true
gives_up Leaves = false
gives_up Left = false

-- a turn after which the version leads on, or gives up the lead, has published an event
abbrev pub HasPublished : {T : Type 0} → View T → View T → Next → Type 0
HasPublished w w2 Moved = length w.seen < length w2.seen
HasPublished w w2 Ahead = Unit {0}
HasPublished w w2 Waits = Unit {0}
HasPublished w w2 Leads = Unit {0}
HasPublished w w2 Hands = length w.seen < length w2.seen
HasPublished w w2 Leaves = Unit {0}
HasPublished w w2 Left = Unit {0}

module _ {K : Type 0} {G : Ghosts K} (room : Room K) (old new : Lead K G) where
  -- a turn that waits shows which station it waits for
  abbrev pub IsLate : Next → Type 0
  IsLate Waits = (s : ℕ) × WaitsFor room old new s
  IsLate Moved = Unit {0}
  IsLate Ahead = ⊥
  IsLate Leads = ⊥
  IsLate Hands = Unit {0}
  IsLate Leaves = Unit {0}
  IsLate Left = ⊥
