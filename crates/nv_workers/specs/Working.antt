-- How a worker's version stands to what its seat has seen.
use Rattle.std.specs.Prelude.{◌≡◌, ℕ, Bool, true, false, List, [], ◌∷◌, ◌++◌, map, length, Option, Some, None}
use Rattle.nv_calls.specs.Calls.{Entry}
use Rattle.nv_calls.specs.Logs.{InRange, IsLawful, Start}
use Rattle.nv_calls.specs.Learning.{FromAny}
use Rattle.nv_calls.specs.declared.kernel.SyscallKernel.{Ghosts}
use Rattle.nv_words.specs.Spelling.{spell}
use Rattle.nv_room.specs.declared.view.View.{View}
use Rattle.nv_room.specs.declared.view.Span.{Span}
use Rattle.nv_room.specs.declared.room.Room.{Room}
use Rattle.nv_room.specs.declared.room.Reader.{Reader}
use Rattle.nv_room.specs.declared.room.Lead.{Lead}
use Rattle.nv_room.specs.Spans.{span}
use Rattle.nv_room.specs.Planned.{asked_then}
use Rattle.nv_room.specs.Room.{MayHand, Became}
use Rattle.nv_room.specs.Seats.{IsOfRoom, IsLeadOf, view, lead_view, version_of_reader, station_of_lead, version_of_lead, kernel_of, due_of, stations_of, hands_of, on_demand_of, origin}
use Rattle.nv_threads.specs.Threads.{Proc, threads}
use Rattle.nv_replay.specs.Follow.{Judge}
use Rattle.nv_replay.specs.Version.{Running}
use Rattle.nv_calls.specs.Hands.{has}
use Rattle.nv_replay.specs.LettingGo.{is_let_go}
use Rattle.nv_workers.specs.Ends.{Leaving, ends_of, AreHandedOn, AsPlanned, HasRunAll}
use Rattle.nv_workers.specs.Turns.{held_list, IsReaders, IsServing, IsAsking}

-- what a seat that saw this log tells once it has left
abbrev pub leaving_of : {T : Type 0} → List Entry → View T → Leaving
leaving_of log w = record { station = w.station; seen = log; words = w.read; spans = w.spans }

-- the next event is read whole, stands in the buffer, and is not consumed; or no word of it is read
abbrev pub HoldsNext : Bool → List ℕ → List ℕ → Option Entry → Type 0
HoldsNext false read buf None = read ≡ []
HoldsNext false read buf (Some e) = ⊥
HoldsNext true read buf None = ⊥
HoldsNext true read buf (Some e) = (read ≡ spell e) × (buf ≡ spell e)

-- version i has its fate. Its seat has seen as many events as it has, and tells the spans that it led
pub record HasEnded (judges : ℕ → Judge) {T : Type 0} (most : ℕ) (hands : List ℕ) (on_demand : Bool) (i : ℕ) (p : Proc) (v : Running Proc) (w : View T) : Type 0 where
  pub log : List Entry
  pub spelt : map spell log ≡ w.seen
  pub lawful : IsLawful log
  pub count : v.at.seen ≡ length w.seen
  pub led : v.led ≡ map ends_of w.spans
  pub as_planned : AsPlanned on_demand hands w.spans
  -- where leaders don't hand over on demand, nobody is let go either
  pub stays : on_demand ≡ false → is_let_go v.at.fate ≡ false
  pub done : FromAny log (λ start. HasRunAll threads judges start most hands InRange spell i p v (leaving_of log w))

-- a leader's version has no call asked, or that of this thread; `over` says that it gives up the lead here
abbrev pub Serves : (ℕ → Judge) → Proc → Running Proc → ℕ → Start → ℕ → List ℕ → Bool → List (ℕ × ℕ) → ℕ → List Entry → Option ℕ → Type 0
Serves judges p v i start most hands over led from log None = IsServing threads judges start most hands over i p v led from log
Serves judges p v i start most hands over led from log (Some t) = IsAsking threads judges start most hands i p v led from log × (v.asked ≡ Some t)

-- These lengths; where the lead is given up at this one, it as well, unless it is planned.
abbrev pub asked_by : Bool → List ℕ → ℕ → List ℕ → List ℕ
asked_by true planned n lengths = asked_then planned n lengths
asked_by false planned n lengths = lengths

module _ (judges : ℕ → Judge) {K : Type 0} {G : Ghosts K} (room : Room K) (most : ℕ) (p : Proc) (v : Running Proc) where
  -- a version without a fate that was fresh with the process p, and its reader
  pub record FollowsOn (r : Reader K G) (held : Bool) (buf : List ℕ) : Type 0 where
    pub of : IsOfRoom room r
    pub log : List Entry
    pub next : Option Entry
    pub spelt : map spell log ≡ (view r).seen
    pub lawful : IsLawful (log ++ held_list next)
    pub holds : HoldsNext held (view r).read buf next
    pub led : v.led ≡ map ends_of (view r).spans
    pub handed_on : AreHandedOn (view r).spans
    pub as_planned : AsPlanned (on_demand_of room) (hands_of room) (view r).spans
    pub reading : FromAny log (λ start. IsReaders threads judges start most (hands_of room) (version_of_reader r) p v log next)

  -- the same version where its reader has just read the next event whole, which stands in the buffer: it has decided nothing on it
  pub record HasFound (r : Reader K G) (buf : List ℕ) : Type 0 where
    pub of : IsOfRoom room r
    pub log : List Entry
    pub event : Entry
    pub spelt : map spell log ≡ (view r).seen
    pub lawful : IsLawful (log ++ event ∷ [])
    pub read : (view r).read ≡ spell event
    pub words : buf ≡ spell event
    pub led : v.led ≡ map ends_of (view r).spans
    pub handed_on : AreHandedOn (view r).spans
    pub as_planned : AsPlanned (on_demand_of room) (hands_of room) (view r).spans
    pub reading : FromAny log (λ start. IsReaders threads judges start most (hands_of room) (version_of_reader r) p v log None)

  -- a version without a fate that was fresh with the process p, and its lead; where it is over, it gives up the lead next
  pub record LeadsOn (over : Bool) (l : Lead K G) (asked : Option ℕ) : Type 0 where
    pub of : IsLeadOf room l
    pub none_due : due_of l ≡ false
    pub none_wrote : (lead_view l).wrote ≡ []
    pub before : List Span
    pub from : ℕ
    pub spelt : map spell (G.log (kernel_of l)) ≡ (lead_view l).seen
    pub lawful : IsLawful (G.log (kernel_of l))
    pub spans : (lead_view l).spans ≡ before ++ span (station_of_lead l) (version_of_lead l) from (length (lead_view l).seen) ∷ []
    pub handed_on : AreHandedOn before
    pub as_planned : AsPlanned (on_demand_of room) (hands_of room) before
    pub may : over ≡ true → MayHand (stations_of room) (hands_of room) (lead_view l).opened (length (lead_view l).seen)
    pub asks : Became G.start G.handed (origin room) (kernel_of l) (asked_by over (hands_of room) (length (lead_view l).seen) (lead_view l).asked)
    pub planned : over ≡ true → on_demand_of room ≡ false → has (hands_of room) (length (lead_view l).seen) ≡ true
    pub serves : FromAny (G.log (kernel_of l)) (λ start. Serves judges p v (version_of_lead l) start most (hands_of room) over (map ends_of before) from (G.log (kernel_of l)) asked)
