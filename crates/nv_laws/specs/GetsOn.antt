-- Which seats of a room can get on, at a moment between two steps.
use Rattle.std.specs.Prelude.{◌≡◌, ◌≢◌, ◌⊎◌, ℕ, ◌<◌, ◌≤◌, List, length, Option}
use mathlib.Core.Option.{some}
use lib.ListN.{get_elem?}
use Rattle.atomic_table.specs.Table.{State}
use Rattle.nv_calls.specs.Calls.{Entry}
use Rattle.nv_ring.specs.Places.{FitsAll}
use Rattle.nv_room.specs.declared.view.View.{View}
use Rattle.nv_room.specs.declared.view.Layout.{Layout}
use Rattle.nv_room.specs.declared.view.Role.{Role}
use Rattle.nv_room.specs.declared.view.Role.TheVariants.{Reader, Lead, Opening, Leaving, Moving, Gone, Spent}
use Rattle.nv_room.specs.Owner.{GONE, free, closed}
use Rattle.nv_room.specs.Room.{cursor, Moment, as_of, Live, Rule}
use Rattle.nv_room.specs.Steps.{TellsEnd}

-- the state of a room that meets the rule
abbrev pub moment : {K : Type 0} {hist : K → List Entry} {came : K → K → List ℕ → Type 0} {p : Layout K} {s : State (Option K) (View K)} → Rule hist came p s → Moment
moment {s = s} r = as_of s.words r.log r.phase r.holder r.spans r.seating r.ready

-- an event is published that the seat has still to see
abbrev pub HasEvent : {T : Type 0} → Moment → View T → Type 0
HasEvent m v = length v.seen < length m.log

-- the next event has a place, whatever its words are: no other open station is too far behind
abbrev pub HasPlace : {T : Type 0} → ℕ → Moment → View T → Type 0
HasPlace c m v = (s : ℕ) → s ≢ v.station → s < length m.seating → FitsAll c m.log (cursor m.words s)

-- the room is free, the seat has seen all events, and all lower stations have left: it is next to lead
pub record IsNextToLead {T : Type 0} (m : Moment) (v : View T) : Type 0 where
  pub is_free : m.phase ≡ free
  pub all_seen : length v.seen ≡ length m.log
  pub lower_gone : (s : ℕ) → s < v.station → GONE ≤ cursor m.words s

-- the room is closed, and no thread lives after the events that the seat has seen: it may leave
pub record IsOver {T : Type 0} (m : Moment) (v : View T) : Type 0 where
  pub is_closed : m.phase ≡ closed
  pub has_ended : TellsEnd v.seen

-- It gets on by its next step, whatever the other seats do meanwhile. A lead that has a place publishes, closes, retires or hands over; one that gives up
-- the lead, leaves or moves waits for nobody.
module _ {T : Type 0} (c : ℕ) (m : Moment) (v : View T) where
  abbrev pub CanGetOn : Role → Type 0
  CanGetOn Reader = HasEvent m v ⊎ (IsNextToLead m v ⊎ IsOver m v)
  CanGetOn Lead = HasPlace c m v
  CanGetOn Opening = Unit {0}
  CanGetOn Leaving = Unit {0}
  CanGetOn Moving = Unit {0}
  CanGetOn Gone = ⊥
  CanGetOn Spent = ⊥

-- it has still to leave
abbrev pub Stays : Role → Type 0
Stays Reader = Unit {0}
Stays Lead = Unit {0}
Stays Opening = Unit {0}
Stays Leaving = Unit {0}
Stays Moving = Unit {0}
Stays Gone = ⊥
Stays Spent = ⊥

-- a seat of which this holds
abbrev pub SomeSeat : {T : Type 0} → List (View T) → (View T → Type 0) → Type 0
SomeSeat {T} views P = (j : ℕ) × (v : View T) × (get_elem? views j ≡ some v) × P v

-- each version has its seat, as its worker holds it
abbrev pub AllSeated : {T : Type 0} → Layout T → List (View T) → Type 0
AllSeated p views = (version : ℕ) → version < p.versions → SomeSeat views (λ v. Live v.role × (v.version ≡ version))

-- not all have left
abbrev pub SomeStays : {T : Type 0} → List (View T) → Type 0
SomeStays views = SomeSeat views (λ v. Stays v.role)

abbrev pub SomeGetsOn : {T : Type 0} → ℕ → Moment → List (View T) → Type 0
SomeGetsOn c m views = SomeSeat views (λ v. CanGetOn c m v v.role)

-- the lowest station that hasn't left
pub record IsLowest (m : Moment) (s : ℕ) : Type 0 where
  pub is_open : s < length m.seating
  pub not_left : cursor m.words s < GONE
  pub lower_gone : (t : ℕ) → t < s → GONE ≤ cursor m.words t
