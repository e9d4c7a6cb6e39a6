-- Steps of seats one after another, and what a turn of a seat finds in them.
use Rattle.std.specs.Prelude.{◌≡◌, ◌≢◌, ◌⊎◌, ◌<◌, ◌≤◌, ℕ, List, [], ◌∷◌, length, slice_index_or, true, Option}
use mathlib.Core.Option.{some}
use lib.ListN.{get_elem?}
use Rattle.atomic_table.specs.Table.{State}
use Rattle.nv_calls.specs.Calls.{Entry}
use Rattle.nv_calls.specs.Limits.{MOST_EVENTS}
use Rattle.nv_room.specs.Header.{owner_index, head_index}
use Rattle.nv_ring.specs.Places.{IsFull}
use Rattle.nv_room.specs.declared.view.View.{View}
use Rattle.nv_room.specs.declared.view.Layout.{Layout}
use Rattle.nv_room.specs.declared.view.Role.{Role}
use Rattle.nv_room.specs.declared.view.Role.TheVariants.{Reader, Lead, Opening, Leaving, Moving, Gone, Spent}
use Rattle.nv_room.specs.Owner.{is_held, is_free}
use Rattle.nv_room.specs.Room.{cursor, Rule}
use Rattle.nv_room.specs.Kinds.{Kind, looks_head, looks_owner, looks_cursor, looks_spare, probes, reads, writes, sees, publishes, takes, gives_up, leaves, opens, hands, moves}
use Rattle.nv_laws.specs.Steps.{gets_on}
use Rattle.nv_laws.specs.GetsOn.{Stays}
use Rattle.nv_laws.specs.Plays.{Does}

-- a look at head, the owner or a cursor finds the word as it is
abbrev pub Finds : List ℕ → Kind → Type 0
Finds ws (looks_head r) = r ≡ slice_index_or ws head_index 0
Finds ws (looks_owner r) = r ≡ slice_index_or ws owner_index 0
Finds ws (looks_cursor s r) = r ≡ cursor ws s
Finds ws (looks_spare r) = Unit {0}
Finds ws (probes l r) = Unit {0}
Finds ws (reads r) = Unit {0}
Finds ws (writes r) = Unit {0}
Finds ws sees = Unit {0}
Finds ws publishes = Unit {0}
Finds ws takes = Unit {0}
Finds ws (gives_up r) = Unit {0}
Finds ws leaves = Unit {0}
Finds ws opens = Unit {0}
Finds ws (hands r) = Unit {0}
Finds ws moves = Unit {0}

-- steps of these seats and kinds, each to a state that meets the rule
module _ {K : Type 0} (hist : K → List Entry) (came : K → K → List ℕ → Type 0) (p : Layout K) where
  abbrev pub Trace : List (ℕ × Kind) → State (Option K) (View K) → State (Option K) (View K) → Type 0
  Trace [] s s' = s' ≡ s
  Trace (x ∷ xs) s s' = (u : State (Option K) (View K)) × Rule hist came p u × Does hist came p s u x.0 x.1 × Finds s.words x.1 × Trace xs u s'

-- the seat j doesn't get on by them
abbrev pub GetsOnByNone : ℕ → List (ℕ × Kind) → Type 0
GetsOnByNone j [] = Unit {0}
GetsOnByNone j (x ∷ xs) = (j ≡ x.0 → gets_on x.1 ≡ 0) × GetsOnByNone j xs

-- a reader looked at head and found no event, and then at the owner, which was held, or free while a lower station had still to leave
pub record Waits {T : Type 0} (old new : View T) : Type 0 where
  pub head_looked : old.head_looks < new.head_looks
  pub head_last : new.head_last ≡ length new.seen
  pub owner_looked : old.owner_looks < new.owner_looks
  pub owner : (is_held new.owner_last ≡ true) ⊎ ((is_free new.owner_last ≡ true) × (new.cursor_of < new.station) × (old.cursor_looks < new.cursor_looks) × (new.cursor_last ≤ MOST_EVENTS))

-- a lead looked at another open station's cursor, and it keeps it from its place
pub record LeadWaits {T : Type 0} (c : ℕ) (old new : View T) : Type 0 where
  pub looked : old.cursor_looks < new.cursor_looks
  pub other : new.cursor_of ≢ old.station
  pub is_open : new.cursor_of < old.opened
  pub full : IsFull c old.seen new.cursor_last

-- a seat of this role waits for another; one that has left has nothing to wait for
module _ {T : Type 0} (c : ℕ) (old new : View T) where
  abbrev pub HasToWait : Role → Type 0
  HasToWait Reader = Waits old new
  HasToWait Lead = LeadWaits c old new
  HasToWait Opening = ⊥
  HasToWait Leaving = ⊥
  HasToWait Moving = ⊥
  HasToWait Gone = Unit {0}
  HasToWait Spent = ⊥

-- whatever steps the others take, the seat j with this view doesn't wait while it doesn't get on; and it has still to leave
module _ {K : Type 0} (hist : K → List Entry) (came : K → K → List ℕ → Type 0) (p : Layout K) (s : State (Option K) (View K)) (j : ℕ) (v : View K) where
  pub record NeedNotWait : Type 0 where
    pub turns : (xs : List (ℕ × Kind)) (last : State (Option K) (View K)) (w : View K) → Trace hist came p xs s last → GetsOnByNone j xs → get_elem? last.views j ≡ some w → ¬ HasToWait p.places v w v.role
    pub stays : Stays v.role
