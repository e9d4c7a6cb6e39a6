-- Runs of a room's seats, from one moment to the next.
use Rattle.std.specs.Prelude.{◌≡◌, ◌⊎◌, ℕ, zero, suc, ◌+◌, ◌<◌, ◌≤◌, List, [], ◌∷◌, length, Option}
use mathlib.Core.Option.{some}
use lib.ListN.{get_elem?}
use Rattle.atomic_table.specs.Table.{State}
use Rattle.nv_calls.specs.Calls.{Entry}
use Rattle.nv_room.specs.declared.view.View.{View}
use Rattle.nv_room.specs.declared.view.Layout.{Layout}
use Rattle.nv_room.specs.Room.{Rule}
use Rattle.nv_room.specs.Kinds.{Kind}
use Rattle.nv_laws.specs.Steps.{steps_left}
use Rattle.nv_laws.specs.GetsOn.{moment, AllSeated, CanGetOn, Stays, SomeStays}
use Rattle.nv_laws.specs.Plays.{Does}
use Rattle.nv_laws.specs.Traces.{Finds, HasToWait}

-- what a turn comes to that found so many of its worker's turns left and leaves so many: fewer are left, or the seat waits for another
abbrev pub ComesTo : {T : Type 0} → ℕ → ℕ → ℕ → View T → View T → Type 0
ComesTo c found leaves v w = (leaves < found) ⊎ HasToWait c v w v.role

abbrev pub steps_of : {T : Type 0} → ℕ → List (View T) → ℕ
steps_of n [] = 0
steps_of n (v ∷ vs) = steps_left n v + steps_of n vs

abbrev pub turns_of : (ℕ → ℕ) → ℕ → ℕ
turns_of left zero = 0
turns_of left (suc j) = left j + turns_of left j

-- The room's state at each moment, and how many turns of the worker with the seat j may still get on, as its last turn until then left it.
module _ {K : Type 0} (hist : K → List Entry) (came : K → K → List ℕ → Type 0) (p : Layout K) (state : ℕ → State (Option K) (View K)) (left : ℕ → ℕ → ℕ) where
  -- between two moments one seat takes a step, or the room stays as it is
  abbrev pub Passes : ℕ → Type 0
  Passes i = (state (suc i) ≡ state i) ⊎ (Rule hist came p (state (suc i)) × ((id : ℕ) × (kind : Kind) × Does hist came p (state i) (state (suc i)) id kind × Finds (state i).words kind))

  -- it begins with a seat for each version, and no turn leaves more turns than it found
  pub record IsRun : Type 0 where
    pub begins : Rule hist came p (state 0)
    pub seated : AllSeated p (state 0).views
    pub passes : (i : ℕ) → Passes i
    pub falls : (i j : ℕ) → left (suc i) j ≤ left i j

  -- from the moment a to the moment b, as a turn of the seat j
  abbrev pub IsTurn : ℕ → ℕ → ℕ → Type 0
  IsTurn j a b = (v w : View K) → get_elem? (state a).views j ≡ some v → get_elem? (state b).views j ≡ some w → ComesTo p.places (left a j) (left b j) v w

  -- unless it has left by then, the seat j has from a to b a turn that begins and ends there
  abbrev pub HasTurn : ℕ → ℕ → ℕ → Type 0
  HasTurn a b j = (w : View K) → get_elem? (state b).views j ≡ some w → Stays w.role → (x : ℕ) × (y : ℕ) × (a ≤ x) × (x ≤ y) × (y ≤ b) × IsTurn j x y

  -- each seat that hasn't left has a turn
  abbrev pub Window : ℕ → ℕ → Type 0
  Window a b = (a ≤ b) × ((j : ℕ) → HasTurn a b j)

  -- so many windows one after another
  abbrev pub Windows : ℕ → ℕ → ℕ → Type 0
  Windows zero a b = a ≤ b
  Windows (suc n) a b = (c : ℕ) × Window a c × Windows n c b

  -- each seat that hasn't left has turns again and again
  abbrev pub TakesTurns : Type 0
  TakesTurns = (a : ℕ) → (b : ℕ) × Window a b

  -- there is no moment after which none of the seats that can get on then has a turn
  abbrev pub IsFair : Type 0
  IsFair = (a : ℕ) (r : Rule hist came p (state a)) → SomeStays (state a).views
      → (b : ℕ) × (j : ℕ) × (v : View K) × (a ≤ b) × (get_elem? (state a).views j ≡ some v) × CanGetOn p.places (moment r) v v.role × HasTurn a b j

  -- the steps with which the seats may still get on, and the turns of their workers
  abbrev pub all_left : ℕ → ℕ
  all_left i = steps_of p.stations (state i).views + turns_of (left i) (length (state i).views)
