-- A version's turn: it follows the log so far, and leads from there.
use Rattle.std.specs.Prelude.{◌≡◌, ℕ, ◌<◌, Bool, true, false, List, [], ◌∷◌, ◌++◌, length, set, Some, slice_get}
use Rattle.nv_calls.specs.Calls.{Entry}
use Rattle.nv_calls.specs.Logs.{Start}
use Rattle.nv_threads.specs.Behaviours.{Behaviour}
use Rattle.nv_replay.specs.Follow.{Judge, follow}
use Rattle.nv_replay.specs.Version.{Running}
use Rattle.nv_sequence.specs.declared.leading.Turned.{Turned}
use Rattle.nv_sequence.specs.declared.leading.Turned.TheVariants.{Left, GaveUp, Exited}
use Rattle.nv_sequence.specs.Passing.{followed, TurnDone, MayHaveTurn}

-- the order's first is such a version
abbrev pub FirstMayHaveTurn : {P : Type 0} → Behaviour P → List Entry → List (Running P) → List ℕ → Type 0
FirstMayHaveTurn g log versions [] = Unit {0}
FirstMayHaveTurn {P} g log versions (i ∷ order) = (length order < 8) × ((r : Running P) × (slice_get versions i ≡ Some r) × MayHaveTurn g log r)

abbrev pub order_of : List ℕ → ℕ → Turned → List ℕ
order_of order i GaveUp = order ++ i ∷ []
order_of order i Left = order
order_of order i Exited = order

abbrev pub turn_goes_on : Turned → Bool
turn_goes_on Exited = false
turn_goes_on GaveUp = true
turn_goes_on Left = true

-- the order's first has had its turn
pub record HadTurn {P : Type 0} (g : Behaviour P) (judges : ℕ → Judge) (start : Start) (most : ℕ) (hands : List ℕ) (old new : List (Running P))
    (i : ℕ) (order new_order : List ℕ) (log new_log : List Entry) (on : Bool) : Type 0 where
  pub before : Running P
  pub after : Running P
  pub result : Turned
  pub at : slice_get old i ≡ Some before
  pub put : new ≡ set old i after
  pub done : TurnDone g start most hands (followed g judges log before) after log new_log result (follow g (judges before.index) log before.at).fate
  pub left : new_order ≡ order_of order i result
  pub goes : on ≡ turn_goes_on result

abbrev pub NextTurn : {P : Type 0} → Behaviour P → (ℕ → Judge) → Start → ℕ → List ℕ → List (Running P) → List (Running P) → List ℕ → List ℕ → List Entry → List Entry → Bool → Type 0
NextTurn g judges start most hands old new [] new_order log new_log on = (new ≡ old) × (new_log ≡ log) × (new_order ≡ []) × (on ≡ false)
NextTurn g judges start most hands old new (i ∷ order) new_order log new_log on = HadTurn g judges start most hands old new i order new_order log new_log on
