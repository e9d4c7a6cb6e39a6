-- The view of a worker's seat, and how it goes on.
use Rattle.std.specs.Prelude.{◌≡◌, ℕ}
use Rattle.nv_calls.specs.declared.kernel.SyscallKernel.{Ghosts}
use Rattle.nv_room.specs.declared.view.View.{View}
use Rattle.nv_room.specs.Kinds.{Stepped}
use Rattle.nv_room.specs.Seats.{view, lead_view, left_view}
use Rattle.nv_workers.specs.declared.worker.Seat.{Seat}
use Rattle.nv_workers.specs.declared.worker.Seat.TheVariants.{Reading, Leading, Gone, Moving}

module _ {K : Type 0} {G : Ghosts K} where
  -- between two turns a worker's seat has one
  abbrev pub HasView : Seat K G → View K → Type 0
  HasView (Reading r held) v = view r ≡ v
  HasView (Leading l asked) v = lead_view l ≡ v
  HasView (Gone l) v = left_view l ≡ v
  HasView Moving v = ⊥

  -- in a room of n stations the view of the one becomes that of the other by steps
  abbrev pub GoesBySteps : ℕ → Seat K G → Seat K G → Type 0
  GoesBySteps n s t = (v : View K) → HasView s v → (w : View K) × HasView t w × Stepped n v w
