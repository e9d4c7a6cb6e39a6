-- Seats that come back from their threads.
use Rattle.std.specs.Prelude.{◌≡◌, ℕ, ◌+◌, List, []}
use mathlib.Core.Option.{some}
use lib.ListN.{get_elem?}
use Rattle.nv_calls.specs.declared.kernel.SyscallKernel.{Ghosts}
use Rattle.nv_room.specs.declared.room.Room.{Room}
use Rattle.nv_room.specs.declared.room.Reader.{Reader}
use Rattle.nv_room.specs.declared.room.Left.{Left}
use Rattle.nv_room.specs.Seats.{IsOfRoom, IsLeftOf, view, version_of_reader, version_of_left}

module _ {K : Type 0} {G : Ghosts K} where
  -- it has read no word of an event that it has not seen
  abbrev pub HasReadNothing : Room K → Reader K G → Type 0
  HasReadNothing room r = IsOfRoom room r × ((view r).read ≡ [])

  -- the seats of the versions from 1 on, which have left, in order
  abbrev pub LeftInOrder : Room K → List (Left K G) → Type 0
  LeftInOrder room ls = (i : ℕ) (l : Left K G) → get_elem? ls i ≡ some l → IsLeftOf room l × (version_of_left l ≡ i + 1)
