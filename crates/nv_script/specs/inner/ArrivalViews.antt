-- The code's values as the definitions see them.
use Rattle.std.specs.Prelude.{ℕ, List, Result, Ok, Err}
use Rattle.std.specs.Global.{Global}
use Rattle.std.specs.declared.vec.Vec.{Vec}
use Rattle.nv_script.specs.declared.arrival.ArrivalCause.{ArrivalCause}
use Rattle.nv_script.specs.Order.{Came}

abbrev pub bytes_view : Result (Vec ℕ Global) ArrivalCause → Result (List ℕ) ArrivalCause
bytes_view (Ok bytes) = Ok bytes.items
bytes_view (Err cause) = Err cause

-- what has come, where nothing refuses it
abbrev pub became : Came → Result (Unit {0}) ArrivalCause → Result Came ArrivalCause
became came (Ok done) = Ok came
became came (Err cause) = Err cause
