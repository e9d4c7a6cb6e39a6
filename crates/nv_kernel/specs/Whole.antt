-- What stands at a log and still has the whole console.
use Rattle.std.specs.Prelude.{◌≡◌, ℕ, List}
use Rattle.nv_calls.specs.Calls.{Entry}
use Rattle.nv_script.specs.Scripts.{Setup}
use Rattle.nv_kernel.specs.Answering.{AtLog}

-- it stands at the log, and of the console no byte was let go
pub record IsWhole (stands : AtLog) (gone : ℕ) (setup : Setup) (log : List Entry) : Type 0 where
  pub at : stands setup log
  pub all : gone ≡ 0
