-- Where the kernel without sockets stands.
use Rattle.std.specs.Prelude.{◌≡◌, List}
use Rattle.nv_calls.specs.Answer.{state_after}
use Rattle.nv_calls.specs.Calls.{Entry}
use Rattle.nv_calls.specs.Logs.{calls_of, live_after}
use Rattle.nv_script.specs.Scripts.{Setup}
use Rattle.nv_kernel.specs.Crew.{IsCrew}
use Rattle.nv_kernel.specs.Serving.{State, serve, first_state}

-- the state is that of the definition after these calls, and its threads that live are those that the log says
pub record StandsAt (setup : Setup) (log : List Entry) (s : State) : Type 0 where
  pub state : s ≡ state_after serve (first_state setup) (calls_of log)
  pub live : live_after log ≡ s.crew.live
  pub crew : IsCrew s.crew
