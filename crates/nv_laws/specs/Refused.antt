-- Calls that are refused.
use Rattle.std.specs.Prelude.{◌≡◌, ◌+◌, true, []}
use Rattle.nv_laws.specs.Calls.{is_error}
use Rattle.nv_calls.specs.Answer.{Answer}
use Rattle.nv_kernel.specs.Serving.{State}

-- the call has an error, hands out nothing and changes nothing but the number of calls served
pub record ChangesCountAlone (before : State) (r : Answer State) : Type 0 where
  pub state : r.state ≡ record before { served = before.served + 1 }
  pub error : is_error r.ret ≡ true
  pub payload : r.payload ≡ []
