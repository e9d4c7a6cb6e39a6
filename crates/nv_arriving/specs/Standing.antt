-- Where what answers stands, where input arrives.
use Rattle.std.specs.Prelude.{◌≡◌, true, false, List}
use Rattle.nv_calls.specs.Answer.{state_after}
use Rattle.nv_calls.specs.Calls.{Entry}
use Rattle.nv_calls.specs.Logs.{calls_of, live_after}
use Rattle.nv_script.specs.Scripts.{Setup}
use Rattle.nv_kernel.specs.Crew.{IsCrew}
use Rattle.nv_script.specs.Doings.{Doing}
use Rattle.nv_arriving.specs.Arriving.{serve_next, first_stage, Satisfied}
use Rattle.nv_arriving.specs.Kernel.{Coming}
use Rattle.nv_arriving.specs.Reserved.{IsKept}
use Rattle.nv_arriving.specs.Telling.{Tells}

-- The stage is that of the definition after these calls, as far as all came; while more may come none of them waited in vain, and where nothing more comes the outside is over;
-- the outside tells of itself what was done; and the threads that live are those that the log says.
pub record StandsAt {O : Type 0} (did : O → O → List Doing → Type 0) (is_over : O → Type 0) (g : Coming O) (setup : Setup) (log : List Entry) : Type 0 where
  pub stage : g.stage ≡ state_after serve_next (first_stage setup g.came) (calls_of log)
  pub satisfied : g.over ≡ false → Satisfied (first_stage setup g.came) (calls_of log)
  pub ended : g.over ≡ true → is_over g.outside
  pub told : Tells did g.begun g.outside setup g.came log
  pub live : live_after log ≡ g.stage.here.state.own.crew.live
  pub crew : IsCrew g.stage.here.state.own.crew

-- and all has come that the script lists, and nothing more comes; and all that was said is kept
pub record StandsListed {O : Type 0} (did : O → O → List Doing → Type 0) (is_over : O → Type 0) (g : Coming O) (setup : Setup) (log : List Entry) : Type 0 where
  pub here : StandsAt did is_over g setup log
  pub over : g.over ≡ true
  pub all : g.came ≡ setup.arrivals
  pub keeps : g.keeps ≡ true
  pub kept : IsKept g.room
