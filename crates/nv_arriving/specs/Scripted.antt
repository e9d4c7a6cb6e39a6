-- How a kernel goes on from a script of whatever form.
use Rattle.std.specs.Prelude.{List}
use Rattle.nv_calls.specs.Answer.{state_after}
use Rattle.nv_calls.specs.Calls.{Entry}
use Rattle.nv_calls.specs.Logs.{Start, calls_of}
use Rattle.nv_script.specs.Scripts.{Setup}
use Rattle.nv_arriving.specs.Arriving.{Stage, serve_next, first_stage, start_of_arrivals}

-- all comes that the script lists, and nothing more
abbrev pub start_from : Setup → Start
start_from setup = start_of_arrivals setup setup.arrivals

-- what the calls of a log leave
abbrev pub stage_from : Setup → List Entry → Stage
stage_from setup log = state_after serve_next (first_stage setup setup.arrivals) (calls_of log)
