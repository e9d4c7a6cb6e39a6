-- What a kernel answers and shows, by the stage after the calls served.
use Rattle.std.proofs.Common.{◌≡◌, refl, List}
use Rattle.nv_calls.specs.Answer.{reply_of, state_after}
use Rattle.nv_calls.specs.Calls.{Request, Entry}
use Rattle.nv_calls.specs.Logs.{calls_of, output_of}
use Rattle.nv_script.specs.Scripts.{Setup}
use Rattle.nv_script.specs.Arrivals.{Arrival}
use Rattle.nv_arriving.specs.Arriving.{first_stage, answer_next, serve_next, start_of_arrivals}

pub output_is : (setup : Setup) (came : List Arrival) (log : List Entry) → output_of (start_of_arrivals setup came) log ≡ (state_after serve_next (first_stage setup came) (calls_of log)).here.state.own.files.console
unfolding start_of_arrivals
output_is setup came log = refl

pub reply_is : (setup : Setup) (came : List Arrival) (log : List Entry) (c : Request) → (start_of_arrivals setup came).replies (calls_of log) c ≡ reply_of (answer_next (state_after serve_next (first_stage setup came) (calls_of log)) c)
unfolding start_of_arrivals
reply_is setup came log c = refl
