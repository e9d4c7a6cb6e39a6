use denote.Exit.{no}
use denote.Param.Send.{param_send, arg_send}
use Rattle.std.proofs.Common.{◌∙◌, ap, List}
use Rattle.nv_calls.specs.Answer.{state_after}
use Rattle.nv_calls.specs.Logs.{calls_of}
use Rattle.nv_script.specs.Arrivals.{Arrival}
use Rattle.nv_arriving.specs.Arriving.{Stage, serve_next, first_stage}
use Rattle.nv_arriving.specs.declared.scripted.Listed.{Listed}
use Rattle.nv_arriving.proofs.Sending.{listed_send}
use Rattle.nv_arriving.proofs.kernel.files.Goals as goal

pub answers-requires-send-A : goal.answers-requires-send-A
answers-requires-send-A c κs = param_send 0 _ (arg_send _ no _ listed_send)

pub returns : goal.returns
returns c =
    let k = c.args.kernel.now in
    let stands = c.answers.ensures.stands in
    c.files.ensures ∙ ap (λ (l : Listed). l.guests.stage.here.state.own.files) c.answers.ensures.is ∙ ap (λ (z : Stage). z.here.state.own.files) stands.here.stage
    ∙ ap (λ (z : List Arrival). (state_after serve_next (first_stage k.setup z) (calls_of k.log)).here.state.own.files) stands.all
