use denote.Exit.{no}
use denote.Param.Send.{param_send, arg_send}
use Rattle.std.proofs.Common.{◌≡◌, ◌∙◌, sym, ap, List, map}
use Rattle.nv_calls.specs.Answer.{state_after}
use Rattle.nv_calls.specs.Logs.{calls_of}
use Rattle.nv_sockets.specs.Serving.{link_written}
use Rattle.nv_sockets.specs.Views.{link_of}
use Rattle.nv_sockets.proofs.Lines.{written_is}
use Rattle.nv_script.specs.Arrivals.{Arrival}
use Rattle.nv_arriving.specs.Arriving.{Stage, serve_next, first_stage}
use Rattle.nv_arriving.specs.Scripted.{stage_from}
use Rattle.nv_arriving.specs.declared.scripted.Listed.{Listed}
use Rattle.nv_arriving.proofs.Listing.{connections_from}
use Rattle.nv_arriving.proofs.Sending.{listed_send}
use Rattle.nv_arriving.proofs.kernel.connections.Goals as goal

pub answers-requires-send-A : goal.answers-requires-send-A
answers-requires-send-A c κs = param_send 0 _ (arg_send _ no _ listed_send)

module _ (c : goal.After-connections) where
  links : map link_of c.connections.result.now ≡ (stage_from c.args.kernel.now.setup c.args.kernel.now.log).here.state.net.links
  links =
      let k = c.args.kernel.now in
      let stands = c.answers.ensures.stands in
      c.connections.ensures.links ∙ ap (λ (l : Listed). l.guests.stage.here.state.net.links) c.answers.ensures.is ∙ ap (λ (z : Stage). z.here.state.net.links) stands.here.stage
      ∙ ap (λ (z : List Arrival). (state_after serve_next (first_stage k.setup z) (calls_of k.log)).here.state.net.links) stands.all

pub returns-clause-links : goal.returns-clause-links
returns-clause-links c = links c

pub returns-clause-written : goal.returns-clause-written
returns-clause-written c = written_is c.connections.result.now ∙ ap (map link_written) (links c) ∙ sym (connections_from c.args.kernel.now.setup c.args.kernel.now.log)
