use Rattle.std.proofs.Common.{◌∙◌, ap, sym, ℕ, drop}
use Rattle.nv_sockets.specs.Serving.{State}
use Rattle.nv_sockets.proofs.Going.{output_is}
use Rattle.nv_sockets.proofs.replying.HostKeepsAll.console.Goals as goal

pub returns : goal.returns
returns c = λ setup log h.
    c.console.ensures.kept ∙ ap (λ (n : ℕ). drop n c.args.self.now.devices.files.state.console) h.console
    ∙ ap (λ (s : State). s.own.files.console) h.stands.state ∙ sym (output_is setup log)
