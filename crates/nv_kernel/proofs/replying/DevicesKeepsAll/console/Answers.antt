use Rattle.std.proofs.Common.{◌∙◌, ap, sym, ℕ, drop}
use Rattle.nv_kernel.specs.Serving.{State}
use Rattle.nv_kernel.proofs.Going.{output_is}
use Rattle.nv_kernel.proofs.replying.DevicesKeepsAll.console.Goals as goal

pub returns : goal.returns
returns c = λ setup log h.
    c.console.ensures.kept ∙ ap (λ (n : ℕ). drop n c.args.self.now.files.state.console) h.all
    ∙ ap (λ (s : State). s.files.console) h.at.state ∙ sym (output_is setup log)
