use Rattle.std.proofs.Common.{◌∙◌, ap, sym}
use Rattle.nv_arriving.specs.Arriving.{Stage}
use Rattle.nv_arriving.proofs.Staged.{output_is}
use Rattle.nv_run_tests.proofs.kept.KeptKeepsAll.console.Goals as goal

pub returns : goal.returns
returns g c = λ setup log s.
    c.console.ensures s.kept ∙ ap (λ (z : Stage). z.here.state.own.files.console) s.here.stage ∙ sym (output_is setup c.args.self.now.guests.came log)
