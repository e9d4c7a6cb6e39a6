use Rattle.std.proofs.Common.{◌∙◌, ap, sym, List}
use Rattle.nv_calls.specs.Logs.{output_of}
use Rattle.nv_script.specs.Arrivals.{Arrival}
use Rattle.nv_arriving.specs.Arriving.{Stage, start_of_arrivals}
use Rattle.nv_arriving.proofs.Staged.{output_is}
use Rattle.nv_arriving.proofs.scripted.ListedKeepsAll.console.Goals as goal

pub returns : goal.returns
returns c = λ setup log s.
    c.console.ensures s.kept ∙ ap (λ (z : Stage). z.here.state.own.files.console) s.here.stage ∙ sym (output_is setup c.args.self.now.guests.came log)
    ∙ ap (λ (z : List Arrival). output_of (start_of_arrivals setup z) log) s.all
