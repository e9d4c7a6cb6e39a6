use Rattle.std.proofs.Common.{◌∙◌, sym, ap}
use Rattle.nv_threads.specs.Threads.{threads, Proc}
use Rattle.nv_replay.specs.Version.{Running, asking_next}
use Rattle.nv_replay.specs.Views.{running_of}
use Rattle.nv_replay.proofs.Leading.{asking_fault, asking_asked}
use Rattle.nv_replay.proofs.version.Version.lead.Goals as goal

pub returns-in-Fault-clause-new : goal.returns-in-Fault-clause-new
returns-in-Fault-clause-new c =
    let old : Running Proc = running_of c.self.inside in
    let i = c.in-Fault.ensures in
    c.fail.ensures.new ∙ (rw i.after (sym (asking_fault threads c.args.most old _ _ _ (sym i.came))) ∙ ap
    (λ (r : Running Proc). asking_next threads c.args.most r) c.self.view_is)

pub returns-in-Asked-clause-new : goal.returns-in-Asked-clause-new
returns-in-Asked-clause-new c =
    let old : Running Proc = running_of c.self.inside in
    let i = c.in-Asked.ensures in
    c.ask.ensures.new ∙ (rw i.after (sym (asking_asked threads c.args.most old _ (sym i.came))) ∙ ap
    (λ (r : Running Proc). asking_next threads c.args.most r) c.self.view_is)
