use Rattle.std.proofs.Common.{◌<◌, ◌∙◌, ap, sym, arith}
use Rattle.nv_machine.specs.Guest.{StepResult}
use Rattle.nv_guest.specs.Guest.{machine_with}
use Rattle.nv_guest.proofs.Running.{run_stops, run_ends}
use Rattle.nv_guest.proofs.threads.run_on.Goals as goal

pub returns-then-count-most-clause-ran : goal.returns-then-count-most-clause-ran
returns-then-count-most-clause-ran c =
    let through = c.run_through-count in
    through.ensures.ran ∙ run_ends c.args.most through.result c.args.most (machine_with through.new.regs through.new.memory) (omega arith) (omega arith)

pub returns-clause-ran : goal.returns-clause-ran
returns-clause-ran c =
    let through = c.run_through-count in
    let more_is : c.run_through-count.result < c.args.most = omega (arith, c.run_through-count.ensures.few, c.if-count-most.false) in
    let is = c.step.ensures.step in
    through.ensures.ran ∙ run_stops c.args.most through.result (machine_with through.new.regs through.new.memory) (machine_with c.step.new.regs c.step.new.memory) c.step.result more_is (λ e. through.ensures.stops more_is (ap (λ (o : StepResult). o.0) (sym is) ∙ e)) (sym is)
