use Rattle.std.proofs.Common.{◌+◌, ◌<◌, ◌∙◌, sym, arith}
use Rattle.nv_guest.specs.Guest.{machine_with}
use Rattle.nv_guest.proofs.Running.{run_more}
use Rattle.nv_guest.proofs.Known.{run_from}
use Rattle.nv_guest.proofs.threads.run_through.Goals as goal

pub loop-count-preserved : goal.loop-count-preserved
loop-count-preserved c =
    let l = c.loop-count in
    let known = c.run_known-count in
    let less : l.count + known.result < c.args.most = omega (arith, c.if-count-most.false, known.ensures.few, c.loop-count-test.true) in
    let here = machine_with known.new.regs known.new.memory in (
      omega (arith, less),
      run_from c.args.most l.count known.result (machine_with c.args.regs.now c.args.memory.now) (machine_with l.regs l.memory) here l.invariant.1 known.ensures.ran
          ∙ run_more c.args.most (l.count + known.result) here (machine_with c.step.new.regs c.step.new.memory) less (sym c.in-On.ensures.step),
    )
