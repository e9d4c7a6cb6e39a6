use Rattle.std.proofs.Common.{◌∙◌, arith}
use Rattle.nv_guest.proofs.Releasing.{one_written, all_first}
use Rattle.nv_guest.proofs.threads.release_each.Goals as goal

pub loop-thread-preserved : goal.loop-thread-preserved
loop-thread-preserved c =
    one_written c.loop-thread.thread-index c.args.threads.now c.loop-thread.threads c.thread-item.result c.release.new.self
    (omega (arith, c.loop-thread-test.true)) c.loop-thread.invariant c.release.ensures

pub returns : goal.returns
returns c = c.loop-thread.invariant ∙ all_first c.loop-thread.thread-index c.args.threads.now (omega (arith, c.loop-thread-test.false))
