use Rattle.std.proofs.Common.{◌≡◌, ◌<◌, ◌+◌, sym, arith}
use Rattle.nv_outside.proofs.Writing.{puts-is, puts-none}
use Rattle.nv_inspect.specs.Shown.{live_text}
use Rattle.nv_inspect.proofs.Writes.{firsts-none, puts-next, puts-short, puts-every}
use Rattle.nv_threads.specs.Threads.{greatest, task_tids}
use Rattle.nv_inspect.proofs.threads.put_threads.Goals as goal

pub loop-tid-init : goal.loop-tid-init
loop-tid-init g c = puts-is (sym (firsts-none (live_text c.args.process.now))) (puts-none _ _)

pub loop-tid-preserved : goal.loop-tid-preserved
loop-tid-preserved g c = puts-next (live_text c.args.process.now) c.loop-tid.tid c.loop-tid.invariant c.in_ok-put_live.ensures

pub returns-in_err-put_live : goal.returns-in_err-put_live
returns-in_err-put_live g c = let less : c.loop-tid.tid < greatest (task_tids c.args.process.now.tasks) + 1 = omega arith in puts-short (live_text c.args.process.now) c.loop-tid.tid (greatest (task_tids c.args.process.now.tasks) + 1) less c.from_residual.ensures.0 c.loop-tid.invariant c.in_err-put_live.ensures

pub returns : goal.returns
returns g c = let same : c.loop-tid.tid ≡ (greatest (task_tids c.args.process.now.tasks) + 1) = omega arith in puts-every (live_text c.args.process.now) c.loop-tid.tid (greatest (task_tids c.args.process.now.tasks) + 1) same c.loop-tid.invariant
