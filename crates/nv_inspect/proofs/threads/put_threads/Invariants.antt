use Rattle.std.proofs.Common.{Ok}
use Rattle.nv_outside.specs.Sink.{Puts}
use Rattle.nv_inspect.specs.Firsts.{texts_below}
use Rattle.nv_inspect.specs.Shown.{live_text}
use Rattle.nv_inspect.proofs.threads.put_threads.Given as goal

abbrev pub invariant-loop-tid : goal.invariant-loop-tid
invariant-loop-tid g l = Puts (g.S.Sink.told l.fn.sink) (g.S.Sink.faults l.fn.sink) (texts_below (live_text l.process) l.tid) (Ok tt) (g.S.Sink.told l.sink) (g.S.Sink.faults l.sink)
