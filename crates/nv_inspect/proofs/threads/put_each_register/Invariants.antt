use Rattle.std.proofs.Common.{Ok}
use Rattle.nv_outside.specs.Sink.{Puts}
use Rattle.nv_inspect.specs.Firsts.{texts_below}
use Rattle.nv_inspect.specs.Shown.{register_text}
use Rattle.nv_inspect.proofs.threads.put_each_register.Given as goal

abbrev pub invariant-loop-n : goal.invariant-loop-n
invariant-loop-n g l = Puts (g.S.Sink.told l.fn.sink) (g.S.Sink.faults l.fn.sink) (texts_below (register_text l.regs) l.n) (Ok tt) (g.S.Sink.told l.sink) (g.S.Sink.faults l.sink)
