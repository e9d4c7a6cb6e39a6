use Rattle.std.proofs.Common.{Ok}
use Rattle.nv_outside.specs.Sink.{Puts}
use Rattle.nv_inspect.specs.Firsts.{texts_below}
use Rattle.nv_inspect.specs.Shown.{memory_line}
use Rattle.nv_inspect.proofs.dump.put_range.Given as goal

abbrev pub invariant-loop-i : goal.invariant-loop-i
invariant-loop-i g l = Puts (g.S.Sink.told l.fn.sink) (g.S.Sink.faults l.fn.sink) (texts_below (memory_line l.memory l.address l.length) l.i) (Ok tt) (g.S.Sink.told l.sink) (g.S.Sink.faults l.sink)
