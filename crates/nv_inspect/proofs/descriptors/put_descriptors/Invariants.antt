use Rattle.std.proofs.Common.{Ok}
use Rattle.nv_outside.specs.Sink.{Puts}
use Rattle.nv_inspect.specs.Firsts.{texts_below}
use Rattle.nv_inspect.specs.Shown.{descriptor_text}
use Rattle.nv_inspect.proofs.descriptors.put_descriptors.Given as goal

abbrev pub invariant-loop-fd : goal.invariant-loop-fd
invariant-loop-fd g l = Puts (g.S.Sink.told l.fn.sink) (g.S.Sink.faults l.fn.sink) (texts_below (descriptor_text l.files.state) l.fd) (Ok tt) (g.S.Sink.told l.sink) (g.S.Sink.faults l.sink)
