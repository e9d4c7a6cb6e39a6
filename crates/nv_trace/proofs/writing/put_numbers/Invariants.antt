use Rattle.std.proofs.Common.{take, Ok}
use Rattle.std.specs.List.{flat_map}
use Rattle.byteorder.specs.Endian.{little_bytes}
use Rattle.nv_outside.specs.Sink.{Puts}
use Rattle.nv_trace.proofs.writing.put_numbers.Given as goal

abbrev pub invariant-loop-value : goal.invariant-loop-value
invariant-loop-value g l =
    Puts (g.S.Sink.told l.fn.sink) (g.S.Sink.faults l.fn.sink) (flat_map (little_bytes 4) (take l.value-index l.values)) (Ok tt) (g.S.Sink.told l.sink)
    (g.S.Sink.faults l.sink)
