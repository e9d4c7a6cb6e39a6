use Rattle.std.proofs.Common.{take, map, Ok}
use Rattle.nv_outside.specs.Sink.{Puts}
use Rattle.nv_sockets.specs.Texts.{connection_texts}
use Rattle.nv_sockets.specs.Views.{written_of}
use Rattle.nv_sockets.proofs.writing.put_lines.Given as goal

abbrev pub invariant-loop-index : goal.invariant-loop-index
invariant-loop-index g l =
    Puts (g.S.Sink.told l.fn.sink) (g.S.Sink.faults l.fn.sink) (connection_texts 0 (map written_of (take l.index l.connections)))
    (Ok tt) (g.S.Sink.told l.sink) (g.S.Sink.faults l.sink)
