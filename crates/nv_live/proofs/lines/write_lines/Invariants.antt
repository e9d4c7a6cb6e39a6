use Rattle.std.proofs.Common.{IsErr, length}
use Rattle.nv_live.specs.declared.writer.Writer.{Writer}
use Rattle.nv_live.specs.Lines.{lines_with}
use Rattle.nv_live.specs.Writer.{WritesOn}
use Rattle.nv_live.proofs.lines.write_lines.Given as goal

-- with the lines of the rest those of all bytes are written
abbrev pub invariant-loop-rest : goal.invariant-loop-rest
invariant-loop-rest g l = record {
  all : (then : Writer _) → WritesOn g.S.Sink.told g.S.Sink.faults l.writer then (lines_with l.head l.rest) → WritesOn g.S.Sink.told g.S.Sink.faults l.fn.writer then (lines_with l.head l.bytes);
  stays : IsErr l.fn.writer.put → IsErr l.writer.put;
}

abbrev pub decreases-loop-rest : goal.decreases-loop-rest
decreases-loop-rest g l = length l.rest
