use Rattle.std.proofs.Common.{subst}
use Rattle.nv_live.specs.Writer.{WritesOn}
use Rattle.nv_live.proofs.Noting.{writes-is}
use Rattle.nv_live.proofs.transcript.Transcript.note.Goals as goal

pub returns-clause-noted : goal.returns-clause-noted
returns-clause-noted g c =
    writes-is g.T.Sink.told g.T.Sink.faults c.args.self.now.writer c.write.new.self.writer c.set.new.self.text.items _ c.in_ok-set.ensures.text
    (subst (λ w. WritesOn g.T.Sink.told g.T.Sink.faults w c.write.new.self.writer c.set.new.self.text.items) c.set.ensures.kept c.write.ensures)
