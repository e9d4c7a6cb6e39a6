use Rattle.nv_live.proofs.Noting.{writes-then}
use Rattle.nv_live.proofs.transcript.Transcript.show_held.Goals as goal

pub returns : goal.returns
returns g c = writes-then g.T.Sink.told g.T.Sink.faults c.args.self.now.writer c.write_lines.new.writer c.write_lines-2.new.writer _ _ c.write_lines.ensures.text c.write_lines-2.ensures.text
