use Rattle.std.proofs.Common.{[], ◌∙◌, ap}
use Rattle.nv_live.specs.Lines.{line_with}
use Rattle.nv_live.proofs.Noting.{writes-is}
use Rattle.nv_live.proofs.transcript.Transcript.note_hand.Goals as goal

pub returns : goal.returns
returns g c =
    writes-is g.T.Sink.told g.T.Sink.faults c.args.self.now.writer c.write_line.new.writer _ _
    (ap (λ head. line_with head []) (c.deref.ensures.0 ∙ c.put_numbered.ensures.text)) c.write_line.ensures.text
