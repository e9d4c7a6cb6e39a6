use Rattle.std.proofs.Common.{rules}
use Rattle.nv_live.proofs.Noting.{writes-is, writes-none, writes-then}
use Rattle.nv_live.proofs.Parts.{lines-first, lines-none}
use Rattle.nv_live.proofs.lines.write_lines.Goals as goal

pub loop-rest-preserved : goal.loop-rest-preserved
loop-rest-preserved g c = record {
  all = λ then later.
      c.loop-rest.invariant.all then
      (writes-is g.S.Sink.told g.S.Sink.faults c.loop-rest.writer then _ _
      (lines-first c.args.head.now c.loop-rest.rest.now c.split_at.result.0.now c.split_at.result.1.now c.min.result (search rules) (search rules) (search rules) (search rules))
      (writes-then g.S.Sink.told g.S.Sink.faults c.loop-rest.writer c.write_line.new.writer then _ _ c.write_line.ensures.text later));
  stays = λ failed. c.write_line.ensures.stays (c.loop-rest.invariant.stays failed);
}

pub returns-clause-text : goal.returns-clause-text
returns-clause-text g c =
    c.loop-rest.invariant.all c.loop-rest.writer
    (writes-is g.S.Sink.told g.S.Sink.faults c.loop-rest.writer c.loop-rest.writer _ _
    (lines-none c.args.head.now c.loop-rest.rest.now (search rules))
    (writes-none g.S.Sink.told g.S.Sink.faults c.loop-rest.writer))
