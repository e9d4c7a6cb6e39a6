use Rattle.std.proofs.Common.{◌+◌, drop, sym, ap, ◌∙◌}
use Rattle.nv_guest.specs.Answers.{scattered}
use Rattle.nv_guest.proofs.Answering.{scattered-more, scattered-all}
use Rattle.nv_guest.proofs.answers.scatter.Goals as goal

pub loop-part-preserved : goal.loop-part-preserved
loop-part-preserved c =
    let l = c.loop-part in
    ap (λ memory. scattered memory (drop (l.part-index + 1) c.args.targets.now) c.split_at.result.1.now) c.store_bytes.ensures
    ∙ scattered-more l.memory c.args.targets.now l.rest.now c.split_at.result.0.now c.split_at.result.1.now l.part-index c.part_len.result _ c.loop-part-test.true c.part_len.ensures c.split_at.ensures.front c.split_at.ensures.back
    ∙ l.invariant

pub returns : goal.returns
returns c =
    let l = c.loop-part in
    sym (scattered-all l.memory c.args.targets.now l.rest.now l.part-index c.loop-part-test.false) ∙ l.invariant
