use Rattle.std.proofs.Common.{◌+◌, drop, sym, ap, ◌∙◌, arith}
use Rattle.nv_guest.specs.Answers.{with_each_byte}
use Rattle.nv_guest.proofs.Answering.{bytes-more, bytes-all}
use Rattle.nv_guest.proofs.answers.store_each.Goals as goal

pub loop-i-preserved : goal.loop-i-preserved
loop-i-preserved c =
    let l = c.loop-i in
    ap (λ memory. with_each_byte memory (c.args.address + (l.i + 1)) (drop (l.i + 1) c.args.bytes.now)) c.store_byte.ensures
    ∙ bytes-more l.memory c.args.bytes.now l.i (c.args.address + l.i) (c.args.address + (l.i + 1)) c.loop-i-test.true (omega arith) ∙ l.invariant

pub returns : goal.returns
returns c =
    let l = c.loop-i in
    sym (bytes-all l.memory c.args.bytes.now l.i (c.args.address + l.i) c.loop-i-test.false) ∙ l.invariant
