use Rattle.std.proofs.Common.{sym, ◌∙◌, arith}
use Rattle.nv_asm.proofs.Quoting.{comment-more, comment-stop, comment-end}
use Rattle.nv_asm.proofs.strings.comment_place.Goals as goal

pub returns-in-None-clause-place : goal.returns-in-None-clause-place
returns-in-None-clause-place c =
    let none = comment-stop c.loop-i.place c.args.line.now c.loop-i.i c.loop-i-test.true (sym c.next.ensures ∙ c.in-None.is) in
    omega (arith, c.loop-i.invariant, none)

pub loop-i-preserved : goal.loop-i-preserved
loop-i-preserved c =
    let more = comment-more c.loop-i.place c.in-Some.later c.args.line.now c.loop-i.i c.loop-i-test.true (sym c.next.ensures ∙ c.in-Some.is) in
    omega (arith, c.loop-i.invariant, more)

pub returns-clause-place : goal.returns-clause-place
returns-clause-place c =
    let none = comment-end c.loop-i.place c.args.line.now c.loop-i.i c.loop-i-test.false in
    omega (arith, c.loop-i.invariant, none)
