use Rattle.std.proofs.Common.{sym, ap, ◌∙◌, ◌+◌, length, drop}
use Rattle.std.proofs.lemmas.List.{at_drop_all}
use Rattle.nv_bpf.specs.declared.op.Op.{Op}
use Rattle.nv_bpf.specs.Verified.{ops_fault, or_later_fault}
use Rattle.nv_bpf.proofs.FilterLaws.{ops_fault-drop}
use Rattle.nv_bpf.proofs.filter.ops_fault.Goals as goal

abbrev none_given : Op
none_given = record { code = 0; jt = 0; jf = 0; k = 0 }

pub returns-in-Some : goal.returns-in-Some
returns-in-Some c =
    let ops = c.args.ops.now in
    let i = c.loop-i.i in
    sym (c.loop-i.invariant ∙ ops_fault-drop (length ops) i ops none_given c.loop-i-test.true
    ∙ ap (λ r. or_later_fault r (ops_fault (length ops) (i + 1) (drop (i + 1) ops))) (sym c.op_fault.ensures ∙ c.in-Some.is))

pub loop-i-preserved : goal.loop-i-preserved
loop-i-preserved c =
    let ops = c.args.ops.now in
    let i = c.loop-i.i in
    c.loop-i.invariant ∙ ops_fault-drop (length ops) i ops none_given c.loop-i-test.true
    ∙ ap (λ r. or_later_fault r (ops_fault (length ops) (i + 1) (drop (i + 1) ops))) (sym c.op_fault.ensures ∙ c.in_default.is)

pub returns : goal.returns
unfolding ops_fault
returns c =
    let ops = c.args.ops.now in
    sym (c.loop-i.invariant ∙ at_drop_all (λ rest. ops_fault (length ops) c.loop-i.i rest) ops c.loop-i.i c.loop-i-test.false)
