use Rattle.std.proofs.Common.{◌+◌, cond, Some, drop, sym, ap, ◌∙◌}
use Rattle.nv_bytes.specs.Names.{defined, named}
use Rattle.nv_bytes.proofs.Known.{defined-at, defined-past}
use Rattle.nv_bytes.proofs.tables.find.Goals as goal

pub returns-then-is : goal.returns-then-is
returns-then-is g c =
    let table = c.args.table.now in
    let entry = c.loop-name-item.result in
    sym (c.loop-name.invariant ∙ defined-at table c.args.word.now c.loop-name.name-index entry c.loop-name-test.true c.loop-name-item.is
    ∙ ap (λ same. cond same (Some entry.1) (defined (named (drop (c.loop-name.name-index + 1) table)) c.args.word.now)) (sym c.is.ensures ∙ c.if-is.true))

pub loop-name-preserved : goal.loop-name-preserved
loop-name-preserved g c =
    let table = c.args.table.now in
    let entry = c.loop-name-item.result in
    c.loop-name.invariant ∙ defined-at table c.args.word.now c.loop-name.name-index entry c.loop-name-test.true c.loop-name-item.is
    ∙ ap (λ same. cond same (Some entry.1) (defined (named (drop (c.loop-name.name-index + 1) table)) c.args.word.now)) (sym c.is.ensures ∙ c.if-is.false)

pub returns : goal.returns
returns g c = sym (c.loop-name.invariant ∙ defined-past c.args.table.now c.args.word.now c.loop-name.name-index c.loop-name-test.false)
