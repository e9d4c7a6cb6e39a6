use Rattle.std.proofs.Common.{◌∙◌, sym, refl}
use Rattle.nv_bytes.proofs.Pairs.{pair-step, pair-ends, rest-ends}
use Rattle.nv_bytes.proofs.numbers.unhex.Goals as goal
use Rattle.nv_bytes.proofs.numbers.unhex.Goals.{then-is_empty, else-is_empty}

pub returns-in_default-pair_value : goal.returns-in_default-pair_value
returns-in_default-pair_value c =
    sym (pair-ends c.loop-rest.bytes.items c.loop-rest.rest.now c.in-len2-up.len_at_least (sym c.pair_value.ensures ∙ c.in_default-pair_value.is)) ∙ c.loop-rest.invariant

pub loop-rest-preserved : goal.loop-rest-preserved
loop-rest-preserved c =
    let step = pair-step c.loop-rest.bytes.items c.loop-rest.rest.now _ c.in-Some.byte c.in-len2-up.len_at_least refl (sym c.pair_value.ensures ∙ c.in-Some.is) in
    rw c.in_ok-push.ensures.items (step ∙ c.loop-rest.invariant)

pub returns : goal.returns
returns c =
    let ends = rest-ends c.loop-rest.bytes.items c.loop-rest.rest.now c.in_default.len_below in
    elim c.if-is_empty.branch [
      | then-is_empty w ↦ rw w.result-is (sym (rw (sym c.is_empty.ensures ∙ w.if-is_empty.true) at ends) ∙ c.loop-rest.invariant)
      | else-is_empty w ↦ rw w.result-is (sym (rw (sym c.is_empty.ensures ∙ w.if-is_empty.false) at ends) ∙ c.loop-rest.invariant)
    ]
