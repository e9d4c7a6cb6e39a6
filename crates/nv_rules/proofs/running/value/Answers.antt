use Rattle.std.proofs.Common.{◌≡◌, Some, ap, sym, ◌∙◌, arith, unwrap_or}
use Rattle.nv_bpf.proofs.FilterLaws.{list_fault-none}
use Rattle.nv_rules.specs.Values.{returned, returned_from, stepped, Goes}
use Rattle.nv_rules.specs.inner.Machine.{state_of, effect_of}
use Rattle.nv_rules.proofs.Steps.{first, first-sound, first-ends, first-within, first-goes}
use Rattle.nv_rules.proofs.running.value.Goals as goal

pub loop-value-init : goal.loop-value-init
unfolding returned
loop-value-init c =
    let ops = c.args.filter.now in
    let same = c.as_slice-rest.ensures.ops in
    record {
      some = rw same (list_fault-none _ ops c.as_slice-rest.ensures.verified).some;
      place = (0, same);
      returns = ap (returned_from c.args.pair.now.words 0 _) same ∙ ap (λ s. returned_from c.args.pair.now.words 0 s ops) c.new-registers.ensures;
    }

pub step-requires : goal.step-requires
step-requires c = first-sound _ _ _ _ _ _ c.as_slice-rest.ensures.verified c.loop-value.invariant

ends : (c : goal.In-Return) → returned c.args.filter.now c.args.pair.now.words ≡ Some c.in-Return.value
ends c = first-ends _ _ _ _ _ _ c.loop-value.invariant (c.step.ensures ∙ ap (λ r. Some (effect_of r c.step.new.self c.step.new.scratch)) c.in-Return.is)

pub returns-in-Return-clause-returned : goal.returns-in-Return-clause-returned
returns-in-Return-clause-returned c = ends c

pub returns-in-Return-clause-value : goal.returns-in-Return-clause-value
returns-in-Return-clause-value c = sym (ap (λ o. unwrap_or o 0) (ends c))

pub loop-value-preserved-in-Next : goal.loop-value-preserved-in-Next
loop-value-preserved-in-Next c =
    let goes = c.step.ensures ∙ ap (λ r. Some (effect_of r c.step.new.self c.step.new.scratch)) c.in-Next.is in
    first-goes _ _ _ _ _ 0 _ _ _ c.as_slice-rest.ensures.verified c.loop-value.invariant goes c.after-rest.ensures

goes : (c : goal.In-Forward) → stepped (first c.loop-value.rest.now) c.args.pair.now.words (state_of c.loop-value.registers c.loop-value.scratch) ≡ Some (Goes c.in-Forward.skipped (state_of c.step.new.self c.step.new.scratch))
goes c = c.step.ensures ∙ ap (λ r. Some (effect_of r c.step.new.self c.step.new.scratch)) c.in-Forward.is

pub after-rest-requires-in-Forward : goal.after-rest-requires-in-Forward
after-rest-requires-in-Forward c = let within = first-within _ _ _ _ _ _ _ _ c.as_slice-rest.ensures.verified c.loop-value.invariant (goes c) in omega arith

pub loop-value-preserved : goal.loop-value-preserved
loop-value-preserved c =
    let goes = c.step.ensures ∙ ap (λ r. Some (effect_of r c.step.new.self c.step.new.scratch)) c.in-Forward.is in
    first-goes _ _ _ _ _ _ _ _ _ c.as_slice-rest.ensures.verified c.loop-value.invariant goes c.after-rest-in-Forward.ensures
