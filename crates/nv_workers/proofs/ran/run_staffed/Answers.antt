use Rattle.std.proofs.Common.{◌∙◌, sym, subst, arith}
use Rattle.std.proofs.lemmas.List.{take_at}
use Rattle.nv_workers.specs.Terms.{judges_of}
use Rattle.nv_workers.specs.inner.Rounds.{CanAll, AllOn, AreGone}
use Rattle.nv_workers.specs.Ran.{AllRan, AreApart}
use Rattle.nv_workers.proofs.Finishing.{can_new, all_ran}
use Rattle.nv_workers.proofs.Rotating.{all_can, all_then}
use Rattle.nv_workers.proofs.ran.run_staffed.Goals as goal

pub staff_with-workers-requires-clause-seats : goal.staff_with-workers-requires-clause-seats
staff_with-workers-requires-clause-seats g c κs within = (c.args.made.0, c.requires.seats)

pub deal-requires-clause-can : goal.deal-requires-clause-can
deal-requires-clause-can g c κs within =
    subst (λ ws. CanAll (judges_of c.args.terms.now) c.args.made.0 c.args.terms.now.most ws) (sym c.as_mut_slice-beside.ensures.value)
    (can_new (judges_of c.args.terms.now) c.args.made.0 c.args.terms.now.most 0 c.args.versions.items c.staff_with-workers.result.items (c.staff_with-workers.ensures.new c.args.made.0 c.requires.seats))

pub rotate-requires-clause-can : goal.rotate-requires-clause-can
rotate-requires-clause-can g c κs within =
    all_can (judges_of c.args.terms.now) c.args.made.0 c.args.terms.now.most c.as_mut_slice-beside.result.now c.deal.new.workers c.deal.ensures
    (subst (λ ws. CanAll (judges_of c.args.terms.now) c.args.made.0 c.args.terms.now.most ws) (sym c.as_mut_slice-beside.ensures.value)
    (can_new (judges_of c.args.terms.now) c.args.made.0 c.args.terms.now.most 0 c.args.versions.items c.staff_with-workers.result.items (c.staff_with-workers.ensures.new c.args.made.0 c.requires.seats)))

pub collect-requires-clause-gone : goal.collect-requires-clause-gone
collect-requires-clause-gone g c κs within =
    let dealt = c.deal.auto.workers in
    let same = c.rotate.auto.workers in
    let len = c.as_mut_slice-beside.ensures.len in
    subst (λ ws. AreGone ws) (sym (take_at c.rotate.new.workers _ c.staff_with-workers.result.len (omega (arith, same, dealt, len)))) c.rotate.ensures.gone

pub returns-clause-ran : goal.returns-clause-ran
returns-clause-ran g c =
    let dealt = c.deal.auto.workers in
    let same = c.rotate.auto.workers in
    let len = c.as_mut_slice-beside.ensures.len in
    let each = c.staff_with-workers.ensures.each in
    let all = c.requires.all in
    let judges = judges_of c.args.terms.now in
    let on = subst (λ ws. AllOn judges c.args.made.0 c.args.terms.now.most ws c.rotate.new.workers) c.as_mut_slice-beside.ensures.value
    (all_then judges c.args.made.0 c.args.terms.now.most c.as_mut_slice-beside.result.now c.deal.new.workers c.rotate.new.workers c.deal.ensures c.rotate.ensures.on) in
    let apart = subst (λ ws. AreApart ws c.collect.result.versions.items c.collect.result.left.items)
    (take_at c.rotate.new.workers _ c.staff_with-workers.result.len (omega (arith, same, dealt, len))) c.collect.ensures.apart in
    subst (λ room. AllRan judges room c.args.terms.now.most c.args.versions.items c.collect.result.versions.items c.collect.result.left.items) (sym c.collect.ensures.room)
    (all_ran judges c.args.made.0 c.args.terms.now.most c.args.versions.items c.staff_with-workers.result.items c.rotate.new.workers c.collect.result.versions.items c.collect.result.left.items
    (c.staff_with-workers.ensures.new c.args.made.0 c.requires.seats) (each ∙ all) on apart)
