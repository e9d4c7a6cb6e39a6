use Rattle.std.proofs.Common.{sym, subst, arith}
use Rattle.std.proofs.lemmas.List.{take_at}
use Rattle.nv_workers.specs.Terms.{judges_of}
use Rattle.nv_workers.specs.inner.Rounds.{CanAll, AllOn, AreGone}
use Rattle.nv_workers.specs.Ran.{AllRan, AreApart}
use Rattle.nv_workers.proofs.Finishing.{can_new, all_ran}
use Rattle.nv_workers.proofs.Rotating.{all_can, all_then}
use Rattle.nv_workers.proofs.ran.run_all.Goals as goal

pub deal-requires-clause-can : goal.deal-requires-clause-can
deal-requires-clause-can g c κs within =
    subst (λ ws. CanAll (judges_of c.args.terms.now) c.args.room c.args.terms.now.most ws) (sym c.as_mut_slice-beside.ensures.value)
    (can_new (judges_of c.args.terms.now) c.args.room c.args.terms.now.most 0 c.requires.new.0 c.args.workers.items c.requires.new.1)

pub rotate-requires-clause-can : goal.rotate-requires-clause-can
rotate-requires-clause-can g c κs within =
    all_can (judges_of c.args.terms.now) c.args.room c.args.terms.now.most c.as_mut_slice-beside.result.now c.deal.new.workers c.deal.ensures
    (subst (λ ws. CanAll (judges_of c.args.terms.now) c.args.room c.args.terms.now.most ws) (sym c.as_mut_slice-beside.ensures.value)
    (can_new (judges_of c.args.terms.now) c.args.room c.args.terms.now.most 0 c.requires.new.0 c.args.workers.items c.requires.new.1))

pub collect-requires-clause-gone : goal.collect-requires-clause-gone
collect-requires-clause-gone g c κs within =
    let dealt = c.deal.auto.workers in
    let same = c.rotate.auto.workers in
    let len = c.as_mut_slice-beside.ensures.len in
    subst (λ ws. AreGone ws) (sym (take_at c.rotate.new.workers _ c.args.workers.len (omega (arith, same, dealt, len)))) c.rotate.ensures.gone

pub returns-clause-ran : goal.returns-clause-ran
returns-clause-ran g c = λ fresh new.
    let dealt = c.deal.auto.workers in
    let same = c.rotate.auto.workers in
    let len = c.as_mut_slice-beside.ensures.len in
    let ok = c.args.workers.ok.0 in
    let all = c.requires.all in
    let judges = judges_of c.args.terms.now in
    let on = subst (λ ws. AllOn judges c.args.room c.args.terms.now.most ws c.rotate.new.workers) c.as_mut_slice-beside.ensures.value
    (all_then judges c.args.room c.args.terms.now.most c.as_mut_slice-beside.result.now c.deal.new.workers c.rotate.new.workers c.deal.ensures c.rotate.ensures.on) in
    let apart = subst (λ ws. AreApart ws c.collect.result.versions.items c.collect.result.left.items)
    (take_at c.rotate.new.workers _ c.args.workers.len (omega (arith, same, dealt, len))) c.collect.ensures.apart in
    subst (λ room. AllRan judges room c.args.terms.now.most fresh c.collect.result.versions.items c.collect.result.left.items) (sym c.collect.ensures.room)
    (all_ran judges c.args.room c.args.terms.now.most fresh c.args.workers.items c.rotate.new.workers c.collect.result.versions.items c.collect.result.left.items
    new (omega (arith, ok, all)) on apart)
