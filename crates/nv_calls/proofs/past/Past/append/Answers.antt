use Rattle.std.proofs.Common.{◌≡◌, ◌∙◌, sym, ap, subst, ◌≤◌, ◌+◌, ◌++◌, Result, drop, length, arith}
use Rattle.std.specs.Prelude.{vec_capacity, is_ok, IsOk, if◌then◌else◌}
use Rattle.std.proofs.lemmas.List.{length-append, drop-append-le}
use Rattle.nv_calls.specs.Known.{Known, most_of}
use Rattle.nv_calls.proofs.Most.{most-grows, most-fits}
use Rattle.nv_calls.proofs.past.Past.append.Goals as goal

when-ok : {A E X : Type 0} (r : Result A E) (a b : X) → IsOk r → (if is_ok r then a else b) ≡ a
when-ok r a b ok = ap (λ is. if is then a else b) ok

pub invariant_of-self : goal.invariant_of-self
invariant_of-self g c =
    let i = c.self.inside in
    let long = ap length c.and_all-self-inside.ensures ∙ length-append i.whole.items c.args.more.now in
    let few = most-fits i.gone (vec_capacity i.kept) (length i.whole.items + length c.args.more.now)
    (subst (λ (p : Known g.row.T.Denot). length p.items + length c.args.more.now ≤ p.most) (sym c.self.view_is) c.requires) in
    let ok = c.extend_from_slice.ensures.succeeds (omega (arith, few.0, c.self.invariant.1)) in
    let items = c.extend_from_slice.ensures.items ∙ when-ok c.extend_from_slice.result _ _ ok in
    let len = c.extend_from_slice.ensures.len ∙ when-ok c.extend_from_slice.result _ _ ok in (
      items ∙ ap (λ z. z ++ c.args.more.now) c.self.invariant.0
          ∙ sym (ap (drop i.gone) c.and_all-self-inside.ensures ∙ drop-append-le i.gone i.whole.items c.args.more.now (omega (arith, c.self.invariant.1))),
      omega (arith, len, c.self.invariant.1, long),
      omega (arith, few.1, long),
    )

pub returns-clause-most : goal.returns-clause-most
returns-clause-most g c = subst (λ (p : Known g.row.T.Denot). p.most ≤ most_of c.self.inside.gone (vec_capacity c.extend_from_slice.new.self)) c.self.view_is
    (most-grows _ _ _ _ (omega (arith, c.extend_from_slice.ensures.capacity)))
