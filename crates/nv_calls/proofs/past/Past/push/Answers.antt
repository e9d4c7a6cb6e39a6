use Rattle.std.proofs.Common.{◌≡◌, ◌∙◌, ℕ, ◌<◌, ◌+◌, ◌∷◌, [], ◌++◌, sym, ap, subst, drop, length, arith}
use Rattle.std.specs.Prelude.{vec_len, vec_capacity}
use Rattle.std.proofs.lemmas.List.{length-append, drop-append-le}
use Rattle.nv_calls.specs.Known.{Known, most_of}
use Rattle.nv_calls.proofs.Most.{most-inside}
use Rattle.nv_calls.proofs.past.Past.push.Goals as goal

-- there is room behind those that are kept
room : (n gone len capacity : ℕ) → n < most_of gone capacity → gone + len ≡ n → (len < capacity) × (n < 18446744073709551615)
room n gone len capacity few is = let k = most-inside gone capacity n few in (omega (arith, k.0, is), k.1)

pub push_reserved-requires : goal.push_reserved-requires
push_reserved-requires g c =
    let i = c.self.inside in
    (room (length i.whole.items) i.gone (vec_len i.kept) (vec_capacity i.kept) (subst (λ (p : Known g.row.T.Denot). length p.items < p.most) (sym c.self.view_is) c.requires) c.self.invariant.1).0

pub invariant_of-self : goal.invariant_of-self
invariant_of-self g c =
    let i = c.self.inside in
    let few = (room (length i.whole.items) i.gone (vec_len i.kept) (vec_capacity i.kept) (subst (λ (p : Known g.row.T.Denot). length p.items < p.most) (sym c.self.view_is) c.requires) c.self.invariant.1).1 in
    let long = ap length c.and-self-inside.ensures ∙ length-append i.whole.items (c.args.one ∷ []) in (
      c.push_reserved.ensures.items ∙ ap (λ z. z ++ c.args.one ∷ []) c.self.invariant.0
          ∙ sym (ap (drop i.gone) c.and-self-inside.ensures ∙ drop-append-le i.gone i.whole.items (c.args.one ∷ []) (omega (arith, c.self.invariant.1))),
      omega (arith, c.push_reserved.ensures.len, c.self.invariant.1, long),
      omega (arith, few, long),
    )
