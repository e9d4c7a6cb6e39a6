use Rattle.std.proofs.Common.{◌∙◌, ◌∷◌, [], sym, ap, subst, arith, length, length-append}
use Rattle.std.specs.List.{All}
use Rattle.std.proofs.lemmas.List.Elements.{All-append, All-cons, All-nil}
use Rattle.nv_room.specs.Trails.{Trails}
use Rattle.nv_room.proofs.make.trails_for.Goals as goal

pub loop-init : goal.loop-init
loop-init c = record {
  many = ap length c.in_ok-trails.ensures.items;
  begun = subst (All (λ t. Trails c.args.places t [] [])) (sym c.in_ok-trails.ensures.items) (All-nil (λ t. Trails c.args.places t [] []));
}

pub loop-preserved : goal.loop-preserved
loop-preserved c =
    let is = c.in_ok-push.ensures.items in
    let more = ap length is ∙ length-append c.loop.trails.items (c.in_ok-start.field-0 ∷ []) in
    let many = c.loop.invariant.many in record {
      many = omega (arith, more, many);
      begun = subst (All (λ t. Trails c.args.places t [] [])) (sym is)
          (All-append (λ t. Trails c.args.places t [] []) c.loop.trails.items (c.in_ok-start.field-0 ∷ []) c.loop.invariant.begun
          (All-cons (λ t. Trails c.args.places t [] []) c.in_ok-start.field-0 [] c.in_ok-start.ensures (All-nil (λ t. Trails c.args.places t [] []))));
    }
