use Rattle.std.proofs.Common.{◌≡◌, ◌∙◌, ◌++◌, [], ◌∷◌, ap, sym, subst, arith, length}
use mathlib.Core.Option.{some-ne-none}
use Rattle.nv_room_tests.proofs.Orders.{Down, down_more, all_left}
use Rattle.nv_room_tests.proofs.changing.end_three.Goals as goal

pub finish-requires-after_bounds : goal.finish-requires-after_bounds
finish-requires-after_bounds g c κs within =
    let room = c.args.room in
    let s = c.requires.versions_are in
    let o = c.requires.of in
    let a = s.0 in
    let b = s.1 in
    let d = s.2 in
    let n = s.3 in
    let is : c.push-3.new.self.items ≡ ((([] ++ c.args.third ∷ []) ++ c.args.second ∷ []) ++ c.args.first ∷ []) = c.in_ok-push-3.ensures.items ∙ ap (λ z. z ++ c.args.first ∷ []) (c.in_ok-push-2.ensures.items ∙ ap (λ z. z ++ c.args.second ∷ []) (c.in_ok-push.ensures.items ∙ ap (λ z. z ++ c.args.third ∷ []) c.in_ok-left.ensures.items)) in
    let one = down_more room [] c.args.third (λ i l f. absurd (some-ne-none l (sym f))) o.2 (omega arith) in
    let two = down_more room ([] ++ c.args.third ∷ []) c.args.second one o.1 (omega arith) in
    let three = down_more room (([] ++ c.args.third ∷ []) ++ c.args.second ∷ []) c.args.first two o.0 (omega arith) in
    all_left room c.push-3.new.self.items (subst (Down room) (sym is) three) (ap length is ∙ sym n)
