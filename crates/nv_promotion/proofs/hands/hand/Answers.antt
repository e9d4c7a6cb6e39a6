use Rattle.std.proofs.Common.{◌<◌, ℕ, ap, arith}
use Rattle.nv_room.specs.Kinds.{opens, hands, moves}
use Rattle.nv_room.specs.Seats.{lead_view, opening_view, moving_view, stations_of, view}
use Rattle.nv_room.proofs.Stepped.{one_step, more_steps}
use Rattle.nv_promotion.proofs.hands.hand.Goals as goal

pub returns-clause-steps : goal.returns-clause-steps
returns-clause-steps g c =
    let n : ℕ = stations_of c.args.room.now in
    let old = lead_view c.args.lead in
    let opening = opening_view c.open_step-opening.result in
    let moving = moving_view c.hand_step-moving.result in
    let new = view c.move_step.result in
    let e = c.open_step-opening.ensures in
    let h = c.hand_step-moving.ensures in
    let lower : opening.station < opening.opened = (let a = e.above in let s = ap (λ v. v.station) e.view in let o = ap (λ v. v.opened) e.view in omega arith) in
    let near : opening.opened < n = (let a = e.of.1 in let o = c.open_step-opening.result.opened_is in omega arith) in
    more_steps n old opening new (one_step n old opening opens (c.args.lead.role, e.view))
    (more_steps n opening moving new (one_step n opening moving (hands moving.owner_last) (c.open_step-opening.result.role, lower, near, h.view))
    (one_step n moving new moves (c.hand_step-moving.result.role, c.move_step.ensures.view)))
