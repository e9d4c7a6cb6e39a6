use Rattle.std.proofs.Common.{◌≡◌, ◌+◌, ◌∙◌, sym, ap, Some, ◌==◌, arith}
use Rattle.std.specs.List.{position_from}
use Rattle.nv_sockets.specs.declared.waiting.Waiting.{Waiting}
use Rattle.nv_sockets.proofs.Queue.{left_none, left_some}
use Rattle.nv_sockets.proofs.places.leave.Goals as goal

pub returns-in_default : goal.returns-in_default
returns-in_default c =
    let i = c.args.i in
    let e = ap (position_from (λ (w : Waiting). w.connection == c.args.i) 0) (sym c.as_slice.ensures.value) ∙ sym c.place_of.ensures.is ∙ c.in_default.is in
    left_none c.args.i 0 c.args.waiting.now.items e

pub returns : goal.returns
returns c =
    let same : c.in-Some.place ≡ 0 + c.in-Some.place = omega arith in
    let e = ap (position_from (λ (w : Waiting). w.connection == c.args.i) 0) (sym c.as_slice.ensures.value) ∙ sym c.place_of.ensures.is ∙ c.in-Some.is ∙ ap Some same in
    c.remove.ensures.items ∙ left_some c.args.i 0 c.in-Some.place c.args.waiting.now.items e
