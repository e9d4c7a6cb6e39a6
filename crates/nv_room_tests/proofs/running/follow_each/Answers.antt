use Rattle.std.proofs.Common.{rules, ◌≡◌, ◌∙◌, length, arith, sym, ap, subst, get_or}
use Rattle.nv_room.specs.Seats.{IsLeftOf, version_of_left, version_of_reader}
use Rattle.atomic_table.proofs.Lists.{at_index}
use Rattle.nv_room_tests.proofs.Orders.{at_below, at_value}
use Rattle.nv_room_tests.proofs.running.follow_each.Goals as goal

pub map_vec-requires-after_bounds : goal.map_vec-requires-after_bounds
map_vec-requires-after_bounds g c κs within i x near at = let f = c.requires.fresh i x (at_index _ i x near at) in (((f.0, ap (λ v. v.read) f.3), c.requires.calls), (let s = c.type_bounds.send-K in search rules))

pub returns-clause-order : goal.returns-clause-order
returns-clause-order g c = λ i l at.
    let long : length c.in_ok-back.back.items ≡ length c.args.readers.items = (let l = c.in_ok-back.ensures.len in search rules) in
    let within = at_below c.in_ok-back.back.items i l at in
    let job = (c.in_ok-back.ensures.each i l (omega arith)).1 in
    let value : get_or c.in_ok-back.back.items i l ≡ l = at_value c.in_ok-back.back.items i l l at in
    let met : IsLeftOf c.args.room.now (get_or c.in_ok-back.back.items i l) × (version_of_left (get_or c.in_ok-back.back.items i l) ≡ version_of_reader job.job) = job.call.met in
    let fresh = c.requires.fresh i job.job (at_index c.args.readers.items i job.job (omega arith) job.job_read) in
    (subst (λ z. IsLeftOf c.args.room.now z) value met.0, ap (λ z. version_of_left z) (sym value) ∙ met.1 ∙ fresh.2)
