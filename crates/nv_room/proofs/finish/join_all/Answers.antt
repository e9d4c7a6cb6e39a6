use Rattle.std.proofs.Common.{rules, arith, refl, sym, ap, ◌≡◌, ◌∙◌, subst, [], ◌∷◌, ◌++◌, length}
use Rattle.nv_room.specs.Steps.{past_of, rejoined}
use Rattle.nv_room.specs.Seats.{with_ended}
use Rattle.nv_room.proofs.Comings.{joins}
use Rattle.nv_room.specs.Room.{Live}
use Rattle.nv_room.proofs.Back.{last_left, one_back, all_back}
use Rattle.nv_room.proofs.finish.join_all.Goals as goal

pub index_mut-requires : goal.index_mut-requires
index_mut-requires g c = let b = c.loop-one.invariant.back in let r = c.in-Some.one in let xs = c.pop.new.self.items in
    let m = b.seats.table (length xs) r (last_left _ xs r c.in-Some.ensures.items) in let w = b.wide in let l = m.1 in omega arith

pub join_seat-requires : goal.join_seat-requires
join_seat-requires g c = let i = c.loop-one.invariant in let r = c.in-Some.one in let xs = c.pop.new.self.items in
    let m = i.back.seats.table (length xs) r (last_left _ xs r c.in-Some.ensures.items) in
    (i.same.0 ∙ c.requires.seat.0, m.0, r.free, c.requires.seat.2, joins _ _ _ _ _ _ _ (subst Live (sym (ap (λ v. v.role) i.same.2 ∙ c.requires.seat.1)) tt) r.role)

pub loop-one-preserved : goal.loop-one-preserved
loop-one-preserved g c = let i = c.loop-one.invariant in let r = c.in-Some.one in let e = c.join_seat.ensures in let is = c.in-Some.ensures.items in
    let old = c.loop-one.seat.me.0.ended in let now : c.join_seat.new.seat.me.0.ended ≡ old ++ past_of r.seat.me.0 ∷ [] = ap (λ m. m.0.ended) e.2 in record {
      same = (e.0 ∙ i.same.0, e.1 ∙ i.same.1, ap (λ m. m.0) e.2 ∙ ap (λ v. rejoined v r.seat.me.0) i.same.2 ∙ ap (with_ended c.args.seat.now.me.0) (sym now));
      back = one_back _ _ _ _ _ r _ _ _ _ _ is refl now r.seen_is refl i.back;
    }

pub returns-clause-counts : goal.returns-clause-counts
returns-clause-counts g c = let none : length c.loop-one.left.items ≡ 0 = (let a = c.pop.ensures in let b = c.in_default.is in search rules) in all_back _ _ _ _ _ _ _ none c.loop-one.invariant.back
