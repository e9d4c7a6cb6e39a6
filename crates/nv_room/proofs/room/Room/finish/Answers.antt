use Rattle.std.proofs.Common.{arith, refl, sym, ap, ◌≡◌, ◌∙◌, ◌<◌, subst, ℕ, length, map, set}
use Rattle.std.specs.Prelude.{Some, None}
use mathlib.Core.Option.{some-injective}
use Rattle.nv_words.specs.Spelling.{spell}
use Rattle.nv_room.specs.Room.{Became}
use Rattle.nv_room.specs.Lefts.{LeftsOf, AllTell}
use Rattle.nv_room.proofs.Back.{last_left, fewer}
use Rattle.nv_room.proofs.Placement.{header_inside}
use Rattle.nv_room.proofs.Ends.{at_last_state, every_left, all_tell}
use Rattle.nv_room.proofs.room.Room.finish.Goals as goal

pub join_all-requires-clause-seat : goal.join_all-requires-clause-seat
join_all-requires-clause-seat g c κs within =
    let room = c.args.self in
    let all = c.args.left.items in
    let rest = c.pop.new.self.items in
    let base = c.in-Some.base in
    let is = c.in-Some.ensures.items in
    let seats = c.requires.0 in
    let mine = seats.table (length rest) base (last_left all rest base is) in
    (mine.0, base.role, subst (λ (z : ℕ). 0 < z) (sym room.sizes.2) (header_inside _ _ 0 (omega arith)))

pub join_all-requires-clause-left : goal.join_all-requires-clause-left
join_all-requires-clause-left g c κs within =
    let room = c.args.self in
    let all = c.args.left.items in
    let rest = c.pop.new.self.items in
    let base = c.in-Some.base in
    let is = c.in-Some.ensures.items in
    let seats = c.requires.0 in
    let mine = seats.table (length rest) base (last_left all rest base is) in
    subst (λ (n : ℕ). LeftsOf n room.table.shared.table_id rest) (sym room.memory) (fewer room.versions room.table.shared.table_id all rest base is seats)

pub index_mut-requires : goal.index_mut-requires
index_mut-requires g c =
    let room = c.args.self in
    let all = c.args.left.items in
    let rest = c.pop.new.self.items in
    let base = c.in-Some.base in
    let is = c.in-Some.ensures.items in
    let seats = c.requires.0 in
    let mine = seats.table (length rest) base (last_left all rest base is) in
    let w = c.join_all.ensures.counts.wide in
    let m = room.memory in
    let l = mine.1 in
    omega arith

pub close_with-closed-requires : goal.close_with-closed-requires
close_with-closed-requires g c =
    let room = c.args.self in
    let all = c.args.left.items in
    let rest = c.pop.new.self.items in
    let base = c.in-Some.base in
    let is = c.in-Some.ensures.items in
    let seats = c.requires.0 in
    let mine = seats.table (length rest) base (last_left all rest base is) in
    c.join_all.ensures.same.0 ∙ mine.0

pub unreachable-requires-in_default-take : goal.unreachable-requires-in_default-take
unreachable-requires-in_default-take g c =
    let room = c.args.self in
    let all = c.args.left.items in
    let rest = c.pop.new.self.items in
    let base = c.in-Some.base in
    let is = c.in-Some.ensures.items in
    let seats = c.requires.0 in
    let mine = seats.table (length rest) base (last_left all rest base is) in
    let same = c.join_all.ensures.same.2 in let counted = c.join_all.ensures.counts in
    let each = λ (s : ℕ) (l : s < room.table.shared.key.versions). every_left room.versions all rest base _ _ _ is counted c.requires.1 c.join_all.new.seat.me.0 same s (subst (λ (z : ℕ). s < z) room.sizes.4 l) in
    let a = at_last_state g.K.SyscallKernel.log (Became g.K.SyscallKernel.start g.K.SyscallKernel.handed) room.table.shared.key _ c.join_all.new.seat.me.0 _ _ c.close_with-closed.ensures.values.2 (ap (λ v. v.role) same ∙ base.role) each in
    let e : Some a.kernel ≡ None = some-injective (Some a.kernel) None (sym a.out ∙ c.in_default-take.ensures.value) in cc

pub returns-clause-start : goal.returns-clause-start
returns-clause-start g c =
    let room = c.args.self in
    let all = c.args.left.items in
    let rest = c.pop.new.self.items in
    let base = c.in-Some.base in
    let is = c.in-Some.ensures.items in
    let seats = c.requires.0 in
    let mine = seats.table (length rest) base (last_left all rest base is) in
    let same = c.join_all.ensures.same.2 in let counted = c.join_all.ensures.counts in
    let each = λ (s : ℕ) (l : s < room.table.shared.key.versions). every_left room.versions all rest base _ _ _ is counted c.requires.1 c.join_all.new.seat.me.0 same s (subst (λ (z : ℕ). s < z) room.sizes.4 l) in
    let a = at_last_state g.K.SyscallKernel.log (Became g.K.SyscallKernel.start g.K.SyscallKernel.handed) room.table.shared.key _ c.join_all.new.seat.me.0 _ _ c.close_with-closed.ensures.values.2 (ap (λ v. v.role) same ∙ base.role) each in
    let q : Some a.kernel ≡ Some c.in-Some-take.kernel = some-injective (Some a.kernel) (Some c.in-Some-take.kernel) (sym a.out ∙ c.in-Some-take.ensures.value) in let e : a.kernel ≡ c.in-Some-take.kernel = cc in
    ap g.K.SyscallKernel.start (sym e) ∙ a.became.0

pub returns-clause-left : goal.returns-clause-left
returns-clause-left g c =
    let room = c.args.self in
    let all = c.args.left.items in
    let rest = c.pop.new.self.items in
    let base = c.in-Some.base in
    let is = c.in-Some.ensures.items in
    let seats = c.requires.0 in
    let mine = seats.table (length rest) base (last_left all rest base is) in
    let same = c.join_all.ensures.same.2 in let counted = c.join_all.ensures.counts in
    let each = λ (s : ℕ) (l : s < room.table.shared.key.versions). every_left room.versions all rest base _ _ _ is counted c.requires.1 c.join_all.new.seat.me.0 same s (subst (λ (z : ℕ). s < z) room.sizes.4 l) in
    let a = at_last_state g.K.SyscallKernel.log (Became g.K.SyscallKernel.start g.K.SyscallKernel.handed) room.table.shared.key _ c.join_all.new.seat.me.0 _ _ c.close_with-closed.ensures.values.2 (ap (λ v. v.role) same ∙ base.role) each in
    let q : Some a.kernel ≡ Some c.in-Some-take.kernel = some-injective (Some a.kernel) (Some c.in-Some-take.kernel) (sym a.out ∙ c.in-Some-take.ensures.value) in let e : a.kernel ≡ c.in-Some-take.kernel = cc in
    subst (λ k. AllTell room k (map spell (g.K.SyscallKernel.log k)) (set c.join_all.new.counts.items base.version base.seen) all) e
    (all_tell room room.versions room.table.shared.table_id all rest base _ _ _ _ is seats counted (sym room.memory) refl room.table.shared.key.versions c.join_all.new.seat.me.0 _ room.sizes.4 same a)
