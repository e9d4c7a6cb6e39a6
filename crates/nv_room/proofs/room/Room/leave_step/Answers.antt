use Rattle.std.proofs.Common.{rules, arith, sym, subst, ℕ, ◌<◌, refl, inr}
use Rattle.nv_room.specs.Header.{cursor_index}
use Rattle.nv_room.proofs.Placement.{header_inside}
use Rattle.nv_room.proofs.Cursors.{leaves_at}
use Rattle.nv_room.proofs.room.Room.leave_step.Goals as goal

pub store-requires : goal.store-requires
store-requires g c = let k = c.args.self.now.sizes in let l = c.args.seat in let o = c.requires.of in
    (o.0, subst (λ (z : ℕ). cursor_index l.station < z) (sym k.2) (header_inside _ _ (cursor_index l.station) (let a = o.1 in omega arith)), leaves_at _ _ _ _ _ _ _ _ (inr l.role) (search rules) refl)
