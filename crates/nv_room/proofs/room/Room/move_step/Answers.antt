use Rattle.std.proofs.Common.{arith, sym, ap, refl, ◌<◌, ℕ, subst}
use Rattle.nv_room.specs.Header.{cursor_index}
use Rattle.nv_room.proofs.Placement.{header_inside}
use Rattle.nv_room.proofs.HandingOver.{moves_at}
use Rattle.nv_room.proofs.room.Room.move_step.Goals as goal

pub store-requires : goal.store-requires
store-requires g c = let k = c.args.self.now.sizes in let m = c.args.moving in let o = c.requires.of in
    (o.0.0, subst (λ (z : ℕ). cursor_index m.former < z) (sym k.2) (header_inside _ _ (cursor_index m.former) (let a = o.1 in omega arith)), moves_at _ _ _ _ _ _ _ _ m.role (ap cursor_index (sym m.former_is)) refl)
