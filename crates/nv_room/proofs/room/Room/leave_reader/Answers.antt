use Rattle.std.proofs.Common.{rules, arith, sym, subst, ℕ, ◌<◌, refl, inl}
use Rattle.nv_room.specs.Header.{cursor_index}
use Rattle.nv_room.proofs.Placement.{header_inside}
use Rattle.nv_room.proofs.Cursors.{leaves_at}
use Rattle.nv_room.proofs.room.Room.leave_reader.Goals as goal

pub store-requires : goal.store-requires
store-requires g c = let k = c.args.self.now.sizes in let r = c.args.reader in let o = c.requires.of in
    (o.0, subst (λ (z : ℕ). cursor_index r.station < z) (sym k.2) (header_inside _ _ (cursor_index r.station) (let a = o.1 in omega arith)), leaves_at _ _ _ _ _ _ _ _ (inl r.role) (search rules) refl)
