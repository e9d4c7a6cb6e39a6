use Rattle.std.proofs.Common.{arith, sym, subst, ◌+◌, ◌≤◌, ℕ}
use Rattle.std.specs.Prelude.{IsTrue, ◌↔◌}
use Rattle.nv_pool.specs.Chunks.{chunks_of}
use Rattle.nv_room.proofs.PoolOfLog.{from_is}
use Rattle.nv_room.specs.Placement.{chunks_from, sizes}
use Rattle.nv_room.proofs.Follows.{pool_count}
use Rattle.nv_room.proofs.room.Lead.fits.Goals as goal

pub fits-requires : goal.fits-requires
fits-requires g c = let l = c.args.self.now in let v = l.seat.me.0 in let n = pool_count l.trail.pool v.seen l.trail_is.pool in let p = l.trail_is.pool_is.1 in let f = c.requires.floor in let a = c.requires.near in
    record { bytes = c.requires.bytes; floor = omega arith; near = omega arith }

pub returns : goal.returns
returns g c = let l = c.args.self.now in let v = l.seat.me.0 in let t = l.trail_is in let e = c.fits.ensures (sizes v.seen) t.pool in
    subst (λ (z : ℕ). IsTrue c.fits.result ↔ (chunks_from v.seen c.args.floor + chunks_of c.args.bytes ≤ z)) t.pool_is.0
    (subst (λ (z : ℕ). IsTrue c.fits.result ↔ (z + chunks_of c.args.bytes ≤ l.trail.pool.chunks)) (sym (from_is v.seen c.args.floor)) e)
