use Rattle.std.proofs.Common.{arith, ◌+◌, ◌-◌, ℕ, leb-true, le-leb}
use Rattle.nv_pool.proofs.ChunkLaws.{chunks_split}
use Rattle.nv_pool.proofs.pool.Pool.fits.Goals as goal

pub returns : goal.returns
returns c sizes h = let s = chunks_split sizes c.args.floor in let a = c.start.ensures.is sizes h in let t = h.total in let b = c.chunks_of.ensures.is in
    let need : ℕ = c.args.self.now.total - c.start.result + c.chunks_of.result in
    ((λ q. let le = leb-true need c.args.self.now.chunks q in omega arith), λ q. le-leb need c.args.self.now.chunks (omega arith))
