use Rattle.std.proofs.Common.{◌≡◌, ap, ◌∙◌, arith, length}
use Rattle.nv_guest.proofs.Shaped.{length-bytes_at}
use Rattle.nv_guest.proofs.calls.Caller.copy_bytes.Goals as goal

pub fill-requires : goal.fill-requires
fill-requires c =
    let size : length c.in-Ok.bytes.now ≡ c.min-count.result = ap length c.in-Ok.ensures.ok ∙ length-bytes_at c.args.self.now.memory.now.bytes c.argument-2.result c.min-count.result in
    omega (arith, size, c.min-count.ensures)
