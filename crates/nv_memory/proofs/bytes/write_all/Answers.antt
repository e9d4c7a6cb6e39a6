use Rattle.std.proofs.Common.{◌+◌, ◌-◌, ◌≡◌, length, sym, arith}
use Rattle.nv_memory.proofs.Loops.{put_is}
use Rattle.nv_memory.proofs.bytes.write_all.Goals as goal

pub returns : goal.returns
returns c =
    let bytes = c.args.bytes.now in
    let from = c.args.from.now in
    let size : c.args.at + length from - c.args.at ≡ length from = omega arith in
    rw (c.copy_from_slice.ensures.after, size) (sym (put_is bytes c.args.at from c.requires))
