use Rattle.std.proofs.Common.{arith}
use Rattle.nv_fs.proofs.disk.FileSystem.open_at.Goals as goal

pub open_named-requires : goal.open_named-requires
open_named-requires c =
    let short = c.in-Ok.ensures.short in
    record { ready = record { opens = c.requires.opens; files = c.requires.files; name = omega arith } }
