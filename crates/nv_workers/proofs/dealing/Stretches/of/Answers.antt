use Rattle.std.proofs.Common.{arith}
use Rattle.nv_workers.proofs.Evenly.{longer_fit, short_first, long_first}
use Rattle.nv_workers.proofs.dealing.Stretches.of.Goals as goal

pub overflow_mul-in_long : goal.overflow_mul-in_long
overflow_mul-in_long c =
    let fits = longer_fit c.args.workers c.args.stretches c.requires.some c.requires.enough c.div_ceil-long.result c.div_ceil-long.ensures in
    omega (arith, fits, c.ranges.workers.fits)

pub overflow_sub-in_short : goal.overflow_sub-in_short
overflow_sub-in_short c = longer_fit c.args.workers c.args.stretches c.requires.some c.requires.enough c.div_ceil-long.result c.div_ceil-long.ensures

pub returns-then-in_long-in_short : goal.returns-then-in_long-in_short
returns-then-in_long-in_short c =
    short_first c.args.workers c.args.stretches c.requires.some c.requires.enough c.div_ceil-long.result c.div_ceil-long.ensures (omega arith)

pub returns-else-in_long-in_short : goal.returns-else-in_long-in_short
returns-else-in_long-in_short c =
    long_first c.args.workers c.args.stretches c.requires.some c.requires.enough c.div_ceil-long.result c.div_ceil-long.ensures (omega arith)
