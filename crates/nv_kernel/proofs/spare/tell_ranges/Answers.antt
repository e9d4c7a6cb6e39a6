use Rattle.std.proofs.Common.{rules, ◌^◌}
use Rattle.nv_kernel.proofs.Sixes.{six_below}
use Rattle.nv_kernel.proofs.spare.tell_ranges.Goals as goal

pub returns-clause-args : goal.returns-clause-args
returns-clause-args c = six_below (2 ^ 32) c.args.args (search rules) (search rules) (search rules) (search rules) (search rules) (search rules) (search rules)
