use Rattle.std.proofs.Common.{arith}
use Rattle.nv_fs.proofs.Signed.{plus_back}
use Rattle.nv_fs.proofs.seeking.plus_signed.Goals as goal

pub returns-else-base-back : goal.returns-else-base-back
returns-else-base-back c = plus_back c.args.base c.args.number (omega arith) (omega arith) (omega arith) (omega arith)
