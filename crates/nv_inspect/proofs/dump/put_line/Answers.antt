use Rattle.std.proofs.Common.{◌+◌, ◌*◌, ap}
use Rattle.nv_outside.proofs.Writing.{puts-is}
use Rattle.nv_inspect.specs.Shown.{row_text}
use Rattle.nv_inspect.proofs.dump.put_line.Goals as goal

pub returns : goal.returns
returns g c = puts-is (ap (row_text c.args.memory.now (c.args.address + 16 * c.args.i)) c.min.ensures) c.put_row.ensures
