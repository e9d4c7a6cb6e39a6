use Rattle.std.proofs.Common.{◌+◌, ap}
use Rattle.nv_outside.proofs.Writing.{puts-is, puts-then, puts-failed}
use Rattle.nv_memory.specs.Cells.{memory_byte}
use Rattle.nv_inspect.specs.Shown.{cell_text}
use Rattle.nv_inspect.proofs.dump.put_byte.Goals as goal

pub returns : goal.returns
returns g c = puts-then c.in_ok-put_all.ensures (puts-is (ap cell_text c.byte.ensures) c.put_cell.ensures)

pub returns-in_err-put_all : goal.returns-in_err-put_all
returns-in_err-put_all g c = puts-failed (cell_text (memory_byte c.args.memory.now (c.args.address + c.args.i))) c.from_residual.ensures.0 c.in_err-put_all.ensures
