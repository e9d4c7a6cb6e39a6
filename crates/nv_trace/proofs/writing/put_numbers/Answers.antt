use Rattle.nv_outside.proofs.Writing.{puts-is, puts-stopped}
use Rattle.byteorder.specs.Endian.{little_bytes}
use Rattle.nv_trace.specs.Trace.{number_bytes}
use Rattle.nv_trace.proofs.writing.put_numbers.Goals as goal

pub returns-in_err-put_all : goal.returns-in_err-put_all
unfolding number_bytes
returns-in_err-put_all g c =
    puts-stopped (little_bytes 4) c.args.values.now c.loop-value.value-index 0 c.loop-value-test.true c.from_residual.ensures.0 c.loop-value.invariant
    (puts-is c.to_le_bytes.ensures c.in_err-put_all.ensures)
