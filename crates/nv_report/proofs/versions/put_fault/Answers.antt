use Rattle.std.proofs.Common.{ap}
use Rattle.std.specs.Int.{w32, to_be_bytes}
use Rattle.nv_outside.proofs.Writing.{puts-is, puts-then, puts-failed}
use Rattle.nv_bytes.specs.Numbers.{hex_of}
use Rattle.nv_report.proofs.versions.put_fault.Goals as goal

pub returns : goal.returns
returns g c = puts-then c.in_ok-put_fault_name.ensures (puts-is (ap hex_of c.to_be_bytes.ensures) c.put_hex.ensures)

pub returns-in_err-put_fault_name : goal.returns-in_err-put_fault_name
returns-in_err-put_fault_name g c = puts-failed (hex_of (to_be_bytes w32 c.args.pc)) c.from_residual.ensures.0 c.in_err-put_fault_name.ensures
