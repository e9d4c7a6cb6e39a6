use Rattle.std.proofs.Common.{◌++◌}
use Rattle.nv_outside.proofs.Writing.{puts-then, puts-failed}
use Rattle.nv_bytes.specs.Numbers.{hex_of}
use Rattle.nv_report.proofs.events.put_bytes.Goals as goal

pub returns-in_err-put_all : goal.returns-in_err-put_all
returns-in_err-put_all g c = puts-failed (hex_of c.args.call.now ++ hex_of c.args.reply.now) c.from_residual.ensures.0 c.in_err-put_all.ensures

pub returns : goal.returns
returns g c = puts-then c.in_ok-put_all.ensures (puts-then c.in_ok-put_hex.ensures c.put_hex-2.ensures)

pub returns-in_err-put_hex : goal.returns-in_err-put_hex
returns-in_err-put_hex g c = puts-then c.in_ok-put_all.ensures (puts-failed (hex_of c.args.reply.now) c.from_residual-in_err-put_hex.ensures.0 c.in_err-put_hex.ensures)
