use Rattle.std.proofs.Common.{inr, refl}
use Rattle.nv_driver.specs.Outcome.{NoMemory}
use Rattle.nv_cli.proofs.top.do_generate.Goals as goal

pub returns-in-Err : goal.returns-in-Err
returns-in-Err g c = record { outcome = NoMemory; owed = inr refl; says = c.put_line.ensures }
