use Rattle.std.proofs.Common.{ap}
use Rattle.nv_outside.proofs.Writing.{puts-is}
use Rattle.nv_bytes.specs.Numbers.{hex_of}
use Rattle.nv_inspect.proofs.threads.put_word.Goals as goal

pub returns : goal.returns
returns g c = puts-is (ap hex_of c.to_be_bytes.ensures) c.put_hex.ensures
