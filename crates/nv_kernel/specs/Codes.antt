-- What a kernel is made over is data.
use Rattle.std.specs.Coded.{Coded, codes}
use Rattle.nv_script.specs.Scripts.{Setup}

pub setup_code : Coded Setup
setup_code = hlevel codes
