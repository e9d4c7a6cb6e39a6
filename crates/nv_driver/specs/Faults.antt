-- Why a line gives no command.
use Rattle.clap.specs.declared.error.kind.ErrorKind.{ErrorKind}
use Rattle.clap.specs.declared.error.kind.ErrorKind.TheVariants.{OutOfMemory}
use Rattle.nv_driver.specs.declared.asked.LineFault.{LineFault}
use Rattle.nv_driver.specs.declared.asked.LineFault.TheVariants.{Usage, Memory}

-- an error of `clap` refuses the words, unless memory ran out
abbrev pub line_fault : ErrorKind → LineFault
line_fault OutOfMemory = Memory
line_fault _ = Usage
