-- Where an instruction has gone on to, apart from the registers.
use Rattle.std.specs.Prelude.{ℕ}
use Rattle.nv_machine.specs.declared.outcome.Stepped.{Stepped}
use Rattle.nv_machine.specs.declared.outcome.Stepped.TheVariants as ends
use Rattle.nv_machine.specs.declared.outcome.Went.{Went}
use Rattle.nv_machine.specs.declared.outcome.Went.TheVariants.{Past, To, Call, Fault}
use Rattle.nv_machine.specs.Registers.{Registers}

-- how the step ended
abbrev pub ended : Went → Stepped
ended Past = ends.On
ended To = ends.On
ended Call = ends.Call
ended (Fault kind) = ends.Fault kind

-- the registers with the program counter there
abbrev pub at_pc : Registers → ℕ → Registers
at_pc r pc = record r { pc = pc }
