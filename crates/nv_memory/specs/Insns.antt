-- Instructions in a memory.
use Rattle.std.specs.Prelude.{ℕ, Option, Result, Ok, Err, if◌then◌else◌}
use Rattle.nv_isa.specs.declared.op.Insn.{Insn}
use Rattle.nv_isa.specs.Table.{decoded}
use Rattle.nv_memory.specs.declared.region.Access.{Access}
use Rattle.nv_memory.specs.declared.region.Right.TheVariants.{Execute}
use Rattle.nv_memory.specs.Bytes.{bytes_at, little}
use Rattle.nv_memory.specs.Region.{holds}
use Rattle.nv_memory.specs.Image.{Image}

-- what the word at the address spells, or the refusal
abbrev pub insn_at : Image → ℕ → Result (Option Insn) Access
insn_at memory address = if holds memory.regions address 4 Execute then Ok (decoded (little (bytes_at memory.bytes address 4))) else Err (record { 0 = address })
