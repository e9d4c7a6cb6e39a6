-- Single bytes.
use Rattle.std.specs.Prelude.{ℕ, Option, Some, None, slice_index, if◌then◌else◌}
use Rattle.std.specs.List.{list_any}
use Rattle.nv_memory.specs.Region.{lies_in}
use Rattle.nv_memory.specs.Image.{Image}

-- the byte at the address, where some region has it
abbrev pub memory_byte : Image → ℕ → Option ℕ
memory_byte memory address = if list_any (lies_in address 1) memory.regions then Some (slice_index memory.bytes address) else None
