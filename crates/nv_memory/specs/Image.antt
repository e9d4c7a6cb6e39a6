-- What a memory is: its bytes, and its regions; and what its calls answer and leave.
use Rattle.std.specs.Prelude.{ℕ, ◌-◌, List, length, if◌then◌else◌, Result, Ok, Err, nat_lt, replicate}
use Rattle.nv_memory.specs.declared.region.Region.{Region}
use Rattle.nv_memory.specs.declared.region.Access.{Access}
use Rattle.nv_memory.specs.declared.region.Width.{Width}
use Rattle.nv_memory.specs.declared.region.Right.{Right}
use Rattle.nv_memory.specs.declared.region.Right.TheVariants.{Read, Write}
use Rattle.nv_memory.specs.Bytes.{bytes_at, put, little, byte_count}
use Rattle.nv_memory.specs.Region.{holds}

pub record Image : Type 0 where
  -- the byte at each address from 0 on
  pub bytes : List ℕ
  pub regions : List Region

-- the refusal of a range that doesn't lie in one region with the right
abbrev pub allowed : Image → ℕ → ℕ → Right → Result (Unit {0}) Access
allowed memory address n right = if holds memory.regions address n right then Ok tt else Err (record { 0 = address })

-- the number at the address, or the refusal
abbrev pub value_at : Image → ℕ → Width → Right → Result ℕ Access
value_at memory address width right = if holds memory.regions address (byte_count width) right then Ok (little (bytes_at memory.bytes address (byte_count width))) else Err (record { 0 = address })

-- the memory after bytes are stored; a refusal changes nothing
abbrev pub stored : Image → ℕ → List ℕ → Image
stored memory address bytes = if holds memory.regions address (length bytes) Write then record memory { bytes = put memory.bytes address bytes } else memory

-- a buffer after as many bytes are copied into it; a refusal changes nothing
abbrev pub copied : Image → ℕ → List ℕ → List ℕ
copied memory address buffer = if holds memory.regions address (length buffer) Read then bytes_at memory.bytes address (length buffer) else buffer

-- the bytes after a region's end has moved: zeros from the new end to below the old one
abbrev pub cut : List ℕ → ℕ → ℕ → List ℕ
cut bytes before end = if nat_lt end before then put bytes end (replicate (before - end) 0) else bytes
