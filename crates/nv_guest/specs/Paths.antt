-- Paths, as a call hands them in: bytes up to a 0 byte, each of which lies in some region that may be read.
use Rattle.std.specs.Prelude.{ℕ, zero, suc, ◌+◌, ◌^◌, ◌&&◌, List, [], ◌∷◌, Option, Some, None, option_map, if◌then◌else◌, ◌==◌, nat_lt, slice_index}
use Rattle.nv_memory.specs.declared.region.Right.TheVariants.{Read}
use Rattle.nv_memory.specs.Region.{holds}
use Rattle.nv_memory.specs.Image.{Image}

-- the byte at an address, where it may be read
unfoldable pub byte_at : Image → ℕ → Option ℕ
byte_at memory at = if nat_lt at (2 ^ 32) && holds memory.regions at 1 Read then Some (slice_index memory.bytes at) else None

abbrev pub path_with : Option ℕ → Option (List ℕ) → Option (List ℕ)
path_with None later = None
path_with (Some b) later = if b == 0 then Some [] else option_map (λ bs. b ∷ bs) later

-- the bytes before the first 0 byte among so many, or all of them; nothing where a byte up to there may not be read
unfoldable pub path_at : ℕ → Image → ℕ → Option (List ℕ)
path_at zero memory at = Some []
path_at (suc most) memory at = path_with (byte_at memory at) (path_at most memory (at + 1))
