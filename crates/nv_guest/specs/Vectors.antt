-- The vectors of readv and writev (Linux readv(2)): each an address and a length, of four bytes each in order.
use Rattle.std.specs.Prelude.{ℕ, zero, suc, ◌+◌, ◌-◌, ◌^◌, ◌&&◌, List, [], ◌∷◌, ◌++◌, Option, Some, None, option_map, if◌then◌else◌, ◌==◌, nat_lt, min}
use Rattle.nv_bytes.specs.LittleEndian.{field_at}
use Rattle.nv_memory.specs.declared.region.Right.{Right}
use Rattle.nv_memory.specs.declared.region.Right.TheVariants.{Read}
use Rattle.nv_memory.specs.Bytes.{bytes_at}
use Rattle.nv_memory.specs.Region.{holds}
use Rattle.nv_memory.specs.Image.{Image}
use Rattle.nv_guest.specs.declared.vectors.Part.{Part}

abbrev pub vector_part : List ℕ → Part
vector_part bytes = record { address = field_at 4 bytes 0; size = field_at 4 bytes 4 }

-- the vector at an address, where it may be read
unfoldable pub vector_at : Image → ℕ → Option Part
vector_at memory at = if nat_lt at (2 ^ 32) && holds memory.regions at 8 Read then Some (vector_part (bytes_at memory.bytes at 8)) else None

-- the first bytes of a part, at most so many
abbrev pub prefix_of : ℕ → Part → Part
prefix_of most part = record part { size = min part.size most }

-- the same, where the bytes there may be used
abbrev pub usable : Image → Right → ℕ → Part → Option Part
usable memory right most part = if holds memory.regions part.address (min part.size most) right then Some (prefix_of most part) else None

abbrev pub usable_by : Image → Right → ℕ → Option Part → Option Part
usable_by memory right most None = None
usable_by memory right most (Some part) = usable memory right most part

abbrev pub usable_at : Image → Right → ℕ → ℕ → Option Part
usable_at memory right most at = usable_by memory right most (vector_at memory at)

abbrev pub parts_with : Option Part → (ℕ → Option (List Part)) → Option (List Part)
parts_with None later = None
parts_with (Some part) later = option_map (λ parts. part ∷ parts) (later part.size)

-- the parts that this many vectors from an address on name, in order until so many bytes are reached; nothing where one of these vectors may
-- not be read or one of the parts may not be used
unfoldable pub parts_at : Image → Right → ℕ → ℕ → ℕ → Option (List Part)
parts_at memory right zero most at = Some []
parts_at memory right (suc count) most at = if most == 0 then Some []
    else parts_with (usable_at memory right most at) (λ size. parts_at memory right count (most - size) (at + 8))

-- how many bytes parts have together
abbrev pub capacity : List Part → ℕ
capacity [] = 0
capacity (part ∷ parts) = part.size + capacity parts

-- the bytes of parts, joined
abbrev pub joined_parts : Image → List Part → List ℕ
joined_parts memory [] = []
joined_parts memory (part ∷ parts) = bytes_at memory.bytes part.address part.size ++ joined_parts memory parts
