-- Bytes at an address, and little-endian numbers.
use Rattle.std.specs.Prelude.{ℕ, zero, suc, ◌+◌, ◌*◌, ◌/◌, ◌%◌, List, [], ◌∷◌, slice_index, slice_set}
use Rattle.nv_memory.specs.declared.region.Width.{Width}
use Rattle.nv_memory.specs.declared.region.Width.TheVariants.{One, Two, Four}

-- the n bytes from address a on
abbrev pub bytes_at : List ℕ → ℕ → ℕ → List ℕ
bytes_at bytes a zero = []
bytes_at bytes a (suc n) = slice_index bytes a ∷ bytes_at bytes (a + 1) n

-- the bytes with others written from address a on
abbrev pub put : List ℕ → ℕ → List ℕ → List ℕ
put bytes a [] = bytes
put bytes a (b ∷ bs) = put (slice_set bytes a b) (a + 1) bs

-- the number that bytes spell, the lowest byte first
abbrev pub little : List ℕ → ℕ
little [] = 0
little (b ∷ bs) = b + 256 * little bs

-- the n lowest bytes of a number
abbrev pub little_bytes : ℕ → ℕ → List ℕ
little_bytes zero v = []
little_bytes (suc n) v = v % 256 ∷ little_bytes n (v / 256)

-- how many bytes a width has
abbrev pub byte_count : Width → ℕ
byte_count One = 1
byte_count Two = 2
byte_count Four = 4
