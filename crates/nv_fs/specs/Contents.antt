-- What a file's blocks hold: byte p of a file is byte p % 4096 of its block p / 4096.
use Rattle.std.specs.Prelude.{◌≡◌, ℕ, ◌+◌, ◌-◌, ◌/◌, ◌%◌, ◌≤◌, ◌<◌, Bool, true, false, ◌&&◌, nat_le, nat_lt, List, ◌++◌, length, take, drop, replicate, Option, Some, None, is_some, map, slice_index, slice_index_or, if◌then◌else◌}
use Rattle.std.specs.List.{range_with_len}

-- a file's bytes, and which of its blocks take memory
pub record Content : Type 0 where
  pub bytes : List ℕ
  pub held : List Bool

-- a byte of a block; an absent block reads as zeros
abbrev pub byte_in : Option (List ℕ) → ℕ → ℕ
byte_in None j = 0
byte_in (Some bytes) j = slice_index bytes j

abbrev pub block_at : List (Option (List ℕ)) → ℕ → Option (List ℕ)
block_at blocks k = slice_index_or blocks k None

-- byte p of a file
abbrev pub content_byte : List (Option (List ℕ)) → ℕ → ℕ
content_byte blocks p = byte_in (block_at blocks (p / 4096)) (p % 4096)

-- what stands at p after a write of these bytes at a place, where a byte stood before
abbrev pub overwritten : ℕ → List ℕ → ℕ → ℕ → ℕ
overwritten place bytes before p = if nat_le place p && nat_lt p (place + length bytes) then slice_index bytes (p - place) else before

-- the blocks, of which a file has so many bytes
abbrev pub content_of_blocks : List (Option (List ℕ)) → ℕ → Content
content_of_blocks blocks len = record { bytes = map (content_byte blocks) (range_with_len 0 len); held = map is_some blocks }

-- the block of each byte of a range takes memory
abbrev pub HoldsRange : List Bool → ℕ → ℕ → Type 0
HoldsRange held place count = (p : ℕ) → place ≤ p → p < place + count → slice_index_or held (p / 4096) false ≡ true

-- bytes with others from a place on: a gap before the place becomes 0 (lseek(2))
abbrev pub with_bytes : List ℕ → ℕ → List ℕ → List ℕ
with_bytes old place bytes = take place old ++ replicate (place - length old) 0 ++ bytes ++ drop (place + length bytes) old

-- the bytes that a read of at most so many from a place on gives
abbrev pub part_of : List ℕ → ℕ → ℕ → List ℕ
part_of bytes from most = take most (drop from bytes)
