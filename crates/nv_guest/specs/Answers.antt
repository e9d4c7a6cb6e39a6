-- The bytes of an answer, as they come into the guest's memory.
use Rattle.std.specs.Prelude.{ℕ, zero, suc, ◌+◌, ◌-◌, ◌^◌, List, [], ◌∷◌, Option, Some, None, if◌then◌else◌, ◌==◌, nat_lt, option_map, take, drop}
use Rattle.nv_memory.specs.Image.{Image, stored}
use Rattle.nv_guest.specs.declared.vectors.Part.{Part}
use Rattle.nv_guest.specs.Vectors.{vector_at, prefix_of}

-- a byte is stored where it may be written, and dropped elsewhere
unfoldable pub with_byte : Image → ℕ → ℕ → Image
with_byte memory at b = if nat_lt at (2 ^ 32) then stored memory at (b ∷ []) else memory

-- bytes from an address on, each by itself
unfoldable pub with_each_byte : Image → ℕ → List ℕ → Image
with_each_byte memory at [] = memory
with_each_byte memory at (b ∷ bs) = with_each_byte (with_byte memory at b) (at + 1) bs

abbrev pub targets_with : Option Part → (ℕ → List Part) → List Part
targets_with None later = []
targets_with (Some part) later = part ∷ later part.size

-- the parts that so many bytes go to by this many vectors from an address on: those before the first vector that may not be read
unfoldable pub targets_at : Image → ℕ → ℕ → ℕ → List Part
targets_at memory zero most at = []
targets_at memory (suc count) most at = if most == 0 then []
    else targets_with (option_map (prefix_of most) (vector_at memory at)) (λ size. targets_at memory count (most - size) (at + 8))

-- bytes over parts, in order
unfoldable pub scattered : Image → List Part → List ℕ → Image
scattered memory [] bytes = memory
scattered memory (part ∷ parts) bytes = scattered (with_each_byte memory part.address (take part.size bytes)) parts (drop part.size bytes)

-- What is left of sets (select(2)), so many bytes each and one after another, over the places of those that are given. A place of 0 has no set.
abbrev pub with_sets : Image → ℕ → List ℕ → List ℕ → Image
with_sets memory n [] bytes = memory
with_sets memory n (place ∷ places) bytes = with_sets (if place == 0 then memory else with_each_byte memory place (take n bytes)) n places (drop n bytes)

-- What is told of so many descriptors (poll(2), revents), 2 bytes each: they go into the last 2 of the 8 that each has in the list from an address on.
abbrev pub with_events : Image → ℕ → ℕ → List ℕ → Image
with_events memory list zero bytes = memory
with_events memory list (suc count) bytes = with_events (with_each_byte memory (list + 6) (take 2 bytes)) (list + 8) count (drop 2 bytes)
