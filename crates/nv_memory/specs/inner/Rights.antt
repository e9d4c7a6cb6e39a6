-- Parts of 256 bytes that may be read or written as a whole.
use Rattle.std.specs.Prelude.{◌≡◌, Bool, true, false, ℕ, ◌+◌, ◌-◌, ◌*◌, ◌/◌, ◌%◌, ◌^◌, ◌≤◌, ◌<◌, ◌⊎◌, List, length, nat_le, ◌&&◌, slice_index_or}
use Rattle.std.specs.List.{list_any}
use Rattle.nv_memory.specs.declared.region.Region.{Region}
use Rattle.nv_memory.specs.declared.region.Right.{Right}
use Rattle.nv_memory.specs.declared.region.Right.TheVariants.{Read, Write}
use Rattle.nv_memory.specs.declared.rights.Part.{Part}
use Rattle.nv_memory.specs.Region.{covers}

-- what stands past the last part
abbrev pub no_part : Part
no_part = record { read = false; write = false }

abbrev pub part_at : List Part → ℕ → Part
part_at parts k = slice_index_or parts k no_part

-- the range lies in one part
abbrev pub in_a_part : ℕ → ℕ → Bool
in_a_part a n = nat_le n 256 && nat_le (a % 256) (256 - n)

abbrev pub may_read : List Part → ℕ → ℕ → Bool
may_read parts a n = in_a_part a n && (part_at parts (a / 256)).read

abbrev pub may_write : List Part → ℕ → ℕ → Bool
may_write parts a n = in_a_part a n && (part_at parts (a / 256)).write

-- what the region covers one of the regions covers
pub record IsOneOf (regions : List Region) (r : Region) : Type 0 where
  pub covered : (a n : ℕ) (right : Right) → covers a n right r ≡ true → list_any (covers a n right) regions ≡ true

-- what is said of a part holds of it, where the code lies from one address to below another
pub record IsPart (regions : List Region) (start : ℕ) (stop : ℕ) (k : ℕ) (p : Part) : Type 0 where
  pub read : p.read ≡ true → list_any (covers (k * 256) 256 Read) regions ≡ true
  pub write : p.write ≡ true → list_any (covers (k * 256) 256 Write) regions ≡ true
  pub apart : p.write ≡ true → (k * 256 + 256 ≤ start) ⊎ (stop ≤ k * 256)

pub record AreParts (regions : List Region) (start : ℕ) (stop : ℕ) (parts : List Part) : Type 0 where
  pub few : length parts ≤ 2 ^ 24
  pub are : (k : ℕ) → IsPart regions start stop k (part_at parts k)

-- each part is as it is, or not among those from the first to below the last and as it was
abbrev pub Looked : List Region → ℕ → ℕ → ℕ → ℕ → List Part → List Part → Type 0
Looked regions start stop first last before after = (k : ℕ) → IsPart regions start stop k (part_at after k) ⊎ (((k < first) ⊎ (last ≤ k)) × (part_at after k ≡ part_at before k))
