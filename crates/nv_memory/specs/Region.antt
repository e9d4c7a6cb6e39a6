-- Where a range lies, and how regions lie in a memory.
use Rattle.std.specs.Prelude.{Bool, ℕ, zero, suc, ◌+◌, ◌≤◌, List, [], ◌∷◌, nat_le, ◌==◌, ◌&&◌, ◌||◌, ◌⊎◌}
use Rattle.std.specs.List.{list_any, AllByRecursion}
use Rattle.nv_memory.specs.declared.region.Region.{Region}
use Rattle.nv_memory.specs.declared.region.Right.{Right}
use Rattle.nv_memory.specs.declared.region.Right.TheVariants.{Read, Write, Execute}

-- the region has the right
abbrev pub allows : Right → Region → Bool
allows Read r = r.read
allows Write r = r.write
allows Execute r = r.execute

-- the range of n bytes from a on lies in the region, which has the right
abbrev pub covers : ℕ → ℕ → Right → Region → Bool
covers a n right r = nat_le r.start a && (nat_le (a + n) r.end && allows right r)

-- the range is empty, or lies in one region with the right
abbrev pub holds : List Region → ℕ → ℕ → Right → Bool
holds regions a n right = (n == 0) || list_any (covers a n right) regions

-- it covers no address
abbrev pub IsEmpty : Region → Type 0
IsEmpty r = r.end ≤ r.start

-- no address lies in both: one covers none, or one ends before the other begins
abbrev pub Apart : Region → Region → Type 0
Apart a b = IsEmpty a ⊎ IsEmpty b ⊎ (a.end ≤ b.start) ⊎ (b.end ≤ a.start)

-- each region ends in a memory of this size, and no two overlap
abbrev pub AreRegions : ℕ → List Region → Type 0
AreRegions size [] = Unit {0}
AreRegions size (r ∷ rs) = (r.end ≤ size) × AllByRecursion (Apart r) rs × AreRegions size rs

-- the range lies in the region
abbrev pub lies_in : ℕ → ℕ → Region → Bool
lies_in a n r = nat_le r.start a && nat_le (a + n) r.end

-- where the region at a place begins
abbrev pub region_start : List Region → ℕ → ℕ
region_start [] i = 0
region_start (r ∷ rs) zero = r.start
region_start (r ∷ rs) (suc i) = region_start rs i

-- where the region at a place ends
abbrev pub end_of : List Region → ℕ → ℕ
end_of [] i = 0
end_of (r ∷ rs) zero = r.end
end_of (r ∷ rs) (suc i) = end_of rs i

-- the regions with another end for the one at a place
abbrev pub set_end : List Region → ℕ → ℕ → List Region
set_end [] i end = []
set_end (r ∷ rs) zero end = record r { end = end } ∷ rs
set_end (r ∷ rs) (suc i) end = r ∷ set_end rs i end
