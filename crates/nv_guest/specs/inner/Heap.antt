-- Where the heap stands in a guest's memory, and how it moves (brk(2)).
use Rattle.std.specs.Prelude.{◌≡◌, ◌≤◌, ◌⊎◌, ℕ, ◌+◌, ◌-◌, List, [], ◌∷◌, length}
use Rattle.nv_elf.specs.Elf.{Range}
use Rattle.nv_memory.specs.declared.region.Region.{Region}
use Rattle.nv_memory.specs.Region.{AreRegions}
use Rattle.nv_memory.specs.Image.{Image}
use Rattle.nv_guest.specs.declared.heap.Heap.{Heap}
use Rattle.nv_guest.specs.Load.{heap_start}
use Rattle.nv_guest.specs.Threads.{last_region}

-- each region but the last ends at the heap's start or before it, or begins at the stack's start or after it
abbrev pub IsClear : ℕ → ℕ → List Region → Type 0
IsClear start limit [] = Unit {0}
IsClear start limit (r ∷ []) = Unit {0}
IsClear start limit (r ∷ s ∷ rs) = ((r.end ≤ start) ⊎ (limit ≤ r.start)) × IsClear start limit (s ∷ rs)

-- the heap is the last region of the memory, and may end anywhere from its start to the stack's
pub record HasHeap (memory : Image) (heap : Heap) : Type 0 where
  pub are : AreRegions (length memory.bytes) memory.regions
  pub place : length memory.regions ≡ heap.place + 1
  pub start : (last_region memory.regions).start ≡ heap.start
  pub end : (last_region memory.regions).end ≡ heap.end
  pub limit : length memory.bytes - 65536 ≡ heap.limit
  pub clear : IsClear heap.start heap.limit memory.regions

-- the empty heap of a program with so many ranges
abbrev pub first_heap : List Range → ℕ → Heap
first_heap ranges size = record { place = length ranges + 1; start = heap_start ranges; end = heap_start ranges; limit = size - 65536 }
