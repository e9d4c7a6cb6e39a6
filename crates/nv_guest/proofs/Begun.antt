-- The heap of a guest that is made.
use Rattle.std.proofs.Common.{◌≡◌, ◌∙◌, sym, ap, subst, refl, ℕ, ◌+◌, ◌-◌, List, [], ◌∷◌, ◌++◌, inl, inr, length, map, replicate, None, arith}
use Rattle.std.proofs.lemmas.List.{length-replicate}
use Rattle.nv_elf.specs.Elf.{Range, Executable}
use Rattle.nv_memory.specs.declared.region.Region.{Region}
use Rattle.nv_memory.specs.Bytes.{put}
use Rattle.nv_memory.proofs.BytesLaws.{length_put}
use Rattle.nv_memory.specs.Region.{AreRegions}
use Rattle.nv_memory.specs.Image as memories
use Rattle.nv_guest.specs.Block.{stack_pointer, strings_start, words, stack_words, strings}
use Rattle.nv_guest.specs.Load.{IsMemorySize, first_beyond, first_bytes, with_ranges, heap_start, region_of, data_region, regions_of}
use Rattle.nv_guest.specs.Threads.{last_region}
use Rattle.nv_guest.specs.inner.Heap.{IsClear, HasHeap, first_heap}
use Rattle.nv_guest.proofs.Placed.{IsPlaced, EndBy, regions_lie, ends_below}

length_ranges : (bytes : List ℕ) (rs : List Range) → length (with_ranges bytes rs) ≡ length bytes
length_ranges bytes [] = refl
length_ranges bytes (r ∷ rs) = length_ranges (put bytes r.address r.bytes) rs ∙ length_put bytes r.address r.bytes

length_first : (p : Executable) (arguments : List (List ℕ)) (size : ℕ) → length (first_bytes p arguments size) ≡ size
unfolding first_bytes
length_first p arguments size =
    let bytes = with_ranges (replicate size 0) p.ranges in
    let pointer = stack_pointer size arguments in
    let start = strings_start size arguments in
    length_put (put bytes pointer (words (stack_words start arguments))) start (strings arguments)
    ∙ length_put bytes pointer (words (stack_words start arguments)) ∙ length_ranges (replicate size 0) p.ranges ∙ length-replicate size 0

last_is : (rs : List Range) (a b : Region) → last_region (map region_of rs ++ a ∷ b ∷ []) ≡ b
last_is [] a b = refl
last_is (r ∷ []) a b = refl
last_is (r ∷ s ∷ rs) a b = last_is (s ∷ rs) a b

count : (rs : List Range) (a b : Region) → length (map region_of rs ++ a ∷ b ∷ []) ≡ length rs + 1 + 1
count [] a b = refl
count (r ∷ rs) a b = let h = count rs a b in omega (arith, h)

clear : (rs : List Range) (start limit : ℕ) (a b : Region) → EndBy start rs → a.start ≡ limit → IsClear start limit (map region_of rs ++ a ∷ b ∷ [])
clear [] start limit a b e h = (inr (omega (arith, h)), tt)
clear (r ∷ []) start limit a b e h = (inl e.0, clear [] start limit a b e.1 h)
clear (r ∷ s ∷ rs) start limit a b e h = (inl e.0, clear (s ∷ rs) start limit a b e.1 h)

pub first_has : (p : Executable) (arguments : List (List ℕ)) (size : ℕ) (memory : memories.Image) → IsMemorySize size → IsPlaced p → first_beyond p.ranges (size - 65536) 0 ≡ None
    → memory.bytes ≡ first_bytes p arguments size → memory.regions ≡ regions_of p.ranges size → HasHeap memory (first_heap p.ranges size)
first_has p arguments size memory ok placed none bytes regions =
    let n : length memory.bytes ≡ size = ap length bytes ∙ length_first p arguments size in
    let stack = data_region (size - 65536) size in
    let heap = data_region (heap_start p.ranges) (heap_start p.ranges) in
    let last : last_region memory.regions ≡ heap = ap last_region regions ∙ last_is p.ranges stack heap in
    record {
      are = subst (λ (k : ℕ). AreRegions k memory.regions) (sym n) (subst (λ (rs : List Region). AreRegions size rs) (sym regions) (regions_lie p size ok placed none));
      place = ap length regions ∙ count p.ranges stack heap;
      start = ap (λ (r : Region). r.start) last;
      end = ap (λ (r : Region). r.end) last;
      limit = ap (λ (k : ℕ). k - 65536) n;
      clear = subst (IsClear (heap_start p.ranges) (size - 65536)) (sym regions) (clear p.ranges (heap_start p.ranges) (size - 65536) stack heap (ends_below p.ranges) refl);
    }
