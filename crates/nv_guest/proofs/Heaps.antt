-- The heap moves, and all else of the memory stays.
use Rattle.std.proofs.Common.{◌≡◌, ◌∙◌, sym, ap, subst, refl, ℕ, zero, suc, ◌+◌, ◌-◌, ◌≤◌, Bool, true, false, cond, nat_lt, nat_le, ◌&&◌, List, [], ◌∷◌, ◌⊎◌, inl, inr, ⊎_elim, length, arith}
use Rattle.std.specs.List.{AllByRecursion}
use Rattle.std.specs.Prelude.{replicate}
use Rattle.std.proofs.lemmas.Bool.Decides.{nat_tests}
use Rattle.nv_memory.specs.declared.region.Region.{Region}
use Rattle.nv_memory.specs.Bytes.{put}
use Rattle.nv_memory.proofs.BytesLaws.{length_put}
use Rattle.nv_memory.specs.Region.{AreRegions, Apart, set_end, region_start, end_of}
use Rattle.nv_memory.specs.Image.{Image, cut}
use Rattle.nv_guest.specs.declared.heap.Heap.{Heap}
use Rattle.nv_guest.specs.Threads.{last_region, is_break, with_break}
use Rattle.nv_guest.specs.Heap.{moved}
use Rattle.nv_guest.specs.inner.Heap.{IsClear, HasHeap}

apart_from : (r : Region) (rs : List Region) (n end start limit : ℕ) → length rs ≡ n + 1 → AllByRecursion (Apart r) rs → (r.end ≤ start) ⊎ (limit ≤ r.start) → (last_region rs).start ≡ start → end ≤ limit
    → AllByRecursion (Apart r) (set_end rs n end)
apart_from r [] n end start limit l h c s e = absurd (omega (arith, l))
apart_from r (s ∷ []) zero end start limit l h c k e = (⊎_elim (λ (q : r.end ≤ start). inr (inr (inl (omega (arith, k))))) (λ (q : limit ≤ r.start). inr (inr (inr (omega arith)))) c, tt)
apart_from r (s ∷ []) (suc n) end start limit l h c k e = absurd (omega (arith, l))
apart_from r (s ∷ t ∷ rs) zero end start limit l h c k e = absurd (omega (arith, l))
apart_from r (s ∷ t ∷ rs) (suc n) end start limit l h c k e = (h.0, apart_from r (t ∷ rs) n end start limit (omega (arith, l)) h.1 c k e)

pub are_moved : (size : ℕ) (rs : List Region) (n end start limit : ℕ) → length rs ≡ n + 1 → AreRegions size rs → IsClear start limit rs → (last_region rs).start ≡ start → end ≤ limit → limit ≤ size
    → AreRegions size (set_end rs n end)
are_moved size [] n end start limit l a c k e z = absurd (omega (arith, l))
are_moved size (r ∷ []) zero end start limit l a c k e z = (omega arith, tt, tt)
are_moved size (r ∷ []) (suc n) end start limit l a c k e z = absurd (omega (arith, l))
are_moved size (r ∷ s ∷ rs) zero end start limit l a c k e z = absurd (omega (arith, l))
are_moved size (r ∷ s ∷ rs) (suc n) end start limit l a c k e z =
    (a.0, apart_from r (s ∷ rs) n end start limit (omega (arith, l)) a.1 c.0 k e, are_moved size (s ∷ rs) n end start limit (omega (arith, l)) a.2 c.1 k e z)

last_moved : (rs : List Region) (n end : ℕ) → length rs ≡ n + 1 → last_region (set_end rs n end) ≡ record (last_region rs) { end = end }
last_moved [] n end l = absurd (omega (arith, l))
last_moved (r ∷ []) zero end l = refl
last_moved (r ∷ []) (suc n) end l = absurd (omega (arith, l))
last_moved (r ∷ s ∷ rs) zero end l = absurd (omega (arith, l))
last_moved (r ∷ s ∷ []) (suc zero) end l = refl
last_moved (r ∷ s ∷ []) (suc (suc n)) end l = absurd (omega (arith, l))
last_moved (r ∷ s ∷ t ∷ rs) (suc zero) end l = absurd (omega (arith, l))
last_moved (r ∷ s ∷ t ∷ rs) (suc (suc n)) end l = last_moved (s ∷ t ∷ rs) (suc n) end (omega (arith, l))

clear_moved : (rs : List Region) (n end start limit : ℕ) → length rs ≡ n + 1 → IsClear start limit rs → IsClear start limit (set_end rs n end)
clear_moved [] n end start limit l c = tt
clear_moved (r ∷ []) zero end start limit l c = tt
clear_moved (r ∷ []) (suc n) end start limit l c = tt
clear_moved (r ∷ s ∷ rs) zero end start limit l c = absurd (omega (arith, l))
clear_moved (r ∷ s ∷ []) (suc zero) end start limit l c = (c.0, tt)
clear_moved (r ∷ s ∷ []) (suc (suc n)) end start limit l c = absurd (omega (arith, l))
clear_moved (r ∷ s ∷ t ∷ rs) (suc zero) end start limit l c = absurd (omega (arith, l))
clear_moved (r ∷ s ∷ t ∷ rs) (suc (suc n)) end start limit l c = (c.0, clear_moved (s ∷ t ∷ rs) (suc n) end start limit (omega (arith, l)) c.1)

length_moved : (rs : List Region) (n end : ℕ) → length (set_end rs n end) ≡ length rs
length_moved [] n end = refl
length_moved (r ∷ rs) zero end = refl
length_moved (r ∷ rs) (suc n) end = ap suc (length_moved rs n end)

pub end_is_last : (rs : List Region) (n : ℕ) → length rs ≡ n + 1 → end_of rs n ≡ (last_region rs).end
end_is_last [] n l = absurd (omega (arith, l))
end_is_last (r ∷ []) zero l = refl
end_is_last (r ∷ []) (suc n) l = absurd (omega (arith, l))
end_is_last (r ∷ s ∷ rs) zero l = absurd (omega (arith, l))
end_is_last (r ∷ s ∷ rs) (suc n) l = end_is_last (s ∷ rs) n (omega (arith, l))

pub start_is_last : (rs : List Region) (n : ℕ) → length rs ≡ n + 1 → region_start rs n ≡ (last_region rs).start
start_is_last [] n l = absurd (omega (arith, l))
start_is_last (r ∷ []) zero l = refl
start_is_last (r ∷ []) (suc n) l = absurd (omega (arith, l))
start_is_last (r ∷ s ∷ rs) zero l = absurd (omega (arith, l))
start_is_last (r ∷ s ∷ rs) (suc n) l = start_is_last (s ∷ rs) n (omega (arith, l))

length_cut : (bytes : List ℕ) (before end : ℕ) → length (cut bytes before end) ≡ length bytes
length_cut bytes before end = by (nat_lt end before)
  where
    by : (b : Bool) → length (cond b (put bytes end (replicate (before - end) 0)) bytes) ≡ length bytes
    by true = length_put bytes end (replicate (before - end) 0)
    by false = refl

pub heap_moved : (memory : Image) (heap : Heap) (end : ℕ) → HasHeap memory heap → end ≤ heap.limit
    → HasHeap (record { bytes = cut memory.bytes (end_of memory.regions heap.place) end; regions = set_end memory.regions heap.place end }) (record heap { end = end })
heap_moved memory heap end h high =
    let rs = memory.regions in
    let l = h.place in
    let size = length_cut memory.bytes (end_of rs heap.place) end in
    let last = last_moved rs heap.place end l in
    record {
      are = subst (λ (n : ℕ). AreRegions n (set_end rs heap.place end)) (sym size) (are_moved (length memory.bytes) rs heap.place end heap.start heap.limit l h.are h.clear h.start high (let z = h.limit in omega arith));
      place = length_moved rs heap.place end ∙ l;
      start = ap (λ (r : Region). r.start) last ∙ h.start;
      end = ap (λ (r : Region). r.end) last;
      limit = ap (λ (n : ℕ). n - 65536) size ∙ h.limit;
      clear = clear_moved rs heap.place end heap.start heap.limit l h.clear;
    }

broken_is : (memory : Image) (heap : Heap) (end : ℕ) → HasHeap memory heap
    → record { bytes = cut memory.bytes (end_of memory.regions heap.place) end; regions = set_end memory.regions heap.place end } ≡ with_break memory end
unfolding with_break
broken_is memory heap end h =
    let e = end_is_last memory.regions heap.place h.place in
    let n : heap.place ≡ length memory.regions - 1 = (let z = h.place in omega (arith, z)) in
    λ i. record { bytes = cut memory.bytes (e i) end; regions = set_end memory.regions (n i) end }

both : (a b : Bool) → a ≡ true → b ≡ true → (a && b) ≡ true
both true true p q = refl
both true false p q = cc
both false b p q = cc

is_le : (m n : ℕ) → m ≤ n → nat_le m n ≡ true
is_le m n h = grind (arith, nat_tests)

pub moved_is : (memory : Image) (heap : Heap) (end : ℕ) → HasHeap memory heap → heap.start ≤ end → end ≤ heap.limit
    → record { bytes = cut memory.bytes (end_of memory.regions heap.place) end; regions = set_end memory.regions heap.place end } ≡ moved memory end
moved_is memory heap end h low high =
    let may : is_break memory end ≡ true = both _ _ (is_le (last_region memory.regions).start end (let z = h.start in omega (arith, z))) (is_le end (length memory.bytes - 65536) (let z = h.limit in omega (arith, z))) in
    broken_is memory heap end h ∙ sym (ap (λ b. cond b (with_break memory end) memory) may)
