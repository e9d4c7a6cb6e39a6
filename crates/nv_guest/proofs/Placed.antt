-- Where the regions of a loaded program lie.
use Rattle.std.proofs.Common.{◌≡◌, ℕ, ◌+◌, ◌-◌, ◌%◌, ◌≤◌, Bool, true, false, ◌&&◌, ◌==◌, nat_lt, nat_le, cond, List, [], ◌∷◌, ◌++◌, Option, Some, None, option_map, is_none, inl, inr, length, map, refl, arith, All}
use Rattle.std.specs.Prelude.{IsTrue}
use Rattle.std.specs.Option.{option_or}
use Rattle.std.specs.List.{AllByRecursion, list_any, position_from}
use Rattle.std.proofs.lemmas.Bool.{and_parts, cases_Bool, or_left, or_right, eqb-true}
use Rattle.std.proofs.lemmas.Bool.Decides.{nat_tests}
use Rattle.std.proofs.lemmas.List.Elements.{All-from_recursion}
use Rattle.nv_elf.specs.Elf.{Range, Executable, segment_range, range_extent, shares, overlap_from, can_be_entry}
use Rattle.nv_elf.specs.Written.{is_program}
use Rattle.nv_elf.specs.declared.program.Segment.{Segment}
use Rattle.nv_memory.specs.declared.region.Region.{Region}
use Rattle.nv_memory.specs.Region.{Apart, AreRegions, lies_in}
use Rattle.nv_guest.specs.Load.{first_beyond, highest, heap_start, region_of, data_region, regions_of, IsMemorySize}

-- what the loader uses of a program
pub record IsPlaced (p : Executable) : Type 0 where
  pub few : length p.ranges ≤ 16
  pub apart : overlap_from range_extent 0 p.ranges ≡ None
  pub entry : p.entry % 4 ≡ 0

none_of : {A : Type 0} (x : Option A) → is_none x ≡ true → x ≡ None
none_of None h = refl
none_of (Some x) h = cc

pub program_is_placed : (p : Executable) → IsTrue (is_program p) → IsPlaced p
unfolding is_program
program_is_placed p h =
    let one = and_parts (nat_le (length p.ranges) 16) _ h in
    let two = and_parts _ (is_none (overlap_from range_extent 0 p.ranges) && can_be_entry range_extent p.entry p.ranges) one.1 in
    let three = and_parts (is_none (overlap_from range_extent 0 p.ranges)) (can_be_entry range_extent p.entry p.ranges) two.1 in
    let four = and_parts (p.entry % 4 == 0) _ three.1 in
    record { few = grind (arith, nat_tests); apart = none_of _ three.0; entry = eqb-true _ _ four.0 }

-- each range ends at the limit or below it
abbrev pub EndBy : ℕ → List Range → Type 0
EndBy limit ranges = AllByRecursion (λ r. r.address + r.size ≤ limit) ranges

split : (limit end n : ℕ) (rest : Option ℕ) → cond (nat_lt limit end) (Some n) rest ≡ None → (end ≤ limit) × (rest ≡ None)
split limit end n rest h = (grind (arith, nat_tests), grind (arith, nat_tests))

pub end_by : (ranges : List Range) (limit n : ℕ) → first_beyond ranges limit n ≡ None → EndBy limit ranges
end_by [] limit n h = tt
end_by (r ∷ rs) limit n h =
    let parts = split limit (r.address + r.size) n (first_beyond rs limit (n + 1)) h in
    (parts.0, end_by rs limit (n + 1) parts.1)

end_later : (ranges : List Range) (a b : ℕ) → a ≤ b → EndBy a ranges → EndBy b ranges
end_later [] a b le h = tt
end_later (r ∷ rs) a b le h = (omega (arith, h.0), end_later rs a b le h.1)

end_by_highest : (ranges : List Range) → EndBy (highest ranges) ranges
end_by_highest [] = tt
end_by_highest (r ∷ rs) = (omega arith, end_later rs (highest rs) (highest (r ∷ rs)) (omega arith) (end_by_highest rs))

highest_below : (ranges : List Range) (limit : ℕ) → EndBy limit ranges → highest ranges ≤ limit
highest_below [] limit h = omega arith
highest_below (r ∷ rs) limit h = let rest : highest rs ≤ limit = highest_below rs limit h.1 in omega (arith, h.0)

none-first : {A : Type 0} (x y : Option A) → option_or x y ≡ None → (x ≡ None) × (y ≡ None)
none-first None y e = (refl, e)
none-first (Some x) y e = cc

none-mapped : {A B : Type 0} (f : A → B) (x : Option A) → option_map f x ≡ None → x ≡ None
none-mapped f None e = refl
none-mapped f (Some x) e = cc

-- two ranges that share no address lie one before the other
apart_by : (x y : Range) → shares (range_extent x) (range_extent y) ≡ false → Apart (region_of x) (region_of y)
apart_by x y h = elim (cases_Bool (nat_lt x.address (y.address + y.size))) [
  | inl before ↦ inr (inr (inl (grind (arith, nat_tests))))
  | inr after ↦ inr (inr (inr (grind (arith, nat_tests))))
]

not_first : (b : Bool) (k : ℕ) (rest : Option ℕ) → cond b (Some k) rest ≡ None → (b ≡ false) × (rest ≡ None)
not_first true k rest h = cc
not_first false k rest h = (refl, h)

-- a range that shares no address with others, and two regions after all of them
apart_from : (r : Range) (rs : List Range) (k : ℕ) (stack heap : Region) → position_from (λ y. shares (range_extent r) (range_extent y)) k rs ≡ None
    → r.address + r.size ≤ stack.start → r.address + r.size ≤ heap.start → AllByRecursion (Apart (region_of r)) (map region_of rs ++ stack ∷ heap ∷ [])
apart_from r [] k stack heap none a b = (inr (inr (inl a)), (inr (inr (inl b)), tt))
apart_from r (x ∷ xs) k stack heap none a b =
    let parts = not_first (shares (range_extent r) (range_extent x)) k (position_from (λ y. shares (range_extent r) (range_extent y)) (k + 1) xs) none in
    (apart_by r x parts.0, apart_from r xs (k + 1) stack heap parts.1 a b)

lie : (size limit heap : ℕ) (ranges : List Range) (i : ℕ) → limit ≤ size → heap ≤ limit → EndBy limit ranges → EndBy heap ranges → overlap_from range_extent i ranges ≡ None
    → AreRegions size (map region_of ranges ++ data_region limit size ∷ data_region heap heap ∷ [])
lie size limit heap [] i le below a b none =
    (omega arith, (inr (inl (omega arith)), tt), (omega arith, tt, tt))
lie size limit heap (r ∷ rs) i le below a b none =
    let parts = none-first (option_map (λ k. (i, i + 1 + k)) (position_from (λ y. shares (range_extent r) (range_extent y)) 0 rs)) (overlap_from range_extent (i + 1) rs) none in (
      omega (arith, a.0),
      apart_from r rs 0 (data_region limit size) (data_region heap heap) (none-mapped _ _ parts.0) a.0 b.0,
      lie size limit heap rs (i + 1) le below a.1 b.1 parts.1,
    )

-- the regions lie in the memory, apart from one another
pub regions_lie : (p : Executable) (size : ℕ) → IsMemorySize size → IsPlaced p → first_beyond p.ranges (size - 65536) 0 ≡ None → AreRegions size (regions_of p.ranges size)
regions_lie p size ok placed none =
    let ends : EndBy (size - 65536) p.ranges = end_by p.ranges (size - 65536) 0 none in
    let top : highest p.ranges ≤ size - 65536 = highest_below p.ranges (size - 65536) ends in
    let round : size % 4096 ≡ 0 = ok.pages in
    let least : 131072 ≤ size = ok.least in
    let below : heap_start p.ranges ≤ size - 65536 = omega arith in
    let above : highest p.ranges ≤ heap_start p.ranges = omega arith in
    lie size (size - 65536) (heap_start p.ranges) p.ranges 0 (omega arith) below ends (end_later p.ranges _ _ above (end_by_highest p.ranges)) placed.apart

-- each segment ends at the limit or below it
segments_end : (segments : List Segment) (limit : ℕ) → EndBy limit (map segment_range segments) → AllByRecursion (λ segment. segment.address + segment.size ≤ limit) segments
segments_end [] limit h = tt
segments_end (s ∷ ss) limit h = (h.0, segments_end ss limit h.1)

pub segments_end_by : (segments : List Segment) (limit : ℕ) → first_beyond (map segment_range segments) limit 0 ≡ None → All (λ segment. segment.address + segment.size ≤ limit) segments
segments_end_by segments limit none = All-from_recursion _ segments (segments_end segments limit (end_by (map segment_range segments) limit 0 none))

-- the bytes of a segment lie in one of these regions
abbrev LiesIn : List Region → Segment → Type 0
LiesIn regions s = IsTrue (list_any (lies_in s.address (length s.bytes.items)) regions)

lies_on : (r : Region) (regions : List Region) (segments : List Segment) → AllByRecursion (LiesIn regions) segments → AllByRecursion (LiesIn (r ∷ regions)) segments
lies_on r regions [] h = tt
lies_on r regions (s ∷ ss) h = (or_right _ _ h.0, lies_on r regions ss h.1)

in_own : (s : Segment) → lies_in s.address (length s.bytes.items) (region_of (segment_range s)) ≡ true
in_own s = let fits : length s.bytes.items ≤ s.size = omega (arith, s.fits) in grind (arith, nat_tests)

all_lie : (segments : List Segment) (others : List Region) → AllByRecursion (LiesIn (map region_of (map segment_range segments) ++ others)) segments
all_lie [] others = tt
all_lie (s ∷ ss) others =
    (or_left _ _ (in_own s), lies_on (region_of (segment_range s)) (map region_of (map segment_range ss) ++ others) ss (all_lie ss others))

pub segments_lie : (segments : List Segment) (size : ℕ) → All (λ s. IsTrue (list_any (lies_in s.address (length s.bytes.items)) (regions_of (map segment_range segments) size))) segments
segments_lie segments size = All-from_recursion _ segments (all_lie segments (data_region (size - 65536) size ∷ data_region (heap_start (map segment_range segments)) (heap_start (map segment_range segments)) ∷ []))

-- each range ends at the heap's start or below it
pub ends_below : (ranges : List Range) → EndBy (heap_start ranges) ranges
ends_below ranges = let above : highest ranges ≤ heap_start ranges = omega arith in end_later ranges _ _ above (end_by_highest ranges)
