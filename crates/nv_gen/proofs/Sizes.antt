-- How long the code of a course is, and which bytes it writes.
use Rattle.std.proofs.Common.{◌≡◌, ℕ, zero, suc, ◌+◌, ◌*◌, ◌/◌, ◌==◌, ◌<◌, ◌≤◌, Bool, true, false, cond, List, [], ◌∷◌, ◌++◌, length, refl, ap, ◌∙◌, length-append, arith}
use Rattle.std.specs.List.{flat_map}
use Rattle.std.proofs.lemmas.List.{length-replicate}
use Rattle.std.proofs.lemmas.Grind.{flat_map-append}
use Rattle.std.proofs.Math.Nat.{mul-le-mul_left, div-le_of_le-mul}
use Rattle.nv_isa.specs.declared.op.Insn.{Insn}
use Rattle.nv_memory.specs.Image.{Image}
use Rattle.nv_gen.specs.Made.{Numbers, numbers_of, Call, Write, Getuid, Ending, Breaks, Exits, Course, write_text, calls_getuid, calls_at, calls_to, course}
use Rattle.nv_gen.specs.Programs.{insns_of, last_insns, insn_bytes, code_of, block, segment_bytes}
use Rattle.nv_gen.proofs.Calling.{HoldsText}
use Rattle.nv_gen.proofs.Courses.{HoldsTexts, IsShort}
use Rattle.nv_gen.proofs.Standing.{AreShort}

-- ---- what holds of the text to write holds of each write

-- the numbers of a run are small
pub record AreSmall (k : Numbers) : Type 0 where
  pub size : k.size ≤ 64
  pub writes : k.writes < 10000

pub numbers-small : (n : ℕ) → AreSmall (numbers_of n)
unfolding numbers_of
numbers-small n = record { size = omega arith; writes = omega arith }

short-append : (xs ys : List Call) → AreShort xs → AreShort ys → AreShort (xs ++ ys)
short-append [] ys short more = more
short-append (Write bytes ∷ xs) ys short more = (short.0, short-append xs ys short.1 more)
short-append (Getuid ∷ xs) ys short more = short-append xs ys short more

short-at : (k : Numbers) (b : Bool) → AreSmall k → AreShort (cond b (Getuid ∷ Write (write_text k) ∷ []) (Write (write_text k) ∷ []))
short-at k true small = let h = length-replicate k.size k.byte in let s = small.size in (omega arith, tt)
short-at k false small = let h = length-replicate k.size k.byte in let s = small.size in (omega arith, tt)

short-to : (k : Numbers) (i writes : ℕ) → AreSmall k → AreShort (calls_to k i writes)
unfolding calls_to
short-to k i zero small = tt
short-to k i (suc writes) small = short-append (calls_to k i writes) (calls_at k i (writes + 1)) (short-to k i writes small) (short-at k (calls_getuid i (writes + 1)) small)

texts-append : (memory : Image) (xs ys : List Call) → HoldsTexts memory xs → HoldsTexts memory ys → HoldsTexts memory (xs ++ ys)
texts-append memory [] ys texts more = more
texts-append memory (Write bytes ∷ xs) ys texts more = (texts.0, texts-append memory xs ys texts.1 more)
texts-append memory (Getuid ∷ xs) ys texts more = texts-append memory xs ys texts more

texts-at : (memory : Image) (k : Numbers) (b : Bool) → HoldsText memory (write_text k) → HoldsTexts memory (cond b (Getuid ∷ Write (write_text k) ∷ []) (Write (write_text k) ∷ []))
texts-at memory k true text = (text, tt)
texts-at memory k false text = (text, tt)

texts-to : (memory : Image) (k : Numbers) (i writes : ℕ) → HoldsText memory (write_text k) → HoldsTexts memory (calls_to k i writes)
unfolding calls_to
texts-to memory k i zero text = tt
texts-to memory k i (suc writes) text = texts-append memory (calls_to k i writes) (calls_at k i (writes + 1)) (texts-to memory k i writes text) (texts-at memory k (calls_getuid i (writes + 1)) text)

-- ---- lengths

length-code : (is : List Insn) → length (code_of is) ≡ 4 * length is
unfolding insn_bytes
length-code [] = refl
length-code (i ∷ is) = let h = length-code is in omega (arith, length-append (insn_bytes i) (code_of is))

insns-at : (k : Numbers) (b : Bool) → length (flat_map insns_of (cond b (Getuid ∷ Write (write_text k) ∷ []) (Write (write_text k) ∷ []))) ≤ 7
insns-at k true = omega arith
insns-at k false = omega arith

insns-to : (k : Numbers) (i writes : ℕ) → length (flat_map insns_of (calls_to k i writes)) ≤ 7 * writes
unfolding calls_to
insns-to k i zero = omega arith
insns-to k i (suc writes) =
    let before = insns-to k i writes in
    let here = insns-at k (calls_getuid i (writes + 1)) in
    let parts : length (flat_map insns_of (calls_to k i writes ++ calls_at k i (writes + 1)))
    ≡ length (flat_map insns_of (calls_to k i writes)) + length (flat_map insns_of (calls_at k i (writes + 1))) =
    ap length (flat_map-append insns_of (calls_to k i writes) (calls_at k i (writes + 1)))
    ∙ length-append (flat_map insns_of (calls_to k i writes)) (flat_map insns_of (calls_at k i (writes + 1))) in
    omega arith

insns-last : (ending : Ending) → length (last_insns ending) ≤ 3
insns-last Breaks = omega arith
insns-last (Exits status) = omega arith

length-segment : (k : Numbers) (i writes : ℕ) (ending : Ending) → writes < 10000 → length (block k.byte ++ code_of (flat_map insns_of (calls_to k i writes) ++ last_insns ending)) ≤ 300000
unfolding block
length-segment k i writes ending few =
    let calls : List Insn = flat_map insns_of (calls_to k i writes) in
    let a = insns-to k i writes in
    let b = insns-last ending in
    let c = length-append calls (last_insns ending) in
    let d = length-code (calls ++ last_insns ending) in
    let e = length-append (block k.byte) (code_of (calls ++ last_insns ending)) in
    let f : length (block k.byte) ≡ 64 = refl in
    omega arith

-- what the run of a course rests on
pub record Part (k : Numbers) (c : Course) : Type 0 where
  pub short : AreShort c.calls
  pub last : IsShort c.ending
  pub texts : (memory : Image) → HoldsText memory (write_text k) → HoldsTexts memory c.calls
  pub few : length (segment_bytes k c) ≤ 300000

part-few : (w i v : ℕ) → w < 10000 → i < v → w * (i + 1) / v < 10000
part-few w i v few inside =
    let more : w * (i + 1) ≤ v * w = grind (arith, mul-le-mul_left w inside) in
    let h = div-le_of_le-mul v more in
    omega arith

part-at : (k : Numbers) (i writes : ℕ) (ending : Ending) → AreSmall k → IsShort ending → writes < 10000 → Part k (record { calls = calls_to k i writes; ending = ending })
part-at k i writes ending small last few = record {
  short = short-to k i writes small;
  last = last;
  texts = λ memory text. texts-to memory k i writes text;
  few = length-segment k i writes ending few;
}

pub part : (k : Numbers) (i : ℕ) → AreSmall k → i < k.versions → Part k (course k i)
unfolding course
part k i small inside = by (i + 1 == k.versions) where
  by : (last : Bool) → Part k (cond last (record { calls = calls_to k i k.writes; ending = Exits 0 }) (record { calls = calls_to k i (k.writes * (i + 1) / k.versions); ending = Breaks }))
  by true = part-at k i k.writes (Exits 0) small (omega arith) small.writes
  by false = part-at k i (k.writes * (i + 1) / k.versions) Breaks small tt (part-few k.writes i k.versions small.writes inside)
