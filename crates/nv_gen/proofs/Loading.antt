-- The machine that a program is loaded into does its course.
use Rattle.std.proofs.Common.{◌≡◌, ℕ, ◌+◌, ◌-◌, ◌^◌, ◌==◌, ◌<◌, ◌≤◌, Bool, true, false, cond, ◌&&◌, ◌||◌, nat_lt, nat_le, List, [], ◌∷◌, Option, Some, None, length, take, replicate, refl, ap, sym, subst, ◌∙◌, length-append, arith}
use Rattle.std.specs.Prelude.{slice_set}
use Rattle.std.proofs.lemmas.Bool.Decides.{nat_tests}
use Rattle.std.proofs.lemmas.List.{length-replicate, take-replicate, take-append-le}
use Rattle.nv_elf.specs.Elf as elf
use Rattle.nv_memory.specs.Bytes.{put, bytes_at}
use Rattle.nv_memory.specs.Image.{Image}
use Rattle.nv_machine.specs.Guest.{Machine}
use Rattle.nv_guest.specs.Block.{all_arguments, stack_pointer, strings_start, words, stack_words, strings}
use Rattle.nv_guest.specs.Load.{IsMemorySize, NoRoomForArguments, Ready, loaded, loaded_if, first_beyond, first_machine, first_bytes, regions_of}
use Rattle.nv_gen.specs.Made.{Numbers, Course, write_text}
use Rattle.nv_gen.specs.Programs.{program, segment_bytes, block, code_of, insns}
use Rattle.nv_gen.specs.Behaviour.{Does}
use Rattle.nv_gen.proofs.Calling.{AreRegisters, are-set, HoldsText}
use Rattle.nv_gen.proofs.Courses.{makes}
use Rattle.nv_gen.proofs.Carrying.{Carries, put-below, carries-put, carries-after, bytes-carried}
use Rattle.nv_gen.proofs.Standing.{IsText, stand, all-fit}
use Rattle.nv_gen.proofs.Sizes.{AreSmall, Part}

-- what a loading that succeeded tells
record IsReady (p : elf.Executable) (args : List (List ℕ)) (size : ℕ) (m : Machine) : Type 0 where
  room : first_beyond p.ranges (size - 65536) 0 ≡ None
  arguments : nat_le (size - stack_pointer size args) 65536 ≡ true
  machine : first_machine p args size ≡ m

ready-by : (p : elf.Executable) (args : List (List ℕ)) (size : ℕ) (m : Machine) (beyond : Option ℕ) (fits : Bool) → first_beyond p.ranges (size - 65536) 0 ≡ beyond
    → nat_le (size - stack_pointer size args) 65536 ≡ fits → loaded_if beyond p args size ≡ Ready m → IsReady p args size m
ready-by p args size m (Some n) fits b f e = cc
ready-by p args size m None true b f e = let h : Ready (first_machine p args size) ≡ Ready m = ap (λ x. cond x (Ready (first_machine p args size)) NoRoomForArguments) (sym f) ∙ e in record { room = b; arguments = f; machine = cc }
ready-by p args size m None false b f e = let h : NoRoomForArguments ≡ Ready m = ap (λ x. cond x (Ready (first_machine p args size)) NoRoomForArguments) (sym f) ∙ e in cc

ready-is : (p : elf.Executable) (args : List (List ℕ)) (size : ℕ) (m : Machine) → loaded p args size ≡ Ready m → IsReady p (all_arguments args) size m
unfolding loaded
ready-is p args size m e = ready-by p (all_arguments args) size m _ _ refl refl e

-- the text range lies below the stack
room-is : (k : Numbers) (c : Course) (limit : ℕ) → first_beyond (program k c).ranges limit 0 ≡ None → 65536 + length (segment_bytes k c) ≤ limit
unfolding program
room-is k c limit none = grind (arith, nat_tests)

or_true : (b : Bool) → (b || true) ≡ true
or_true true = refl
or_true false = refl

text-regions : (k : Numbers) (c : Course) (size : ℕ) (bytes : List ℕ) → 65536 + length (segment_bytes k c) < 2 ^ 32
    → IsText (record { bytes = bytes; regions = regions_of (program k c).ranges size }) (65536 + length (segment_bytes k c))
unfolding program
text-regions k c size bytes below =
    let len : ℕ = length (segment_bytes k c) in
    let covered : (a n : ℕ) → 65536 ≤ a → a + n ≤ 65536 + len → (nat_le 65536 a && (nat_le (a + n) (65536 + len) && true)) ≡ true =
    λ a n above inside. inside-both a n len above inside in
    record {
      below = below;
      read = λ a n above inside. rw (covered a n above inside) (or_true (n == 0));
      execute = λ a above inside. rw (covered a 4 above inside) refl;
    } where
      inside-both : (a n len : ℕ) → 65536 ≤ a → a + n ≤ 65536 + len → (nat_le 65536 a && (nat_le (a + n) (65536 + len) && true)) ≡ true
      inside-both a n len above inside = grind (arith, nat_tests)

-- the bytes of the text range stand in the loaded memory
first-carries : (k : Numbers) (c : Course) (args : List (List ℕ)) (size : ℕ) → IsMemorySize size → 65536 + length (segment_bytes k c) ≤ size - 65536 → nat_le (size - stack_pointer size args) 65536 ≡ true
    → Carries (first_bytes (program k c) args size) 65536 (segment_bytes k c)
unfolding first_bytes program
first-carries k c args size is room fits j small =
    let s : List ℕ = segment_bytes k c in
    let zeros : List ℕ = replicate size 0 in
    let pointer : ℕ = stack_pointer size args in
    let start : ℕ = strings_start size args in
    let long : length zeros ≡ size = length-replicate size 0 in
    let stack : size - pointer ≤ 65536 = grind (arith, nat_tests) in
    let least = is.least in
    let order : pointer ≤ start = omega arith in
    put-below (put (put zeros 65536 s) pointer (words (stack_words start args))) start (strings args) (65536 + j) (omega arith)
    ∙ put-below (put zeros 65536 s) pointer (words (stack_words start args)) (65536 + j) (omega arith)
    ∙ carries-put zeros 65536 s (omega arith) j small

registers-at : ℕ → List ℕ
registers-at pointer = slice_set (replicate 32 0) 2 pointer

registers-are : (pointer : ℕ) → AreRegisters (registers-at pointer)
unfolding registers-at
registers-are pointer = are-set (replicate 32 0) 2 pointer (omega arith) (record { count = refl; zero_first = refl })

-- the bytes of each write stand in the text range
text-held : (k : Numbers) (c : Course) (memory : Image) → AreSmall k → IsText memory (65536 + length (segment_bytes k c)) → Carries memory.bytes 65536 (segment_bytes k c) → HoldsText memory (write_text k)
unfolding block
text-held k c memory small text all =
    let size = small.size in
    let long : length (write_text k) ≡ k.size = length-replicate k.size k.byte in
    let room : length (block k.byte) ≡ 64 = refl in
    let whole = length-append (block k.byte) (code_of (insns c)) in
    let prefix : take k.size (segment_bytes k c) ≡ take k.size (block k.byte) = take-append-le k.size (block k.byte) (code_of (insns c)) (omega arith) in
    record {
      few = omega arith;
      right = text.read 65536 (length (write_text k)) (omega arith) (omega arith);
      there = ap (bytes_at memory.bytes 65536) long ∙ bytes-carried memory.bytes 65536 k.size (segment_bytes k c) (omega arith) all ∙ prefix ∙ take-replicate k.size 64 k.byte size;
    }

block-length : (byte : ℕ) → length (block byte) ≡ 64
unfolding block
block-length byte = refl

pub does-loaded : (k : Numbers) (c : Course) (args : List (List ℕ)) (size : ℕ) (m : Machine) → AreSmall k → Part k c → IsMemorySize size → loaded (program k c) args size ≡ Ready m → Does m c
unfolding program registers-at
does-loaded k c args size m small part is e =
    let ready = ready-is (program k c) args size m e in
    let all : List (List ℕ) = all_arguments args in
    let memory : Image = record { bytes = first_bytes (program k c) all size; regions = regions_of (program k c).ranges size } in
    let room : 65536 + length (segment_bytes k c) ≤ size - 65536 = room-is k c (size - 65536) ready.room in
    let most = is.most in
    let text : IsText memory (65536 + length (segment_bytes k c)) = text-regions k c size (first_bytes (program k c) all size) (omega arith) in
    let carries : Carries memory.bytes 65536 (segment_bytes k c) = first-carries k c all size is room ready.arguments in
    let block_len : length (block k.byte) ≡ 64 = block-length k.byte in
    let whole = length-append (block k.byte) (code_of (insns c)) in
    let code : Carries memory.bytes 65600 (code_of (insns c)) =
    subst (λ (n : ℕ). Carries memory.bytes (65536 + n) (code_of (insns c))) block_len (carries-after memory.bytes 65536 (block k.byte) (code_of (insns c)) carries) in
    let stands = stand memory (65536 + length (segment_bytes k c)) 65600 (insns c) text (omega arith) (omega arith) (all-fit c.calls c.ending part.short part.last) code in
    subst (λ (machine : Machine). Does machine c) ready.machine
    (makes c.calls c.ending (registers-at (stack_pointer size all)) 65600 memory (registers-are (stack_pointer size all)) (part.texts memory (text-held k c memory small text carries)) part.last stands)

-- at the default memory, with the text `guest` alone, there is room
pub ready-default : (k : Numbers) (c : Course) → length (segment_bytes k c) ≤ 300000 → loaded (program k c) [] 1048576 ≡ Ready (first_machine (program k c) (all_arguments []) 1048576)
unfolding loaded program
ready-default k c few =
    let fits : nat_lt 983040 (65536 + length (segment_bytes k c)) ≡ false = grind (arith, nat_tests) in
    rw fits refl
