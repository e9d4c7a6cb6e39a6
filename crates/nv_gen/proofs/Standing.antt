-- The instructions of a loaded program stand in its memory.
use Rattle.std.proofs.Common.{◌≡◌, ℕ, ◌+◌, ◌^◌, ◌<◌, ◌≤◌, true, List, [], ◌∷◌, ◌++◌, Ok, length, refl, ap, subst, length-append, arith}
use Rattle.std.specs.List.{flat_map}
use Rattle.nv_isa.specs.declared.op.Insn.{Insn}
use Rattle.nv_isa.specs.Spelling.{HasWord, encoded}
use Rattle.nv_isa.proofs.Inverse.{encoded-lt}
use Rattle.nv_memory.specs.declared.region.Right.TheVariants.{Read, Execute}
use Rattle.nv_memory.specs.Region.{holds}
use Rattle.nv_memory.specs.Image.{Image}
use Rattle.nv_gen.specs.Made.{Call, Write, Getuid, Ending, Breaks, Exits}
use Rattle.nv_gen.specs.Programs.{insns_of, last_insns, insn_bytes, code_of}
use Rattle.nv_gen.proofs.Fitting.{fits-sets, fits-points, fits-ecall, fits-ebreak}
use Rattle.nv_gen.proofs.Courses.{Stand, IsShort}
use Rattle.nv_gen.proofs.Carrying.{Carries, carries-after, word-carried}

-- a memory whose range from 0x10000 to an end may be read and executed
pub record IsText (memory : Image) (end : ℕ) : Type 0 where
  pub below : end < 2 ^ 32
  pub read : (a n : ℕ) → 65536 ≤ a → a + n ≤ end → holds memory.regions a n Read ≡ true
  pub execute : (a : ℕ) → 65536 ≤ a → a + 4 ≤ end → holds memory.regions a 4 Execute ≡ true

abbrev pub AllFit : List Insn → Type 0
AllFit [] = Unit {0}
AllFit (i ∷ is) = HasWord i × AllFit is

word-small : (i : Insn) → HasWord i → encoded i < 2 ^ 32
unfolding encoded
word-small i fits = encoded-lt i fits

length-word : (i : Insn) → length (insn_bytes i) ≡ 4
unfolding insn_bytes
length-word i = refl

pub stand : (memory : Image) (end pc : ℕ) (is : List Insn) → IsText memory end → 65536 ≤ pc → pc + length (code_of is) ≤ end → AllFit is → Carries memory.bytes pc (code_of is) → Stand memory pc is
stand memory end pc [] text above inside fit all = tt
stand memory end pc (i ∷ is) text above inside fit all =
    let four = length-word i in
    let long = length-append (insn_bytes i) (code_of is) in
    let below = text.below in
    let next : Carries memory.bytes (pc + 4) (code_of is) = subst (λ (n : ℕ). Carries memory.bytes (pc + n) (code_of is)) four (carries-after memory.bytes pc (insn_bytes i) (code_of is) all) in (
      record { word = rw (text.execute pc above (omega arith)) (ap (λ w. Ok w) (word-carried memory.bytes pc i (code_of is) (word-small i fit.0) all)); below = omega arith },
      stand memory end (pc + 4) is text (omega arith) (omega arith) fit.1 next,
    )

-- each write is short enough for its instruction
abbrev pub AreShort : List Call → Type 0
AreShort [] = Unit {0}
AreShort (Write bytes ∷ calls) = (length bytes < 2048) × AreShort calls
AreShort (Getuid ∷ calls) = AreShort calls

pub all-fit : (calls : List Call) (ending : Ending) → AreShort calls → IsShort ending → AllFit (flat_map insns_of calls ++ last_insns ending)
all-fit [] Breaks short last = (fits-ebreak, tt)
all-fit [] (Exits status) short last = (fits-sets 10 status (omega arith) last, (fits-sets 17 94 (omega arith) (omega arith), (fits-ecall, tt)))
all-fit (Write bytes ∷ calls) ending short last = (
  fits-sets 10 1 (omega arith) (omega arith),
  (fits-points 11 (omega arith), (fits-sets 12 (length bytes) (omega arith) short.0, (fits-sets 17 64 (omega arith) (omega arith), (fits-ecall, all-fit calls ending short.1 last)))),
)
all-fit (Getuid ∷ calls) ending short last = (fits-sets 17 174 (omega arith) (omega arith), (fits-ecall, all-fit calls ending short last))
