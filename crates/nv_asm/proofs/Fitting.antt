-- Instructions that have a word.
use Rattle.std.proofs.Common.{◌≡◌, ℕ, ◌*◌, ◌%◌, ◌^◌, ◌<◌, true, IsTrue, refl, sym, ap, subst, ◌∙◌, arith}
use Rattle.std.specs.Prelude.{ℤ, pos, neg_ℤ, ◌≤ℤ◌}
use Rattle.std.specs.Int.{w32, cast_signed, cast_unsigned}
use Rattle.std.proofs.lemmas.Int.{ints, of_z-to_z, to_z-of_z}
use Rattle.std.specs.Int.RustNames.{FitsSigned}
use Rattle.nv_isa.specs.declared.op.Op.{Op}
use Rattle.nv_isa.specs.declared.op.Op.TheVariants as op
use Rattle.nv_isa.specs.declared.op.Form.{Form}
use Rattle.nv_isa.specs.declared.op.Form.TheVariants.{Register, Immediate, Shift, Store, Branch, Upper, Jump, Whole, Atomic, Reserve}
use Rattle.nv_isa.specs.declared.op.Insn.{Insn}
use Rattle.nv_isa.specs.Table.{encoding}
use Rattle.nv_isa.specs.Spelling.{low_bits, InBits, FitsForm, HasWord}
use Rattle.nv_asm.specs.Forms.{same_form, has_form}
use Rattle.nv_asm.specs.Statements.{insn}

same-form : (f g : Form) → same_form f g ≡ true → f ≡ g
same-form Register Register e = refl
same-form Immediate Immediate e = refl
same-form Shift Shift e = refl
same-form Store Store e = refl
same-form Branch Branch e = refl
same-form Upper Upper e = refl
same-form Jump Jump e = refl
same-form Whole Whole e = refl
same-form Atomic Atomic e = refl
same-form Reserve Reserve e = refl
same-form _ _ e = cc

fits : (f : Form) (i : Insn) → IsTrue (has_form f i.op) → FitsForm f i → HasWord i
fits f i h x = subst (λ g. FitsForm g i) (sym (same-form (encoding i.op).form f h)) x

in_12_bits : (z : ℤ) → neg_ℤ (pos 2048) ≤ℤ z → z ≤ℤ pos 2047 → InBits 12 z
in_12_bits z a b = record { least = grind (arith, ints); most = grind (arith, ints) }

pub fits-immediate : (o : Op) (d a : ℕ) (z : ℤ) → IsTrue (has_form Immediate o) → d < 32 → a < 32 → neg_ℤ (pos 2048) ≤ℤ z → z ≤ℤ pos 2047 → HasWord (insn o d a 0 z)
fits-immediate o d a z h hd ha least most = fits Immediate (insn o d a 0 z) h (record { registers = (hd, ha, refl); immediate = in_12_bits z least most })

pub fits-shift : (o : Op) (d a : ℕ) (z : ℤ) → IsTrue (has_form Shift o) → d < 32 → a < 32 → pos 0 ≤ℤ z → z ≤ℤ pos 31 → HasWord (insn o d a 0 z)
fits-shift o d a z h hd ha least most = fits Shift (insn o d a 0 z) h (record { registers = (hd, ha, refl); immediate = (least, grind (arith, ints)) })

pub fits-store : (o : Op) (a b : ℕ) (z : ℤ) → IsTrue (has_form Store o) → a < 32 → b < 32 → neg_ℤ (pos 2048) ≤ℤ z → z ≤ℤ pos 2047 → HasWord (insn o 0 a b z)
fits-store o a b z h ha hb least most = fits Store (insn o 0 a b z) h (record { registers = (refl, ha, hb); immediate = in_12_bits z least most })

pub fits-reserved : (o : Op) (d a : ℕ) (z : ℤ) → IsTrue (has_form Reserve o) → d < 32 → a < 32 → pos 0 ≤ℤ z → z ≤ℤ pos 3 → HasWord (insn o d a 0 z)
fits-reserved o d a z h hd ha least most = fits Reserve (insn o d a 0 z) h (record { registers = (hd, ha, refl); immediate = (least, grind (arith, ints)) })

pub fits-atomic : (o : Op) (d a b : ℕ) (z : ℤ) → IsTrue (has_form Atomic o) → d < 32 → a < 32 → b < 32 → pos 0 ≤ℤ z → z ≤ℤ pos 3 → HasWord (insn o d a b z)
fits-atomic o d a b z h hd ha hb least most = fits Atomic (insn o d a b z) h (record { registers = (hd, ha, hb); immediate = (least, grind (arith, ints)) })

low-12 : (n : ℕ) → n < 2 ^ 20 → low_bits 12 (cast_signed w32 (4096 * n)) ≡ 0
low-12 n h = ap (λ m. m % 2 ^ 12) (of_z-to_z w32 (4096 * n) (omega arith)) ∙ omega arith

in_32_bits : (n : ℕ) → n < 2 ^ 32 → InBits 32 (cast_signed w32 n)
in_32_bits n h = record { least = grind (arith, ints); most = grind (arith, ints) }

pub fits-upper : (o : Op) (d n : ℕ) → IsTrue (has_form Upper o) → d < 32 → n < 2 ^ 20 → HasWord (insn o d 0 0 (cast_signed w32 (4096 * n)))
fits-upper o d n h hd hn = fits Upper (insn o d 0 0 (cast_signed w32 (4096 * n))) h (record { registers = (hd, refl, refl); immediate = (in_32_bits (4096 * n) (omega arith), low-12 n hn) })

pub fits-branch : (o : Op) (a b : ℕ) (z : ℤ) → IsTrue (has_form Branch o) → a < 32 → b < 32 → neg_ℤ (pos 4096) ≤ℤ z → z ≤ℤ pos 4094 → low_bits 1 z ≡ 0 → HasWord (insn o 0 a b z)
fits-branch o a b z h ha hb least most even = fits Branch (insn o 0 a b z) h (record { registers = (refl, ha, hb); immediate = (record { least = grind (arith, ints); most = grind (arith, ints) }, even) })

pub fits-jump : (d : ℕ) (z : ℤ) → d < 32 → neg_ℤ (pos 1048576) ≤ℤ z → z ≤ℤ pos 1048574 → low_bits 1 z ≡ 0 → HasWord (insn op.Jal d 0 0 z)
unfolding encoding
fits-jump d z hd least most even = record { registers = (hd, refl, refl); immediate = (record { least = grind (arith, ints); most = grind (arith, ints) }, even) }

pub fits-lui : (d n : ℕ) → d < 32 → n < 2 ^ 20 → HasWord (insn op.Lui d 0 0 (cast_signed w32 (4096 * n)))
unfolding encoding
fits-lui d n hd hn = record { registers = (hd, refl, refl); immediate = (in_32_bits (4096 * n) (omega arith), low-12 n hn) }

pub fits-addi : (d a : ℕ) (z : ℤ) → d < 32 → a < 32 → neg_ℤ (pos 2048) ≤ℤ z → z ≤ℤ pos 2047 → HasWord (insn op.Addi d a 0 z)
unfolding encoding
fits-addi d a z hd ha least most = record { registers = (hd, ha, refl); immediate = in_12_bits z least most }

-- an immediate as a program has it
pub fits-cast : (o : Op) (d a b : ℕ) (z : ℤ) → FitsSigned w32 z → HasWord (insn o d a b z) → HasWord (insn o d a b (cast_signed w32 (cast_unsigned w32 z)))
fits-cast o d a b z f x = subst (λ y. HasWord (insn o d a b y)) (sym (to_z-of_z w32 z f)) x

pub fits-as : (o : Op) (d a b : ℕ) (y z : ℤ) → FitsSigned w32 y → y ≡ z → HasWord (insn o d a b z) → HasWord (insn o d a b (cast_signed w32 (cast_unsigned w32 y)))
fits-as o d a b y z f e x = fits-cast o d a b y f (subst (λ y. HasWord (insn o d a b y)) (sym e) x)
