-- An instruction that a word is read as fits: it has a word.
use Rattle.std.proofs.Common.{◌≡◌, true, ℕ, ◌+◌, ◌*◌, ◌/◌, ◌%◌, ◌^◌, ◌<◌, Option, Some, None, refl, ap, subst, sym, ◌∙◌, arith, bit_and}
use Rattle.std.specs.Prelude.{pos, ◌≤ℤ◌, ◌<ℤ◌}
use Rattle.std.specs.Option.{option_map}
use Rattle.std.specs.Int.Bits.{and_mask}
use Rattle.std.proofs.lemmas.Int.{ints}
use Rattle.std.proofs.lemmas.Bool.Decides.{nat_tests}
use Rattle.nv_isa.specs.declared.op.Op.{Op}
use Rattle.nv_isa.specs.declared.op.Form.{Form}
use Rattle.nv_isa.specs.declared.op.Form.TheVariants.{Register, Immediate, Shift, Store, Branch, Upper, Jump, Whole, Atomic, Reserve}
use Rattle.nv_isa.specs.declared.op.Insn.{Insn}
use Rattle.nv_isa.specs.Table.{Encoding, encoding, encodings, row_of, belongs, signed_value, insn_of, decoded}
use Rattle.nv_isa.specs.Spelling.{low_bits, InBits, FitsForm, HasWord}
use Rattle.nv_isa.proofs.Signs.{low-signed_13, low-signed_21, low-signed_32}
use Rattle.nv_isa.specs.inner.Fields.{encoding_named, key_of}
use Rattle.nv_isa.proofs.Masks.{row_of-named}
use Rattle.nv_isa.proofs.Inverse.{found, all_own}

in_bits_12 : (n : ℕ) → n < 2 ^ 12 → InBits 12 (signed_value 12 n)
in_bits_12 n h = record { least = grind (arith, ints, nat_tests); most = grind (arith, ints, nat_tests) }

in_bits_13 : (n : ℕ) → n < 2 ^ 13 → InBits 13 (signed_value 13 n)
in_bits_13 n h = record { least = grind (arith, ints, nat_tests); most = grind (arith, ints, nat_tests) }

in_bits_21 : (n : ℕ) → n < 2 ^ 21 → InBits 21 (signed_value 21 n)
in_bits_21 n h = record { least = grind (arith, ints, nat_tests); most = grind (arith, ints, nat_tests) }

in_bits_32 : (n : ℕ) → n < 2 ^ 32 → InBits 32 (signed_value 32 n)
in_bits_32 n h = record { least = grind (arith, ints, nat_tests); most = grind (arith, ints, nat_tests) }

amount : (n : ℕ) → n < 32 → (pos 0 ≤ℤ pos n) × (pos n <ℤ pos 32)
amount n h = (grind (arith, ints), grind (arith, ints))

flags : (n : ℕ) → n < 4 → (pos 0 ≤ℤ pos n) × (pos n <ℤ pos 4)
flags n h = (grind (arith, ints), grind (arith, ints))

even_13 : (n : ℕ) → n < 2 ^ 13 → n % 2 ≡ 0 → low_bits 1 (signed_value 13 n) ≡ 0
even_13 n h e = let m : low_bits 13 (signed_value 13 n) ≡ n = low-signed_13 n h in omega arith

even_21 : (n : ℕ) → n < 2 ^ 21 → n % 2 ≡ 0 → low_bits 1 (signed_value 21 n) ≡ 0
even_21 n h e = let m : low_bits 21 (signed_value 21 n) ≡ n = low-signed_21 n h in omega arith

round_32 : (n : ℕ) → n < 2 ^ 32 → n % 2 ^ 12 ≡ 0 → low_bits 12 (signed_value 32 n) ≡ 0
round_32 n h e = let m : low_bits 32 (signed_value 32 n) ≡ n = low-signed_32 n h in omega arith

abbrev IsRead : Form → Type 0
IsRead f = (o : Op) (w : ℕ) → FitsForm f (insn_of o f w)

fits_register : IsRead Register
unfolding insn_of
fits_register o w = record { registers = (omega arith, omega arith, omega arith); immediate = refl }

fits_immediate : IsRead Immediate
unfolding insn_of
fits_immediate o w = record { registers = (omega arith, omega arith, refl); immediate = (let n : ℕ = w / 2 ^ 20 % 2 ^ 12 in in_bits_12 n (omega arith)) }

fits_shift : IsRead Shift
unfolding insn_of
fits_shift o w = record { registers = (omega arith, omega arith, refl); immediate = amount (w / 2 ^ 20 % 2 ^ 5) (omega arith) }

fits_store : IsRead Store
unfolding insn_of
fits_store o w = record { registers = (refl, omega arith, omega arith); immediate = (let n : ℕ = 2 ^ 5 * (w / 2 ^ 25 % 2 ^ 7) + w / 2 ^ 7 % 2 ^ 5 in in_bits_12 n (omega arith)) }

fits_branch : IsRead Branch
unfolding insn_of
fits_branch o w = record { registers = (refl, omega arith, omega arith); immediate = (let n : ℕ = 2 ^ 12 * (w / 2 ^ 31 % 2 ^ 1) + 2 ^ 11 * (w / 2 ^ 7 % 2 ^ 1) + 2 ^ 5 * (w / 2 ^ 25 % 2 ^ 6) + 2 * (w / 2 ^ 8 % 2 ^ 4) in let b : n < 2 ^ 13 = omega arith in let e : n % 2 ≡ 0 = omega arith in (in_bits_13 n b, even_13 n b e)) }

fits_upper : IsRead Upper
unfolding insn_of
fits_upper o w = record { registers = (omega arith, refl, refl); immediate = (let n : ℕ = 2 ^ 12 * (w / 2 ^ 12 % 2 ^ 20) in let b : n < 2 ^ 32 = omega arith in let e : n % 2 ^ 12 ≡ 0 = omega arith in (in_bits_32 n b, round_32 n b e)) }

fits_jump : IsRead Jump
unfolding insn_of
fits_jump o w = record { registers = (omega arith, refl, refl); immediate = (let n : ℕ = 2 ^ 20 * (w / 2 ^ 31 % 2 ^ 1) + 2 ^ 12 * (w / 2 ^ 12 % 2 ^ 8) + 2 ^ 11 * (w / 2 ^ 20 % 2 ^ 1) + 2 * (w / 2 ^ 21 % 2 ^ 10) in let b : n < 2 ^ 21 = omega arith in let e : n % 2 ≡ 0 = omega arith in (in_bits_21 n b, even_21 n b e)) }

fits_whole : IsRead Whole
unfolding insn_of
fits_whole o w = record { registers = (refl, refl, refl); immediate = refl }

fits_atomic : IsRead Atomic
unfolding insn_of
fits_atomic o w = record { registers = (omega arith, omega arith, omega arith); immediate = flags (w / 2 ^ 25 % 2 ^ 2) (omega arith) }

fits_reserve : IsRead Reserve
unfolding insn_of
fits_reserve o w = record { registers = (omega arith, omega arith, refl); immediate = flags (w / 2 ^ 25 % 2 ^ 2) (omega arith) }

fits_form : (f : Form) → IsRead f
fits_form Register = fits_register
fits_form Immediate = fits_immediate
fits_form Shift = fits_shift
fits_form Store = fits_store
fits_form Branch = fits_branch
fits_form Upper = fits_upper
fits_form Jump = fits_jump
fits_form Whole = fits_whole
fits_form Atomic = fits_atomic
fits_form Reserve = fits_reserve

op_of_insn : (o : Op) (f : Form) (w : ℕ) → (insn_of o f w).op ≡ o
unfolding insn_of
op_of_insn o f w = refl

-- a decoded instruction fits
pub decoded-fits : (w : ℕ) (i : Insn) → decoded w ≡ Some i → HasWord i
unfolding decoded row_of
decoded-fits w i e = go (row_of w) refl e
  where
    go : (o : Option Encoding) → row_of w ≡ o → option_map (λ (r : Encoding). insn_of r.op r.form w) o ≡ Some i → HasWord i
    go None is h = (cc)
    go (Some r) is h =
        let own : (belongs w r ≡ true) × (r ≡ encoding r.op) = found w encodings r all_own is in
        let same : insn_of r.op (encoding r.op).form w ≡ i = ap (λ (x : Encoding). insn_of r.op x.form w) (sym own.1) ∙ (let s : insn_of r.op r.form w ≡ i = cc in s) in
        let op : i.op ≡ r.op = sym (ap (λ (x : Insn). x.op) same) ∙ op_of_insn r.op (encoding r.op).form w in
        subst (λ (o : Op). FitsForm (encoding o).form i) (sym op) (subst (λ (x : Insn). FitsForm (encoding r.op).form x) same (fits_form (encoding r.op).form r.op w))

-- the form of a decoded instruction is that of its operation
pub decoded-operation : (w : ℕ) → w < 2 ^ 32 → (k : Option (Op × Form)) → option_map key_of (encoding_named (bit_and w 127) (bit_and (w / 2 ^ 12) 7) (w / 2 ^ 25) w) ≡ k → decoded w ≡ option_map (λ (o : Op). insn_of o (encoding o).form w) (option_map (λ (x : Op × Form). x.0) k)
unfolding decoded row_of
decoded-operation w b k e = go (row_of w) refl (rw (row_of-named w b) (rw (and_mask w 7, and_mask (w / 2 ^ 12) 3) at e))
  where
    go : (o : Option Encoding) → row_of w ≡ o → option_map key_of o ≡ k → option_map (λ (r : Encoding). insn_of r.op r.form w) o ≡ option_map (λ (o : Op). insn_of o (encoding o).form w) (option_map (λ (x : Op × Form). x.0) k)
    go None is h = rw (← h) refl
    go (Some r) is h =
        let own : (belongs w r ≡ true) × (r ≡ encoding r.op) = found w encodings r all_own is in
        rw (← h) (ap (λ (x : Encoding). Some (insn_of r.op x.form w)) own.1)
