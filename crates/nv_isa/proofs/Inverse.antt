-- Decoding and encoding are inverse to each other.
use Rattle.std.proofs.Common.{◌≡◌, inl, inr, List, [], ◌∷◌, true, ℕ, ◌+◌, ◌*◌, ◌/◌, ◌%◌, ◌^◌, ◌<◌, Option, Some, None, refl, sym, ◌∙◌, ap, subst, arith, bit_and, lit<, add-zero}
use Rattle.std.specs.Prelude.{ℤ, find}
use Rattle.std.specs.Option.{option_map}
use Rattle.std.specs.List.{AllByRecursion}
use Rattle.std.proofs.lemmas.Bool.{eqb-true, eq-eqb, cases_Bool}
use Rattle.nv_isa.specs.declared.op.Op.{Op}
use Rattle.nv_isa.specs.declared.op.Op.TheVariants.{Lui}
use Rattle.nv_isa.specs.declared.op.Form.{Form}
use Rattle.nv_isa.specs.declared.op.Form.TheVariants.{Register, Immediate, Shift, Store, Branch, Upper, Jump, Whole, Atomic, Reserve}
use Rattle.nv_isa.specs.declared.op.Insn.{Insn}
use Rattle.nv_isa.specs.Table.{Encoding, encoding, encodings, row_of, belongs, signed_value, immediate, insn_of, rd_in, rs1_in, rs2_in, decoded}
use Rattle.nv_isa.specs.Spelling.{low_bits, FitsForm, spelled, encoded, HasWord}
use Rattle.nv_isa.proofs.Masks.{under_opcode, under_funct3, under_funct7, under_funct5, under_reserve, under_all, has_kind}
use Rattle.nv_isa.proofs.Apart.{only_row}
use Rattle.nv_isa.proofs.Signs.{low-signed_12, low-signed_13, low-signed_21, low-signed_32, signed-low_12, signed-low_13, signed-low_21, signed-low_32, low_5, low_2}

abbrev pub mask_of : Form → ℕ
mask_of Register = 0xfe00707f
mask_of Immediate = 0x707f
mask_of Shift = 0xfe00707f
mask_of Store = 0x707f
mask_of Branch = 0x707f
mask_of Upper = 0x7f
mask_of Jump = 0x7f
mask_of Whole = 0xffffffff
mask_of Atomic = 0xf800707f
mask_of Reserve = 0xf9f0707f

pub mask-row : (o : Op) → (encoding o).mask ≡ mask_of (encoding o).form
unfolding encoding
mask-row Lui = refl
mask-row _ = refl

pub kind_of_row : (o : Op) → has_kind (mask_of (encoding o).form) (encoding o).value ≡ true
unfolding encoding
kind_of_row Lui = refl
kind_of_row _ = refl

-- six numbers one after another
record Six (w o rd f r1 r2 g : ℕ) : Type 0 where
  opcode : w % 2 ^ 7 ≡ o
  rd_at : w / 2 ^ 7 % 2 ^ 5 ≡ rd
  funct3 : w / 2 ^ 12 % 2 ^ 3 ≡ f
  rs1_at : w / 2 ^ 15 % 2 ^ 5 ≡ r1
  rs2_at : w / 2 ^ 20 % 2 ^ 5 ≡ r2
  funct7 : w / 2 ^ 25 ≡ g
  bound : w < 2 ^ 32

six : (w o rd f r1 r2 g : ℕ) → o < 2 ^ 7 → rd < 2 ^ 5 → f < 2 ^ 3 → r1 < 2 ^ 5 → r2 < 2 ^ 5 → g < 2 ^ 7
    → w ≡ o + 2 ^ 7 * rd + 2 ^ 12 * f + 2 ^ 15 * r1 + 2 ^ 20 * r2 + 2 ^ 25 * g → Six w o rd f r1 r2 g
six w o rd f r1 r2 g a b c d e h is = record {
  opcode = omega arith;
  rd_at = omega arith;
  funct3 = omega arith;
  rs1_at = omega arith;
  rs2_at = omega arith;
  funct7 = omega arith;
  bound = omega arith;
}

-- a word of the row with these fields is read as the instruction
pub record ReadBack (f : Form) (v : ℕ) (i : Insn) : Type 0 where
  pub bound : v + spelled f i < 2 ^ 32
  pub under : bit_and (v + spelled f i) (mask_of f) ≡ v
  pub read : insn_of i.op f (v + spelled f i) ≡ i

same_insn : (f : Form) (w : ℕ) (i : Insn) → rd_in f w ≡ i.rd → rs1_in f w ≡ i.rs1 → rs2_in f w ≡ i.rs2 → immediate f w ≡ i.imm → insn_of i.op f w ≡ i
unfolding insn_of
same_insn f w i a b c d = rw (a, b, c, d) refl

read_register : (v : ℕ) (i : Insn) → has_kind (mask_of Register) v ≡ true → v < 2 ^ 32 → FitsForm Register i → ReadBack Register v i
read_register v i k b h =
    let v_is : v ≡ v / 2 ^ 25 * 2 ^ 25 + (v / 2 ^ 12 % 2 ^ 3 * 2 ^ 12 + v % 2 ^ 7) = eqb-true _ _ k in
    let w : ℕ = v + spelled Register i in
    let s : Six w (v % 2 ^ 7) i.rd (v / 2 ^ 12 % 2 ^ 3) i.rs1 i.rs2 (v / 2 ^ 25) =
    six w (v % 2 ^ 7) i.rd (v / 2 ^ 12 % 2 ^ 3) i.rs1 i.rs2 (v / 2 ^ 25) (omega arith) (omega arith) (omega arith) (omega arith) (omega arith) (omega arith) (omega arith) in
    record {
      bound = s.bound;
      under = under_funct7 w s.bound ∙ rw (s.opcode, s.funct3, s.funct7) (sym v_is);
      read = same_insn Register w i s.rd_at s.rs1_at s.rs2_at (sym h.immediate);
    }

read_immediate : (v : ℕ) (i : Insn) → has_kind (mask_of Immediate) v ≡ true → v < 2 ^ 32 → FitsForm Immediate i → ReadBack Immediate v i
read_immediate v i k b h =
    let v_is : v ≡ v / 2 ^ 12 % 2 ^ 3 * 2 ^ 12 + v % 2 ^ 7 = eqb-true _ _ k in
    let w : ℕ = v + spelled Immediate i in
    let m : ℕ = low_bits 12 i.imm in
    let m_small : m < 2 ^ 12 = omega arith in
    let s : Six w (v % 2 ^ 7) i.rd (v / 2 ^ 12 % 2 ^ 3) i.rs1 (m % 2 ^ 5) (m / 2 ^ 5) =
    six w (v % 2 ^ 7) i.rd (v / 2 ^ 12 % 2 ^ 3) i.rs1 (m % 2 ^ 5) (m / 2 ^ 5) (omega arith) (omega arith) (omega arith) (omega arith) (omega arith) (omega arith) (omega arith) in
    let at_m : w / 2 ^ 20 % 2 ^ 12 ≡ m = omega arith in
    record {
      bound = s.bound;
      under = under_funct3 w ∙ rw (s.opcode, s.funct3) (sym v_is);
      read = same_insn Immediate w i s.rd_at s.rs1_at (sym h.registers.2) (rw at_m (signed-low_12 i.imm h.immediate));
    }

read_shift : (v : ℕ) (i : Insn) → has_kind (mask_of Shift) v ≡ true → v < 2 ^ 32 → FitsForm Shift i → ReadBack Shift v i
read_shift v i k b h =
    let v_is : v ≡ v / 2 ^ 25 * 2 ^ 25 + (v / 2 ^ 12 % 2 ^ 3 * 2 ^ 12 + v % 2 ^ 7) = eqb-true _ _ k in
    let w : ℕ = v + spelled Shift i in
    let m : ℕ = low_bits 5 i.imm in
    let m_small : m < 2 ^ 5 = omega arith in
    let s : Six w (v % 2 ^ 7) i.rd (v / 2 ^ 12 % 2 ^ 3) i.rs1 (m) (v / 2 ^ 25) =
    six w (v % 2 ^ 7) i.rd (v / 2 ^ 12 % 2 ^ 3) i.rs1 (m) (v / 2 ^ 25) (omega arith) (omega arith) (omega arith) (omega arith) (omega arith) (omega arith) (omega arith) in
    record {
      bound = s.bound;
      under = under_funct7 w s.bound ∙ rw (s.opcode, s.funct3, s.funct7) (sym v_is);
      read = same_insn Shift w i s.rd_at s.rs1_at (sym h.registers.2) (rw s.rs2_at (low_5 i.imm h.immediate.0 h.immediate.1));
    }

read_store : (v : ℕ) (i : Insn) → has_kind (mask_of Store) v ≡ true → v < 2 ^ 32 → FitsForm Store i → ReadBack Store v i
read_store v i k b h =
    let v_is : v ≡ v / 2 ^ 12 % 2 ^ 3 * 2 ^ 12 + v % 2 ^ 7 = eqb-true _ _ k in
    let w : ℕ = v + spelled Store i in
    let m : ℕ = low_bits 12 i.imm in
    let m_small : m < 2 ^ 12 = omega arith in
    let s : Six w (v % 2 ^ 7) (m % 2 ^ 5) (v / 2 ^ 12 % 2 ^ 3) i.rs1 i.rs2 (m / 2 ^ 5) =
    six w (v % 2 ^ 7) (m % 2 ^ 5) (v / 2 ^ 12 % 2 ^ 3) i.rs1 i.rs2 (m / 2 ^ 5) (omega arith) (omega arith) (omega arith) (omega arith) (omega arith) (omega arith) (omega arith) in
    let at_m : 2 ^ 5 * (w / 2 ^ 25 % 2 ^ 7) + w / 2 ^ 7 % 2 ^ 5 ≡ m = omega arith in
    record {
      bound = s.bound;
      under = under_funct3 w ∙ rw (s.opcode, s.funct3) (sym v_is);
      read = same_insn Store w i (sym h.registers.0) s.rs1_at s.rs2_at (rw at_m (signed-low_12 i.imm h.immediate));
    }

read_branch : (v : ℕ) (i : Insn) → has_kind (mask_of Branch) v ≡ true → v < 2 ^ 32 → FitsForm Branch i → ReadBack Branch v i
read_branch v i k b h =
    let v_is : v ≡ v / 2 ^ 12 % 2 ^ 3 * 2 ^ 12 + v % 2 ^ 7 = eqb-true _ _ k in
    let w : ℕ = v + spelled Branch i in
    let m : ℕ = low_bits 13 i.imm in
    let m_small : m < 2 ^ 13 = omega arith in
    let s : Six w (v % 2 ^ 7) (m / 2 ^ 11 % 2 + 2 * (m / 2 % 2 ^ 4)) (v / 2 ^ 12 % 2 ^ 3) i.rs1 i.rs2 (m / 2 ^ 5 % 2 ^ 6 + 2 ^ 6 * (m / 2 ^ 12)) =
    six w (v % 2 ^ 7) (m / 2 ^ 11 % 2 + 2 * (m / 2 % 2 ^ 4)) (v / 2 ^ 12 % 2 ^ 3) i.rs1 i.rs2 (m / 2 ^ 5 % 2 ^ 6 + 2 ^ 6 * (m / 2 ^ 12)) (omega arith) (omega arith) (omega arith) (omega arith) (omega arith) (omega arith) (omega arith) in
    let even : m % 2 ≡ 0 = omega (arith, h.immediate.1) in
    let at_m : 2 ^ 12 * (w / 2 ^ 31 % 2 ^ 1) + 2 ^ 11 * (w / 2 ^ 7 % 2 ^ 1) + 2 ^ 5 * (w / 2 ^ 25 % 2 ^ 6) + 2 * (w / 2 ^ 8 % 2 ^ 4) ≡ m = omega arith in
    record {
      bound = s.bound;
      under = under_funct3 w ∙ rw (s.opcode, s.funct3) (sym v_is);
      read = same_insn Branch w i (sym h.registers.0) s.rs1_at s.rs2_at (rw at_m (signed-low_13 i.imm h.immediate.0));
    }

read_upper : (v : ℕ) (i : Insn) → has_kind (mask_of Upper) v ≡ true → v < 2 ^ 32 → FitsForm Upper i → ReadBack Upper v i
read_upper v i k b h =
    let v_is : v ≡ v % 2 ^ 7 = eqb-true _ _ k in
    let w : ℕ = v + spelled Upper i in
    let m : ℕ = low_bits 32 i.imm in
    let m_small : m < 2 ^ 32 = omega arith in
    let s : Six w (v % 2 ^ 7) i.rd (m / 2 ^ 12 % 2 ^ 3) (m / 2 ^ 15 % 2 ^ 5) (m / 2 ^ 20 % 2 ^ 5) (m / 2 ^ 25) =
    six w (v % 2 ^ 7) i.rd (m / 2 ^ 12 % 2 ^ 3) (m / 2 ^ 15 % 2 ^ 5) (m / 2 ^ 20 % 2 ^ 5) (m / 2 ^ 25) (omega arith) (omega arith) (omega arith) (omega arith) (omega arith) (omega arith) (omega arith) in
    let round : m % 2 ^ 12 ≡ 0 = omega (arith, h.immediate.1) in
    let at_m : 2 ^ 12 * (w / 2 ^ 12 % 2 ^ 20) ≡ m = omega arith in
    record {
      bound = s.bound;
      under = under_opcode w ∙ rw (s.opcode) (sym v_is);
      read = same_insn Upper w i s.rd_at (sym h.registers.1) (sym h.registers.2) (rw at_m (signed-low_32 i.imm h.immediate.0));
    }

read_jump : (v : ℕ) (i : Insn) → has_kind (mask_of Jump) v ≡ true → v < 2 ^ 32 → FitsForm Jump i → ReadBack Jump v i
read_jump v i k b h =
    let v_is : v ≡ v % 2 ^ 7 = eqb-true _ _ k in
    let w : ℕ = v + spelled Jump i in
    let m : ℕ = low_bits 21 i.imm in
    let m_small : m < 2 ^ 21 = omega arith in
    let s : Six w (v % 2 ^ 7) i.rd (m / 2 ^ 12 % 2 ^ 3) (m / 2 ^ 15 % 2 ^ 5) (m / 2 ^ 11 % 2 + 2 * (m / 2 % 2 ^ 4)) (m / 2 ^ 5 % 2 ^ 6 + 2 ^ 6 * (m / 2 ^ 20)) =
    six w (v % 2 ^ 7) i.rd (m / 2 ^ 12 % 2 ^ 3) (m / 2 ^ 15 % 2 ^ 5) (m / 2 ^ 11 % 2 + 2 * (m / 2 % 2 ^ 4)) (m / 2 ^ 5 % 2 ^ 6 + 2 ^ 6 * (m / 2 ^ 20)) (omega arith) (omega arith) (omega arith) (omega arith) (omega arith) (omega arith) (omega arith) in
    let even : m % 2 ≡ 0 = omega (arith, h.immediate.1) in
    let at_m : 2 ^ 20 * (w / 2 ^ 31 % 2 ^ 1) + 2 ^ 12 * (w / 2 ^ 12 % 2 ^ 8) + 2 ^ 11 * (w / 2 ^ 20 % 2 ^ 1) + 2 * (w / 2 ^ 21 % 2 ^ 10) ≡ m = omega arith in
    record {
      bound = s.bound;
      under = under_opcode w ∙ rw (s.opcode) (sym v_is);
      read = same_insn Jump w i s.rd_at (sym h.registers.1) (sym h.registers.2) (rw at_m (signed-low_21 i.imm h.immediate.0));
    }

read_whole : (v : ℕ) (i : Insn) → has_kind (mask_of Whole) v ≡ true → v < 2 ^ 32 → FitsForm Whole i → ReadBack Whole v i
read_whole v i k b h = record {
  bound = omega arith;
  under = rw (add-zero v) (under_all v b);
  read = same_insn Whole (v + 0) i (sym h.registers.0) (sym h.registers.1) (sym h.registers.2) (sym h.immediate);
}

read_atomic : (v : ℕ) (i : Insn) → has_kind (mask_of Atomic) v ≡ true → v < 2 ^ 32 → FitsForm Atomic i → ReadBack Atomic v i
read_atomic v i k b h =
    let v_is : v ≡ v / 2 ^ 27 * 2 ^ 27 + (v / 2 ^ 12 % 2 ^ 3 * 2 ^ 12 + v % 2 ^ 7) = eqb-true _ _ k in
    let w : ℕ = v + spelled Atomic i in
    let m : ℕ = low_bits 2 i.imm in
    let m_small : m < 2 ^ 2 = omega arith in
    let s : Six w (v % 2 ^ 7) i.rd (v / 2 ^ 12 % 2 ^ 3) i.rs1 i.rs2 (v / 2 ^ 27 * 2 ^ 2 + m) =
    six w (v % 2 ^ 7) i.rd (v / 2 ^ 12 % 2 ^ 3) i.rs1 i.rs2 (v / 2 ^ 27 * 2 ^ 2 + m) (omega arith) (omega arith) (omega arith) (omega arith) (omega arith) (omega arith) (omega arith) in
    let high : w / 2 ^ 27 ≡ v / 2 ^ 27 = omega (arith, s.funct7) in
    let at_m : w / 2 ^ 25 % 2 ^ 2 ≡ m = omega (arith, s.funct7) in
    record {
      bound = s.bound;
      under = under_funct5 w s.bound ∙ rw (s.opcode, s.funct3, high) (sym v_is);
      read = same_insn Atomic w i s.rd_at s.rs1_at s.rs2_at (rw at_m (low_2 i.imm h.immediate.0 h.immediate.1));
    }

read_reserve : (v : ℕ) (i : Insn) → has_kind (mask_of Reserve) v ≡ true → v < 2 ^ 32 → FitsForm Reserve i → ReadBack Reserve v i
read_reserve v i k b h =
    let v_is : v ≡ v / 2 ^ 27 * 2 ^ 27 + (v / 2 ^ 12 % 2 ^ 3 * 2 ^ 12 + v % 2 ^ 7) = eqb-true _ _ k in
    let w : ℕ = v + spelled Reserve i in
    let m : ℕ = low_bits 2 i.imm in
    let m_small : m < 2 ^ 2 = omega arith in
    let s : Six w (v % 2 ^ 7) i.rd (v / 2 ^ 12 % 2 ^ 3) i.rs1 0 (v / 2 ^ 27 * 2 ^ 2 + m) =
    six w (v % 2 ^ 7) i.rd (v / 2 ^ 12 % 2 ^ 3) i.rs1 0 (v / 2 ^ 27 * 2 ^ 2 + m) (omega arith) (omega arith) (omega arith) (omega arith) (omega arith) (omega arith) (omega arith) in
    let high : w / 2 ^ 27 ≡ v / 2 ^ 27 = omega (arith, s.funct7) in
    let at_m : w / 2 ^ 25 % 2 ^ 2 ≡ m = omega (arith, s.funct7) in
    record {
      bound = s.bound;
      under = under_reserve w s.bound ∙ rw (s.opcode, s.funct3, s.rs2_at, high) (omega arith);
      read = same_insn Reserve w i s.rd_at s.rs1_at (sym h.registers.2) (rw at_m (low_2 i.imm h.immediate.0 h.immediate.1));
    }

read_back : (f : Form) (v : ℕ) (i : Insn) → has_kind (mask_of f) v ≡ true → v < 2 ^ 32 → FitsForm f i → ReadBack f v i
read_back Register = read_register
read_back Immediate = read_immediate
read_back Shift = read_shift
read_back Store = read_store
read_back Branch = read_branch
read_back Upper = read_upper
read_back Jump = read_jump
read_back Whole = read_whole
read_back Atomic = read_atomic
read_back Reserve = read_reserve

small : (o : Op) → (encoding o).value < 2 ^ 32
unfolding encoding
small Lui = lit< tt
small _ = lit< tt

pub of_row : (i : Insn) → HasWord i → ReadBack (encoding i.op).form (encoding i.op).value i
of_row i h = read_back (encoding i.op).form (encoding i.op).value i (kind_of_row i.op) (small i.op) h

pub encoded-lt : (i : Insn) → HasWord i → (encoding i.op).value + spelled (encoding i.op).form i < 2 ^ 32
encoded-lt i h = (of_row i h).bound

pub op_of_row : (o : Op) → (encoding o).op ≡ o
unfolding encoding
op_of_row Lui = refl
op_of_row _ = refl

-- what is encoded is read again
pub decoded-encoded : (i : Insn) → HasWord i → decoded (encoded i) ≡ Some i
unfolding encoded decoded
decoded-encoded i h =
    let w : ℕ = (encoding i.op).value + spelled (encoding i.op).form i in
    let back : ReadBack (encoding i.op).form (encoding i.op).value i = of_row i h in
    let b : belongs w (encoding i.op) ≡ true = eq-eqb _ _ (rw (mask-row i.op) back.under) in
    rw (only_row w i.op b, op_of_row i.op) (ap (λ (x : Insn). Some x) back.read)

-- the word that an instruction was read from is its word
abbrev WrittenBack : Form → Type 0
WrittenBack f = (o : Op) (w v : ℕ) → w < 2 ^ 32 → bit_and w (mask_of f) ≡ v → v + spelled f (insn_of o f w) ≡ w

low-low : (z : ℤ) (m : ℕ) → low_bits 12 z ≡ m → low_bits 5 z ≡ m % 2 ^ 5
low-low z m e = omega arith

write_register : WrittenBack Register
unfolding insn_of
write_register o w v b e =
    let u : v ≡ w / 2 ^ 25 * 2 ^ 25 + (w / 2 ^ 12 % 2 ^ 3 * 2 ^ 12 + w % 2 ^ 7) = sym e ∙ under_funct7 w b in
    omega arith

write_shift : WrittenBack Shift
unfolding insn_of
write_shift o w v b e =
    let u : v ≡ w / 2 ^ 25 * 2 ^ 25 + (w / 2 ^ 12 % 2 ^ 3 * 2 ^ 12 + w % 2 ^ 7) = sym e ∙ under_funct7 w b in
    omega arith

write_whole : WrittenBack Whole
write_whole o w v b e = omega (arith, e, under_all w b)

write_immediate : WrittenBack Immediate
unfolding insn_of
write_immediate o w v b e =
    let n : ℕ = w / 2 ^ 20 % 2 ^ 12 in
    let m : low_bits 12 (signed_value 12 n) ≡ n = low-signed_12 n (omega arith) in
    let u : v ≡ w / 2 ^ 12 % 2 ^ 3 * 2 ^ 12 + w % 2 ^ 7 = sym e ∙ under_funct3 w in
    omega arith

write_store : WrittenBack Store
unfolding insn_of
write_store o w v b e =
    let n : ℕ = 2 ^ 5 * (w / 2 ^ 25 % 2 ^ 7) + w / 2 ^ 7 % 2 ^ 5 in
    let m : low_bits 12 (signed_value 12 n) ≡ n = low-signed_12 n (omega arith) in
    let m5 : low_bits 5 (signed_value 12 n) ≡ n % 2 ^ 5 = low-low (signed_value 12 n) n m in
    let u : v ≡ w / 2 ^ 12 % 2 ^ 3 * 2 ^ 12 + w % 2 ^ 7 = sym e ∙ under_funct3 w in
    omega arith

write_branch : WrittenBack Branch
unfolding insn_of
write_branch o w v b e =
    let n : ℕ = 2 ^ 12 * (w / 2 ^ 31 % 2 ^ 1) + 2 ^ 11 * (w / 2 ^ 7 % 2 ^ 1) + 2 ^ 5 * (w / 2 ^ 25 % 2 ^ 6) + 2 * (w / 2 ^ 8 % 2 ^ 4) in
    let m : low_bits 13 (signed_value 13 n) ≡ n = low-signed_13 n (omega arith) in
    let u : v ≡ w / 2 ^ 12 % 2 ^ 3 * 2 ^ 12 + w % 2 ^ 7 = sym e ∙ under_funct3 w in
    omega arith

write_upper : WrittenBack Upper
unfolding insn_of
write_upper o w v b e =
    let n : ℕ = 2 ^ 12 * (w / 2 ^ 12 % 2 ^ 20) in
    let m : low_bits 32 (signed_value 32 n) ≡ n = low-signed_32 n (omega arith) in
    let u : v ≡ w % 2 ^ 7 = sym e ∙ under_opcode w in
    omega arith

write_jump : WrittenBack Jump
unfolding insn_of
write_jump o w v b e =
    let n : ℕ = 2 ^ 20 * (w / 2 ^ 31 % 2 ^ 1) + 2 ^ 12 * (w / 2 ^ 12 % 2 ^ 8) + 2 ^ 11 * (w / 2 ^ 20 % 2 ^ 1) + 2 * (w / 2 ^ 21 % 2 ^ 10) in
    let m : low_bits 21 (signed_value 21 n) ≡ n = low-signed_21 n (omega arith) in
    let u : v ≡ w % 2 ^ 7 = sym e ∙ under_opcode w in
    omega arith

write_atomic : WrittenBack Atomic
unfolding insn_of
write_atomic o w v b e =
    let u : v ≡ w / 2 ^ 27 * 2 ^ 27 + (w / 2 ^ 12 % 2 ^ 3 * 2 ^ 12 + w % 2 ^ 7) = sym e ∙ under_funct5 w b in
    omega arith

write_reserve : WrittenBack Reserve
unfolding insn_of
write_reserve o w v b e =
    let u : v ≡ w / 2 ^ 27 * 2 ^ 27 + w / 2 ^ 20 % 2 ^ 5 * 2 ^ 20 + (w / 2 ^ 12 % 2 ^ 3 * 2 ^ 12 + w % 2 ^ 7) = sym e ∙ under_reserve w b in
    omega arith

write_back : (f : Form) → WrittenBack f
write_back Register = write_register
write_back Immediate = write_immediate
write_back Shift = write_shift
write_back Store = write_store
write_back Branch = write_branch
write_back Upper = write_upper
write_back Jump = write_jump
write_back Whole = write_whole
write_back Atomic = write_atomic
write_back Reserve = write_reserve

-- each row of the table is that of its operation
abbrev pub IsOwn : Encoding → Type 0
IsOwn r = r ≡ encoding r.op

pub all_own : AllByRecursion IsOwn encodings
unfolding encodings encoding
all_own = (refl, (refl, (refl, (refl, (refl, (refl, (refl, (refl, (refl, (refl, (refl, (refl, (refl, (refl, (refl, (refl, (refl, (refl, (refl, (refl, (refl, (refl, (refl, (refl, (refl, (refl, (refl, (refl, (refl, (refl, (refl, (refl, (refl, (refl, (refl, (refl, (refl, (refl, (refl, (refl, (refl, (refl, (refl, (refl, (refl, (refl, (refl, (refl, (refl, (refl, (refl, (refl, (refl, (refl, (refl, (refl, (refl, (refl, (refl, tt)))))))))))))))))))))))))))))))))))))))))))))))))))))))))))

pub found : (w : ℕ) (rs : List Encoding) (r : Encoding) → AllByRecursion IsOwn rs → find (belongs w) rs ≡ Some r → (belongs w r ≡ true) × (r ≡ encoding r.op)
found w [] r all e = (cc)
found w (x ∷ xs) r all e = elim (cases_Bool (belongs w x)) [
  | inl is_in ↦
      let same : x ≡ r = (let f : Some x ≡ Some r = (let g : find (belongs w) (x ∷ xs) ≡ Some x = rw is_in refl in sym g ∙ e) in cc) in
      (rw (← same) is_in, rw (← same) all.0)
  | inr out ↦ found w xs r all.1 ((let g : find (belongs w) (x ∷ xs) ≡ find (belongs w) xs = rw out refl in sym g) ∙ e)
]

-- what a word is read as has that word
pub encoded-decoded : (w : ℕ) (i : Insn) → w < 2 ^ 32 → decoded w ≡ Some i → encoded i ≡ w
unfolding decoded row_of encoded insn_of
encoded-decoded w i b e = go (row_of w) refl e
  where
    go : (o : Option Encoding) → row_of w ≡ o → option_map (λ (r : Encoding). insn_of r.op r.form w) o ≡ Some i → encoded i ≡ w
    go None is h = (cc)
    go (Some r) is h =
        let own : (belongs w r ≡ true) × (r ≡ encoding r.op) = found w encodings r all_own is in
        let same : insn_of r.op r.form w ≡ i = cc in
        let b2 : belongs w (encoding r.op) ≡ true = subst (λ (x : Encoding). belongs w x ≡ true) own.1 own.0 in
        let under : bit_and w (mask_of (encoding r.op).form) ≡ (encoding r.op).value = rw (← mask-row r.op) (eqb-true _ _ b2) in
        let same2 : insn_of r.op (encoding r.op).form w ≡ i = ap (λ (x : Encoding). insn_of r.op x.form w) (sym own.1) ∙ same in
        rw (← same2) (write_back (encoding r.op).form r.op w (encoding r.op).value b under)

pub one_row : (word : ℕ) (a b : Op) → belongs word (encoding a) ≡ true → belongs word (encoding b) ≡ true → a ≡ b
one_row word a b in_a in_b =
    let e : Some (encoding a) ≡ Some (encoding b) = sym (only_row word a in_a) ∙ only_row word b in_b in
    let f : encoding a ≡ encoding b = cc in
    sym (op_of_row a) ∙ ap (λ (r : Encoding). r.op) f ∙ op_of_row b
