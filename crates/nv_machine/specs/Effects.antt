-- What the operations compute, on numbers of 32 bits: the RISC-V Unprivileged ISA manual (20191213), sections 2.4 to 2.6,
-- 7.1 and 7.2 for multiplication and division, and 8.4 for what an atomic operation stores.
use Rattle.std.specs.Prelude.{Bool, false, not, ℕ, ◌+◌, ◌-◌, ◌*◌, ◌/◌, ◌%◌, ◌^◌, nat_lt, nat_le, ◌==◌, if◌then◌else◌, int_lt, int_div, int_rem, pos, ◌*ℤ◌, min, max, bit_and, bit_or, bit_xor, ℤ}
use Rattle.std.specs.Int.{w32, cast_signed, cast_unsigned, int_shr}
use Rattle.nv_isa.specs.declared.op.Op.{Op}
use Rattle.nv_isa.specs.declared.op.Op.TheVariants.{Addi, Slti, Sltiu, Xori, Ori, Andi, Slli, Srli, Srai, Add, Sub, Sll, Slt, Sltu, Xor, Srl, Sra, Or, And, Beq, Bne, Blt, Bge, Bltu, Bgeu, Mul, Mulh, Mulhsu, Mulhu, Div, Divu, Rem, Remu, AmoAdd, AmoXor, AmoAnd, AmoOr, AmoMin, AmoMax, AmoMinu, AmoMaxu}

-- modulo 2^32
abbrev pub sum : ℕ → ℕ → ℕ
sum a b = (a + b) % 2 ^ 32

-- modulo 2^32
abbrev pub difference : ℕ → ℕ → ℕ
difference a b = (a + (2 ^ 32 - b)) % 2 ^ 32

-- both as signed numbers
abbrev pub is_below_signed : ℕ → ℕ → Bool
is_below_signed a b = int_lt (cast_signed w32 a) (cast_signed w32 b)

abbrev pub as_number : Bool → ℕ
as_number b = if b then 1 else 0

-- the number shifted down, with copies of its sign above
abbrev pub shifted_copies : ℕ → ℕ → ℕ
shifted_copies a by = cast_unsigned w32 (int_shr (cast_signed w32 a) by)

-- the upper 32 bits of a product
abbrev pub upper_half : ℤ → ℕ
upper_half product = cast_unsigned w32 (int_shr product 32)

-- signed, toward zero; by 0 it is all ones, and -2^31 by -1 is 2^31, which has the bits of -2^31
abbrev pub divided : ℕ → ℕ → ℕ
divided a b = if b == 0 then 2 ^ 32 - 1 else cast_unsigned w32 (int_div (cast_signed w32 a) (cast_signed w32 b))

-- signed, with the sign of the dividend; by 0 it is the dividend
abbrev pub remainder : ℕ → ℕ → ℕ
remainder a b = if b == 0 then a else cast_unsigned w32 (int_rem (cast_signed w32 a) (cast_signed w32 b))

-- unsigned; by 0 it is all ones
abbrev pub divided_unsigned : ℕ → ℕ → ℕ
divided_unsigned a b = if b == 0 then 2 ^ 32 - 1 else a / b

-- unsigned; by 0 it is the dividend
abbrev pub remainder_unsigned : ℕ → ℕ → ℕ
remainder_unsigned a b = if b == 0 then a else a % b

-- what an operation of the extension M gives
abbrev pub multiplied : Op → ℕ → ℕ → ℕ
multiplied Mul a b = a * b % 2 ^ 32
multiplied Mulh a b = upper_half (cast_signed w32 a *ℤ cast_signed w32 b)
multiplied Mulhsu a b = upper_half (cast_signed w32 a *ℤ pos b)
multiplied Mulhu a b = a * b / 2 ^ 32
multiplied Div a b = divided a b
multiplied Divu a b = divided_unsigned a b
multiplied Rem a b = remainder a b
multiplied Remu a b = remainder_unsigned a b
multiplied _ a b = 0

-- what an operation on two numbers gives; the second is an immediate or a register
abbrev pub computed : Op → ℕ → ℕ → ℕ
computed Addi a b = sum a b
computed Add a b = sum a b
computed Sub a b = difference a b
computed Slti a b = as_number (is_below_signed a b)
computed Slt a b = as_number (is_below_signed a b)
computed Sltiu a b = as_number (nat_lt a b)
computed Sltu a b = as_number (nat_lt a b)
computed Xori a b = bit_xor a b
computed Xor a b = bit_xor a b
computed Ori a b = bit_or a b
computed Or a b = bit_or a b
computed Andi a b = bit_and a b
computed And a b = bit_and a b
computed Slli a b = a * 2 ^ (b % 32) % 2 ^ 32
computed Sll a b = a * 2 ^ (b % 32) % 2 ^ 32
computed Srli a b = a / 2 ^ (b % 32)
computed Srl a b = a / 2 ^ (b % 32)
computed Srai a b = shifted_copies a (b % 32)
computed Sra a b = shifted_copies a (b % 32)
computed o a b = multiplied o a b

-- whether the branch is taken
abbrev pub is_taken : Op → ℕ → ℕ → Bool
is_taken Beq a b = a == b
is_taken Bne a b = not (a == b)
is_taken Blt a b = is_below_signed a b
is_taken Bge a b = not (is_below_signed a b)
is_taken Bltu a b = nat_lt a b
is_taken Bgeu a b = nat_le b a
is_taken _ a b = false

-- a number of k bits, with copies of its top bit above
abbrev pub sign_extended : ℕ → ℕ → ℕ
sign_extended k n = if nat_lt n (2 ^ (k - 1)) then n else sum n (2 ^ 32 - 2 ^ k)

-- what an atomic operation stores, from the old word and the register
abbrev pub combined : Op → ℕ → ℕ → ℕ
combined AmoAdd old b = sum old b
combined AmoXor old b = bit_xor old b
combined AmoAnd old b = bit_and old b
combined AmoOr old b = bit_or old b
combined AmoMin old b = if is_below_signed b old then b else old
combined AmoMax old b = if is_below_signed old b then b else old
combined AmoMinu old b = min old b
combined AmoMaxu old b = max old b
combined _ old b = b
