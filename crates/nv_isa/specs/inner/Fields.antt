-- The table searched by opcode, funct3 and funct7.
use Rattle.std.specs.Prelude.{Bool, true, ℕ, ◌/◌, ◌%◌, ◌^◌, Option, find, ◌==◌, if◌then◌else◌, ◌&&◌}
use Rattle.nv_isa.specs.declared.op.Op.{Op}
use Rattle.nv_isa.specs.declared.op.Form.{Form}
use Rattle.nv_isa.specs.Table.{Encoding, encodings}

-- the row's test on the fields of a word
abbrev pub fits_fields : ℕ → ℕ → ℕ → ℕ → Encoding → Bool
fits_fields opcode funct3 funct7 word r =
    (opcode == r.value % 2 ^ 7) && (if r.mask == 0x7f then true else (
    if r.mask == 0x707f then funct3 == r.value / 2 ^ 12 % 2 ^ 3 else (
    if r.mask == 0xfe00707f then (funct3 == r.value / 2 ^ 12 % 2 ^ 3) && (funct7 == r.value / 2 ^ 25) else (
    if r.mask == 0xf800707f then (funct3 == r.value / 2 ^ 12 % 2 ^ 3) && (funct7 / 2 ^ 2 == r.value / 2 ^ 27) else (
    if r.mask == 0xf9f0707f then (funct3 == r.value / 2 ^ 12 % 2 ^ 3) && ((funct7 / 2 ^ 2 == r.value / 2 ^ 27) && (word / 2 ^ 20 % 2 ^ 5 == 0)) else word == r.value)))))

unfoldable pub encoding_named : ℕ → ℕ → ℕ → ℕ → Option Encoding
encoding_named opcode funct3 funct7 word = find (fits_fields opcode funct3 funct7 word) encodings

-- the operation of a row, and its form
abbrev pub key_of : Encoding → Op × Form
key_of r = (r.op, r.form)
