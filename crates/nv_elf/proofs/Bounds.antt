-- Where a header's bytes and addresses lie.
use Rattle.std.proofs.Common.{◌≡◌, ℕ, ◌+◌, ◌^◌, ◌<◌, ◌≤◌, false, arith}
use Rattle.std.proofs.lemmas.Bool.Decides.{nat_tests}
use Rattle.nv_elf.specs.declared.header.ProgramHeader.{ProgramHeader}
use Rattle.nv_elf.specs.Elf.{is_outside}

-- the bytes are within the size
pub bytes-inside : (len : ℕ) (h : ProgramHeader) → is_outside len h ≡ false → h.file_size ≤ h.memory_size
unfolding is_outside
bytes-inside len h e = grind (arith, nat_tests)

-- the bytes are in the file
pub file-inside : (len : ℕ) (h : ProgramHeader) → is_outside len h ≡ false → h.offset + h.file_size ≤ len
unfolding is_outside
file-inside len h e = grind (arith, nat_tests)

-- the addresses have 32 bits
pub end-inside : (len : ℕ) (h : ProgramHeader) → is_outside len h ≡ false → h.address + h.memory_size < 2 ^ 32
unfolding is_outside
end-inside len h e = grind (arith, nat_tests)
