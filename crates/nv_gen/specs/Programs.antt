-- The programs of the versions: they go straight on, some instructions for each call. The bytes to write stand before the code.
use Rattle.std.specs.Prelude.{ℕ, pos, List, [], ◌∷◌, ◌++◌, length, map, replicate, true, false}
use Rattle.std.specs.List.{flat_map}
use Rattle.byteorder.specs.Endian.{little_bytes}
use Rattle.nv_calls.specs.Numbers.{EXIT_GROUP}
use Rattle.nv_isa.specs.declared.op.Op.TheVariants.{Addi, Lui, Ecall, Ebreak}
use Rattle.nv_isa.specs.declared.op.Insn.{Insn}
use Rattle.nv_isa.specs.Spelling.{encoded}
use Rattle.nv_elf.specs.Elf.{Range, Executable}
use Rattle.nv_gen.specs.Made.{Numbers, Call, Write, Getuid, Ending, Breaks, Exits, Course, courses_to, numbers_of}

-- the register gets a number below 2048 (li)
abbrev pub sets : ℕ → ℕ → Insn
sets rd value = record { op = Addi; rd = rd; rs1 = 0; rs2 = 0; imm = pos value }

-- the register gets the address of the bytes to write
abbrev pub points : ℕ → Insn
points rd = record { op = Lui; rd = rd; rs1 = 0; rs2 = 0; imm = pos 65536 }

abbrev pub ecall : Insn
ecall = record { op = Ecall; rd = 0; rs1 = 0; rs2 = 0; imm = pos 0 }

abbrev pub ebreak : Insn
ebreak = record { op = Ebreak; rd = 0; rs1 = 0; rs2 = 0; imm = pos 0 }

-- the arguments a0 to a2 are registers 10 to 12, and the number of the call, a7, is register 17
abbrev pub write_insns : ℕ → List Insn
write_insns size = sets 10 1 ∷ points 11 ∷ sets 12 size ∷ sets 17 64 ∷ ecall ∷ []

abbrev pub getuid_insns : List Insn
getuid_insns = sets 17 174 ∷ ecall ∷ []

abbrev pub exit_insns : ℕ → List Insn
exit_insns status = sets 10 status ∷ sets 17 EXIT_GROUP ∷ ecall ∷ []

abbrev pub insns_of : Call → List Insn
insns_of (Write bytes) = write_insns (length bytes)
insns_of Getuid = getuid_insns

abbrev pub last_insns : Ending → List Insn
last_insns Breaks = ebreak ∷ []
last_insns (Exits status) = exit_insns status

-- the instructions of a course
abbrev pub insns : Course → List Insn
insns c = flat_map insns_of c.calls ++ last_insns c.ending

-- the bytes of an instruction
unfoldable pub insn_bytes : Insn → List ℕ
insn_bytes i = little_bytes 4 (encoded i)

abbrev pub code_of : List Insn → List ℕ
code_of is = flat_map insn_bytes is

-- the bytes of the instructions of calls
abbrev pub calls_code : List Call → List ℕ
calls_code calls = code_of (flat_map insns_of calls)

-- room for the bytes of any write
unfoldable pub block : ℕ → List ℕ
block byte = replicate 64 byte

-- at 0x10000 the bytes to write, and the code after them
abbrev pub segment_bytes : Numbers → Course → List ℕ
segment_bytes k c = block k.byte ++ code_of (insns c)

abbrev pub course_range : Numbers → Course → Range
course_range k c = record { address = 65536; size = length (segment_bytes k c); read = true; write = false; execute = true; bytes = segment_bytes k c }

-- the one range, with the entry at the code
unfoldable pub program : Numbers → Course → Executable
program k c = record { entry = 65600; ranges = course_range k c ∷ [] }

-- the programs of the first versions
abbrev pub programs_to : Numbers → ℕ → List Executable
programs_to k count = map (program k) (courses_to k count)

-- the programs of all versions
abbrev pub programs : ℕ → List Executable
programs n = programs_to (numbers_of n) (numbers_of n).versions
