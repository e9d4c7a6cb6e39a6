-- The meaning computes: small texts against answers from outside.
use Rattle.std.specs.Prelude.{◌≡◌, refl, [], ◌∷◌, Ok, Err}
use Rattle.nv_isa.specs.Table.{encoding}
use Rattle.nv_isa.specs.Spelling.{encoded}
use Rattle.nv_bytes.specs.Lines.{lines, trim, operands, is_name, parted, line_of}
use Rattle.nv_bytes.specs.Names.{defined, definitions, first_fault}
use Rattle.nv_asm.specs.declared.fault.AsmCause.TheVariants as cause
use Rattle.nv_asm.specs.declared.fault.AsmFault.TheVariants as fault
use Rattle.nv_asm.specs.Numbers.{registers, register_named, literal, number}
use Rattle.nv_asm.specs.Forms.{kinds}
use Rattle.nv_asm.specs.Strings.{quoted, comment_place}
use Rattle.nv_asm.specs.Statements.{loading, registers_of, immediate_of, shift_of, load_of, store_of, branch_of, jump_and_link_of, upper_number_of, load_number_of, load_address_of, move_of, jump_of, zeros_of, entry_statement, formed, bytes_of, word_of, words_of, statement}
use Rattle.nv_asm.specs.Places.{line_parts, placed_line, placed, ended}
use Rattle.nv_asm.specs.Assembled.{address, address_of, lacks, distance, content, laid, section_bytes, entry_address as program_entry, meaning, assembled, text_range, data_ranges}

-- 'li a7, 94\necall\n'
pub reads_exits : assembled (108 ∷ 105 ∷ 32 ∷ 97 ∷ 55 ∷ 44 ∷ 32 ∷ 57 ∷ 52 ∷ 10 ∷ 101 ∷ 99 ∷ 97 ∷ 108 ∷ 108 ∷ 10 ∷ []) ≡ Ok (record { entry = 65536; ranges = text_range (183 ∷ 8 ∷ 0 ∷ 0 ∷ 147 ∷ 136 ∷ 232 ∷ 5 ∷ 115 ∷ 0 ∷ 0 ∷ 0 ∷ []) ∷ data_ranges 12 ([]) })
unfolding lines trim operands is_name parted line_of defined definitions first_fault registers register_named literal number kinds quoted comment_place loading registers_of immediate_of shift_of load_of store_of branch_of jump_and_link_of upper_number_of load_number_of load_address_of move_of jump_of zeros_of entry_statement formed bytes_of word_of words_of statement line_parts placed_line placed ended address address_of lacks distance content laid section_bytes program_entry meaning assembled encoded encoding
reads_exits = refl

-- 'bogus\n'
pub reads_bogus : assembled (98 ∷ 111 ∷ 103 ∷ 117 ∷ 115 ∷ 10 ∷ []) ≡ Err (fault.Line 1 cause.Mnemonic)
unfolding lines trim operands is_name parted line_of defined definitions first_fault registers register_named literal number kinds quoted comment_place loading registers_of immediate_of shift_of load_of store_of branch_of jump_and_link_of upper_number_of load_number_of load_address_of move_of jump_of zeros_of entry_statement formed bytes_of word_of words_of statement line_parts placed_line placed ended address address_of lacks distance content laid section_bytes program_entry meaning assembled encoded encoding
reads_bogus = refl

-- 'start: la a1, msg\n li a2, 3\nx: beq a1, zero, done # x: y\n j start\ndone: ecall\n.data\n.byte 1\nmsg: .ascii "h#\\n\\""\nn: .word msg, 5,done\n.entry x'
pub reads_sections : assembled (115 ∷ 116 ∷ 97 ∷ 114 ∷ 116 ∷ 58 ∷ 32 ∷ 108 ∷ 97 ∷ 32 ∷ 97 ∷ 49 ∷ 44 ∷ 32 ∷ 109 ∷ 115 ∷ 103 ∷ 10 ∷ 32 ∷ 108 ∷ 105 ∷ 32 ∷ 97 ∷ 50 ∷ 44 ∷ 32 ∷ 51 ∷ 10 ∷ 120 ∷ 58 ∷ 32 ∷ 98 ∷ 101 ∷ 113 ∷ 32 ∷ 97 ∷ 49 ∷ 44 ∷ 32 ∷ 122 ∷ 101 ∷ 114 ∷ 111 ∷ 44 ∷ 32 ∷ 100 ∷ 111 ∷ 110 ∷ 101 ∷ 32 ∷ 35 ∷ 32 ∷ 120 ∷ 58 ∷ 32 ∷ 121 ∷ 10 ∷ 32 ∷ 106 ∷ 32 ∷ 115 ∷ 116 ∷ 97 ∷ 114 ∷ 116 ∷ 10 ∷ 100 ∷ 111 ∷ 110 ∷ 101 ∷ 58 ∷ 32 ∷ 101 ∷ 99 ∷ 97 ∷ 108 ∷ 108 ∷ 10 ∷ 46 ∷ 100 ∷ 97 ∷ 116 ∷ 97 ∷ 10 ∷ 46 ∷ 98 ∷ 121 ∷ 116 ∷ 101 ∷ 32 ∷ 49 ∷ 10 ∷ 109 ∷ 115 ∷ 103 ∷ 58 ∷ 32 ∷ 46 ∷ 97 ∷ 115 ∷ 99 ∷ 105 ∷ 105 ∷ 32 ∷ 34 ∷ 104 ∷ 35 ∷ 92 ∷ 110 ∷ 92 ∷ 34 ∷ 34 ∷ 10 ∷ 110 ∷ 58 ∷ 32 ∷ 46 ∷ 119 ∷ 111 ∷ 114 ∷ 100 ∷ 32 ∷ 109 ∷ 115 ∷ 103 ∷ 44 ∷ 32 ∷ 53 ∷ 44 ∷ 100 ∷ 111 ∷ 110 ∷ 101 ∷ 10 ∷ 46 ∷ 101 ∷ 110 ∷ 116 ∷ 114 ∷ 121 ∷ 32 ∷ 120 ∷ []) ≡ Ok (record { entry = 65552; ranges = text_range (183 ∷ 21 ∷ 1 ∷ 0 ∷ 147 ∷ 133 ∷ 21 ∷ 0 ∷ 55 ∷ 6 ∷ 0 ∷ 0 ∷ 19 ∷ 6 ∷ 54 ∷ 0 ∷ 99 ∷ 132 ∷ 5 ∷ 0 ∷ 111 ∷ 240 ∷ 223 ∷ 254 ∷ 115 ∷ 0 ∷ 0 ∷ 0 ∷ []) ∷ data_ranges 28 (1 ∷ 104 ∷ 35 ∷ 10 ∷ 34 ∷ 0 ∷ 0 ∷ 0 ∷ 1 ∷ 16 ∷ 1 ∷ 0 ∷ 5 ∷ 0 ∷ 0 ∷ 0 ∷ 24 ∷ 0 ∷ 1 ∷ 0 ∷ []) })
unfolding lines trim operands is_name parted line_of defined definitions first_fault registers register_named literal number kinds quoted comment_place loading registers_of immediate_of shift_of load_of store_of branch_of jump_and_link_of upper_number_of load_number_of load_address_of move_of jump_of zeros_of entry_statement formed bytes_of word_of words_of statement line_parts placed_line placed ended address address_of lacks distance content laid section_bytes program_entry meaning assembled encoded encoding
reads_sections = refl

-- 'a: nop\na: bad\n'
pub reads_twice : assembled (97 ∷ 58 ∷ 32 ∷ 110 ∷ 111 ∷ 112 ∷ 10 ∷ 97 ∷ 58 ∷ 32 ∷ 98 ∷ 97 ∷ 100 ∷ 10 ∷ []) ≡ Err (fault.Line 2 cause.Twice)
unfolding lines trim operands is_name parted line_of defined definitions first_fault registers register_named literal number kinds quoted comment_place loading registers_of immediate_of shift_of load_of store_of branch_of jump_and_link_of upper_number_of load_number_of load_address_of move_of jump_of zeros_of entry_statement formed bytes_of word_of words_of statement line_parts placed_line placed ended address address_of lacks distance content laid section_bytes program_entry meaning assembled encoded encoding
reads_twice = refl

-- 'nop\naddi a0, a1\n'
pub reads_operand : assembled (110 ∷ 111 ∷ 112 ∷ 10 ∷ 97 ∷ 100 ∷ 100 ∷ 105 ∷ 32 ∷ 97 ∷ 48 ∷ 44 ∷ 32 ∷ 97 ∷ 49 ∷ 10 ∷ []) ≡ Err (fault.Line 2 cause.Operand)
unfolding lines trim operands is_name parted line_of defined definitions first_fault registers register_named literal number kinds quoted comment_place loading registers_of immediate_of shift_of load_of store_of branch_of jump_and_link_of upper_number_of load_number_of load_address_of move_of jump_of zeros_of entry_statement formed bytes_of word_of words_of statement line_parts placed_line placed ended address address_of lacks distance content laid section_bytes program_entry meaning assembled encoded encoding
reads_operand = refl

-- '.data\naddi a0, a1, 5000\n'
pub reads_operand_first : assembled (46 ∷ 100 ∷ 97 ∷ 116 ∷ 97 ∷ 10 ∷ 97 ∷ 100 ∷ 100 ∷ 105 ∷ 32 ∷ 97 ∷ 48 ∷ 44 ∷ 32 ∷ 97 ∷ 49 ∷ 44 ∷ 32 ∷ 53 ∷ 48 ∷ 48 ∷ 48 ∷ 10 ∷ []) ≡ Err (fault.Line 2 cause.Operand)
unfolding lines trim operands is_name parted line_of defined definitions first_fault registers register_named literal number kinds quoted comment_place loading registers_of immediate_of shift_of load_of store_of branch_of jump_and_link_of upper_number_of load_number_of load_address_of move_of jump_of zeros_of entry_statement formed bytes_of word_of words_of statement line_parts placed_line placed ended address address_of lacks distance content laid section_bytes program_entry meaning assembled encoded encoding
reads_operand_first = refl

-- 'nop\nj nowhere\n'
pub reads_label : assembled (110 ∷ 111 ∷ 112 ∷ 10 ∷ 106 ∷ 32 ∷ 110 ∷ 111 ∷ 119 ∷ 104 ∷ 101 ∷ 114 ∷ 101 ∷ 10 ∷ []) ≡ Err (fault.Line 2 cause.Label)
unfolding lines trim operands is_name parted line_of defined definitions first_fault registers register_named literal number kinds quoted comment_place loading registers_of immediate_of shift_of load_of store_of branch_of jump_and_link_of upper_number_of load_number_of load_address_of move_of jump_of zeros_of entry_statement formed bytes_of word_of words_of statement line_parts placed_line placed ended address address_of lacks distance content laid section_bytes program_entry meaning assembled encoded encoding
reads_label = refl

-- 'nop\n.word nowhere, 99999999999\n'
pub reads_label_first : assembled (110 ∷ 111 ∷ 112 ∷ 10 ∷ 46 ∷ 119 ∷ 111 ∷ 114 ∷ 100 ∷ 32 ∷ 110 ∷ 111 ∷ 119 ∷ 104 ∷ 101 ∷ 114 ∷ 101 ∷ 44 ∷ 32 ∷ 57 ∷ 57 ∷ 57 ∷ 57 ∷ 57 ∷ 57 ∷ 57 ∷ 57 ∷ 57 ∷ 57 ∷ 57 ∷ 10 ∷ []) ≡ Err (fault.Line 2 cause.Label)
unfolding lines trim operands is_name parted line_of defined definitions first_fault registers register_named literal number kinds quoted comment_place loading registers_of immediate_of shift_of load_of store_of branch_of jump_and_link_of upper_number_of load_number_of load_address_of move_of jump_of zeros_of entry_statement formed bytes_of word_of words_of statement line_parts placed_line placed ended address address_of lacks distance content laid section_bytes program_entry meaning assembled encoded encoding
reads_label_first = refl

-- 'nop\naddi x1, x31, 2048\n'
pub reads_range_off : assembled (110 ∷ 111 ∷ 112 ∷ 10 ∷ 97 ∷ 100 ∷ 100 ∷ 105 ∷ 32 ∷ 120 ∷ 49 ∷ 44 ∷ 32 ∷ 120 ∷ 51 ∷ 49 ∷ 44 ∷ 32 ∷ 50 ∷ 48 ∷ 52 ∷ 56 ∷ 10 ∷ []) ≡ Err (fault.Line 2 cause.Range)
unfolding lines trim operands is_name parted line_of defined definitions first_fault registers register_named literal number kinds quoted comment_place loading registers_of immediate_of shift_of load_of store_of branch_of jump_and_link_of upper_number_of load_number_of load_address_of move_of jump_of zeros_of entry_statement formed bytes_of word_of words_of statement line_parts placed_line placed ended address address_of lacks distance content laid section_bytes program_entry meaning assembled encoded encoding
reads_range_off = refl

-- 'nop\nj b\n.byte 1\nb: .byte 1\n'
pub reads_odd : assembled (110 ∷ 111 ∷ 112 ∷ 10 ∷ 106 ∷ 32 ∷ 98 ∷ 10 ∷ 46 ∷ 98 ∷ 121 ∷ 116 ∷ 101 ∷ 32 ∷ 49 ∷ 10 ∷ 98 ∷ 58 ∷ 32 ∷ 46 ∷ 98 ∷ 121 ∷ 116 ∷ 101 ∷ 32 ∷ 49 ∷ 10 ∷ []) ≡ Err (fault.Line 2 cause.Range)
unfolding lines trim operands is_name parted line_of defined definitions first_fault registers register_named literal number kinds quoted comment_place loading registers_of immediate_of shift_of load_of store_of branch_of jump_and_link_of upper_number_of load_number_of load_address_of move_of jump_of zeros_of entry_statement formed bytes_of word_of words_of statement line_parts placed_line placed ended address address_of lacks distance content laid section_bytes program_entry meaning assembled encoded encoding
reads_odd = refl

-- ''
pub reads_nothing : assembled ([]) ≡ Err (fault.Line 1 cause.Range)
unfolding lines trim operands is_name parted line_of defined definitions first_fault registers register_named literal number kinds quoted comment_place loading registers_of immediate_of shift_of load_of store_of branch_of jump_and_link_of upper_number_of load_number_of load_address_of move_of jump_of zeros_of entry_statement formed bytes_of word_of words_of statement line_parts placed_line placed ended address address_of lacks distance content laid section_bytes program_entry meaning assembled encoded encoding
reads_nothing = refl

-- '.byte 1,2,3\n'
pub reads_short : assembled (46 ∷ 98 ∷ 121 ∷ 116 ∷ 101 ∷ 32 ∷ 49 ∷ 44 ∷ 50 ∷ 44 ∷ 51 ∷ 10 ∷ []) ≡ Err (fault.Line 1 cause.Range)
unfolding lines trim operands is_name parted line_of defined definitions first_fault registers register_named literal number kinds quoted comment_place loading registers_of immediate_of shift_of load_of store_of branch_of jump_and_link_of upper_number_of load_number_of load_address_of move_of jump_of zeros_of entry_statement formed bytes_of word_of words_of statement line_parts placed_line placed ended address address_of lacks distance content laid section_bytes program_entry meaning assembled encoded encoding
reads_short = refl

-- 'nop\n.entry a\n.byte 0\na: nop\n.entry b\n.data\nb: .zero 4\n'
pub reads_entry : assembled (110 ∷ 111 ∷ 112 ∷ 10 ∷ 46 ∷ 101 ∷ 110 ∷ 116 ∷ 114 ∷ 121 ∷ 32 ∷ 97 ∷ 10 ∷ 46 ∷ 98 ∷ 121 ∷ 116 ∷ 101 ∷ 32 ∷ 48 ∷ 10 ∷ 97 ∷ 58 ∷ 32 ∷ 110 ∷ 111 ∷ 112 ∷ 10 ∷ 46 ∷ 101 ∷ 110 ∷ 116 ∷ 114 ∷ 121 ∷ 32 ∷ 98 ∷ 10 ∷ 46 ∷ 100 ∷ 97 ∷ 116 ∷ 97 ∷ 10 ∷ 98 ∷ 58 ∷ 32 ∷ 46 ∷ 122 ∷ 101 ∷ 114 ∷ 111 ∷ 32 ∷ 52 ∷ 10 ∷ []) ≡ Err (fault.Line 5 cause.Label)
unfolding lines trim operands is_name parted line_of defined definitions first_fault registers register_named literal number kinds quoted comment_place loading registers_of immediate_of shift_of load_of store_of branch_of jump_and_link_of upper_number_of load_number_of load_address_of move_of jump_of zeros_of entry_statement formed bytes_of word_of words_of statement line_parts placed_line placed ended address address_of lacks distance content laid section_bytes program_entry meaning assembled encoded encoding
reads_entry = refl

-- 'nop\n.zero 1048576\n'
pub reads_long : assembled (110 ∷ 111 ∷ 112 ∷ 10 ∷ 46 ∷ 122 ∷ 101 ∷ 114 ∷ 111 ∷ 32 ∷ 49 ∷ 48 ∷ 52 ∷ 56 ∷ 53 ∷ 55 ∷ 54 ∷ 10 ∷ []) ≡ Err (fault.Line 2 cause.Range)
unfolding lines trim operands is_name parted line_of defined definitions first_fault registers register_named literal number kinds quoted comment_place loading registers_of immediate_of shift_of load_of store_of branch_of jump_and_link_of upper_number_of load_number_of load_address_of move_of jump_of zeros_of entry_statement formed bytes_of word_of words_of statement line_parts placed_line placed ended address address_of lacks distance content laid section_bytes program_entry meaning assembled encoded encoding
reads_long = refl

-- 'lw t0, -4(sp)\nsw s11, 0x7ff(t6)\njalr ra, 0(a0)\nsrai x1,x2,31\nlui t0, 0xFFFFF\nfence\nsub a0,a1,a2\nbgeu a0,a1,q\nq:jal ra, q'
pub reads_memory : assembled (108 ∷ 119 ∷ 32 ∷ 116 ∷ 48 ∷ 44 ∷ 32 ∷ 45 ∷ 52 ∷ 40 ∷ 115 ∷ 112 ∷ 41 ∷ 10 ∷ 115 ∷ 119 ∷ 32 ∷ 115 ∷ 49 ∷ 49 ∷ 44 ∷ 32 ∷ 48 ∷ 120 ∷ 55 ∷ 102 ∷ 102 ∷ 40 ∷ 116 ∷ 54 ∷ 41 ∷ 10 ∷ 106 ∷ 97 ∷ 108 ∷ 114 ∷ 32 ∷ 114 ∷ 97 ∷ 44 ∷ 32 ∷ 48 ∷ 40 ∷ 97 ∷ 48 ∷ 41 ∷ 10 ∷ 115 ∷ 114 ∷ 97 ∷ 105 ∷ 32 ∷ 120 ∷ 49 ∷ 44 ∷ 120 ∷ 50 ∷ 44 ∷ 51 ∷ 49 ∷ 10 ∷ 108 ∷ 117 ∷ 105 ∷ 32 ∷ 116 ∷ 48 ∷ 44 ∷ 32 ∷ 48 ∷ 120 ∷ 70 ∷ 70 ∷ 70 ∷ 70 ∷ 70 ∷ 10 ∷ 102 ∷ 101 ∷ 110 ∷ 99 ∷ 101 ∷ 10 ∷ 115 ∷ 117 ∷ 98 ∷ 32 ∷ 97 ∷ 48 ∷ 44 ∷ 97 ∷ 49 ∷ 44 ∷ 97 ∷ 50 ∷ 10 ∷ 98 ∷ 103 ∷ 101 ∷ 117 ∷ 32 ∷ 97 ∷ 48 ∷ 44 ∷ 97 ∷ 49 ∷ 44 ∷ 113 ∷ 10 ∷ 113 ∷ 58 ∷ 106 ∷ 97 ∷ 108 ∷ 32 ∷ 114 ∷ 97 ∷ 44 ∷ 32 ∷ 113 ∷ []) ≡ Ok (record { entry = 65536; ranges = text_range (131 ∷ 34 ∷ 193 ∷ 255 ∷ 163 ∷ 175 ∷ 191 ∷ 127 ∷ 231 ∷ 0 ∷ 5 ∷ 0 ∷ 147 ∷ 80 ∷ 241 ∷ 65 ∷ 183 ∷ 242 ∷ 255 ∷ 255 ∷ 15 ∷ 0 ∷ 240 ∷ 15 ∷ 51 ∷ 133 ∷ 197 ∷ 64 ∷ 99 ∷ 114 ∷ 181 ∷ 0 ∷ 239 ∷ 0 ∷ 0 ∷ 0 ∷ []) ∷ data_ranges 36 ([]) })
unfolding lines trim operands is_name parted line_of defined definitions first_fault registers register_named literal number kinds quoted comment_place loading registers_of immediate_of shift_of load_of store_of branch_of jump_and_link_of upper_number_of load_number_of load_address_of move_of jump_of zeros_of entry_statement formed bytes_of word_of words_of statement line_parts placed_line placed ended address address_of lacks distance content laid section_bytes program_entry meaning assembled encoded encoding
reads_memory = refl
