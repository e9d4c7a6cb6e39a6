-- The argument block at the top of a guest's memory: RISC-V ELF psABI and System V ABI, the initial process stack.
use Rattle.std.specs.Prelude.{ℕ, ◌+◌, ◌-◌, ◌*◌, ◌/◌, List, [], ◌∷◌, ◌++◌, length, codes}
use Rattle.std.specs.List.{flat_map}
use Rattle.nv_memory.specs.Bytes.{put, little_bytes}

-- the texts, each with its 0 byte
abbrev pub strings : List (List ℕ) → List ℕ
strings [] = []
strings (t ∷ ts) = (t ++ 0 ∷ []) ++ strings ts

-- where each text starts, the first at this address
abbrev pub addresses : ℕ → List (List ℕ) → List ℕ
addresses a [] = []
addresses a (t ∷ ts) = a ∷ addresses (a + length t + 1) ts

-- words of 32 bits in little-endian order
abbrev pub words : List ℕ → List ℕ
words ns = flat_map (little_bytes 4) ns

-- argument 0 is the text `guest`
abbrev pub all_arguments : List (List ℕ) → List (List ℕ)
all_arguments arguments = codes "guest" ∷ arguments

-- the strings end at the memory's end
abbrev pub strings_start : ℕ → List (List ℕ) → ℕ
strings_start size arguments = size - length (strings arguments)

-- a multiple of 16, below the strings by a word for each argument and five more
abbrev pub stack_pointer : ℕ → List (List ℕ) → ℕ
stack_pointer size arguments = (strings_start size arguments - 4 * (length arguments + 5)) / 16 * 16

-- the number of arguments, their addresses, and 0 for the end of the arguments, the empty environment and AT_NULL
abbrev pub stack_words : ℕ → List (List ℕ) → List ℕ
stack_words start arguments = length arguments ∷ (addresses start arguments ++ 0 ∷ 0 ∷ 0 ∷ 0 ∷ [])

-- bytes with the words from one address on and the strings from another
abbrev pub with_block : List ℕ → ℕ → ℕ → List (List ℕ) → List ℕ
with_block bytes pointer start arguments = put (put bytes pointer (words (stack_words start arguments))) start (strings arguments)
