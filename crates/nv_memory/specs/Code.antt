-- Where the code of a memory begins.
use Rattle.std.specs.Prelude.{Bool, ◌&&◌, ℕ, ◌+◌, ◌*◌, ◌%◌, ◌^◌, ◌==◌, if◌then◌else◌, List, [], ◌∷◌}
use Rattle.nv_memory.specs.declared.region.Region.{Region}

-- the region may be executed and begins at a word
abbrev pub has_code : Region → Bool
has_code r = r.execute && (r.start % 4 == 0)

-- where the first such region begins; 0 where there is none
abbrev pub code_start : List Region → ℕ
code_start [] = 0
code_start (r ∷ rs) = if has_code r then r.start else code_start rs

-- the address of the word at a place of the code, whose first word begins there; addresses have 32 bits
abbrev pub code_address : ℕ → ℕ → ℕ
code_address start place = (start + 4 * place) % 2 ^ 32
