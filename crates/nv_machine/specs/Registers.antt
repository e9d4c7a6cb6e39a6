-- The registers, the program counter and the reservation.
use Rattle.std.specs.Prelude.{ℕ, List, Option, None, ◌==◌, replicate, slice_set, if◌then◌else◌}

pub record Registers : Type 0 where
  pub x : List ℕ
  pub pc : ℕ
  -- the address that the thread has reserved (section 8.2 of the manual)
  pub reserved : Option ℕ

-- the registers after a write; register 0 stays as it is
abbrev pub written : List ℕ → ℕ → ℕ → List ℕ
written x n v = if n == 0 then x else slice_set x n v

-- all registers are 0, and nothing is reserved
abbrev pub fresh_registers : ℕ → Registers
fresh_registers pc = record { x = replicate 32 0; pc = pc; reserved = None }
