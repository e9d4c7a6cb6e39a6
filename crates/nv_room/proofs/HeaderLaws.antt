-- The words that seats move have cache lines of their own.
use Rattle.std.proofs.Common.{ℕ, arith}
use Rattle.nv_room.specs.Header.{HasOwnLines}

pub own_lines : (n : ℕ) → HasOwnLines n
own_lines n = record { owner = omega arith; head = λ s. omega arith; cursors = λ s t l. omega arith; last = λ s l. omega arith }
