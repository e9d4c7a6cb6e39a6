-- The calls that the registers spell, and the machine after each.
use Rattle.std.proofs.Common.{◌≡◌, ◌≢◌, ℕ, ◌+◌, ◌^◌, ◌<◌, true, List, length, refl, ap, ◌∙◌, arith}
use Rattle.std.specs.Prelude.{ℤ, min, slice_index, slice_set}
use Rattle.std.specs.Int.{w32, cast_unsigned}
use Rattle.std.proofs.lemmas.List.{get_or-set_same, get_or-set_other, length-set}
use Rattle.nv_calls.specs.Numbers.{syscall_of}
use Rattle.nv_memory.specs.declared.region.Right.TheVariants.{Read}
use Rattle.nv_memory.specs.Bytes.{bytes_at}
use Rattle.nv_memory.specs.Region.{holds}
use Rattle.nv_memory.specs.Image.{Image}
use Rattle.nv_machine.specs.Guest.{Machine}
use Rattle.nv_guest.specs.Calls.{call_at, with_answer, call_by, handed, memory_after}
use Rattle.nv_gen.specs.Made.{Write, Getuid}
use Rattle.nv_gen.specs.Behaviour.{request_of, exit_request}
use Rattle.nv_gen.proofs.Steps.{state, next-is}

-- 32 registers, with 0 in the first
pub record AreRegisters (x : List ℕ) : Type 0 where
  pub count : length x ≡ 32
  pub zero_first : slice_index x 0 ≡ 0

-- another register keeps its number
pub misses : (x : List ℕ) (i j v : ℕ) → j ≢ i → slice_index (slice_set x i v) j ≡ slice_index x j
misses x i j v other = get_or-set_other x i j v 0 other

pub hits : (x : List ℕ) (i v : ℕ) → i < 32 → AreRegisters x → slice_index (slice_set x i v) i ≡ v
hits x i v small are = get_or-set_same x i v 0 (let e = are.count in omega arith)

pub are-set : (x : List ℕ) (i v : ℕ) → 0 < i → AreRegisters x → AreRegisters (slice_set x i v)
are-set x i v some are = record { count = length-set x i v ∙ are.count; zero_first = misses x i 0 v (omega arith) ∙ are.zero_first }

-- the number of the call decides which call it is
call-by : (m : Machine) (tid nr : ℕ) → slice_index m.regs.x 17 ≡ nr → call_at m tid ≡ call_by (syscall_of nr) m tid (handed (syscall_of nr) m)
unfolding call_at
call-by m tid nr is = ap (λ (n : ℕ). call_by (syscall_of n) m tid (handed (syscall_of n) m)) is

-- the bytes to write stand at their address, and may be read
pub record HoldsText (memory : Image) (bytes : List ℕ) : Type 0 where
  pub few : length bytes < 2048
  pub right : holds memory.regions 65536 (length bytes) Read ≡ true
  pub there : bytes_at memory.bytes 65536 (length bytes) ≡ bytes

pub calls-write : (x : List ℕ) (pc : ℕ) (memory : Image) (bytes : List ℕ) → HoldsText memory bytes → slice_index x 10 ≡ 1 → slice_index x 11 ≡ 65536 → slice_index x 12 ≡ length bytes → slice_index x 17 ≡ 64
    → call_at (state x pc memory) 100 ≡ request_of (Write bytes)
unfolding syscall_of
calls-write x pc memory bytes text a0 a1 a2 a7 =
    let few : min (length bytes) 4096 ≡ length bytes = let h = text.few in omega arith in
    call-by (state x pc memory) 100 64 a7 ∙ rw (a7, a0, a1, a2, few, text.right, text.there) refl

pub calls-getuid : (x : List ℕ) (pc : ℕ) (memory : Image) → slice_index x 17 ≡ 174 → call_at (state x pc memory) 100 ≡ request_of Getuid
unfolding syscall_of
calls-getuid x pc memory a7 = call-by (state x pc memory) 100 174 a7 ∙ rw a7 refl

pub calls-exit : (x : List ℕ) (pc : ℕ) (memory : Image) (status : ℕ) → slice_index x 10 ≡ status → slice_index x 17 ≡ 94 → call_at (state x pc memory) 100 ≡ exit_request status
unfolding syscall_of
calls-exit x pc memory status a0 a7 = call-by (state x pc memory) 100 94 a7 ∙ rw (a7, a0) refl

pub answered-state : (x : List ℕ) (pc : ℕ) (memory : Image) (ret : ℤ) (bytes : List ℕ) (nr : ℕ) → slice_index x 17 ≡ nr → memory_after (syscall_of nr) (state x pc memory) bytes ≡ memory → pc + 4 < 2 ^ 32
    → with_answer (state x pc memory) ret bytes ≡ state (slice_set x 10 (cast_unsigned w32 ret)) (pc + 4) memory
unfolding with_answer
answered-state x pc memory ret bytes nr is kept below = rw (is, kept, next-is pc below) refl

pub keeps-write : (m : Machine) (bytes : List ℕ) → memory_after (syscall_of 64) m bytes ≡ m.memory
unfolding syscall_of
keeps-write m bytes = refl

pub keeps-getuid : (m : Machine) (bytes : List ℕ) → memory_after (syscall_of 174) m bytes ≡ m.memory
unfolding syscall_of
keeps-getuid m bytes = refl
