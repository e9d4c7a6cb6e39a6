-- The call and the answer as wholes.
use Rattle.std.proofs.Common.{◌≡◌, ℕ, ℤ, List, ap, ◌∙◌}
use Rattle.std.specs.Int.{w32, cast_unsigned}
use Rattle.nv_calls.specs.declared.numbers.Syscall.{Syscall}
use Rattle.nv_calls.specs.Calls.{Request}
use Rattle.nv_calls.specs.Numbers.{syscall_of}
use Rattle.nv_machine.specs.Guest.{Machine}
use Rattle.nv_machine.specs.Registers.{Registers}
use Rattle.nv_memory.specs.Image.{Image}
use Rattle.nv_guest.specs.Guest.{machine_with}
use Rattle.nv_guest.specs.Calls.{call_number, values_with, Handed, handed, call_by, call_at, memory_after, past_call, with_answer}

abbrev pub filled : ℕ → ℕ → List ℕ → Handed → Request
filled tid nr args h = record { tid = tid; nr = nr; args = args; bad = h.bad; payload = h.payload }

pub call-is : (m : Machine) (tid nr : ℕ) (k : Syscall) (args : List ℕ) (h : Handed) → nr ≡ call_number m → k ≡ syscall_of nr → h ≡ handed k m → args ≡ values_with k m h.capacity
    → filled tid nr args h ≡ call_at m tid
unfolding call_at
call-is m tid nr k args h n s is a =
    ap (λ xs. filled tid nr xs h) a ∙ ap (λ x. filled tid x (values_with k m h.capacity) h) n
    ∙ ap (λ x. call_by k m tid x) is ∙ ap (λ j. call_by j m tid (handed j m)) (s ∙ ap syscall_of n)

pub answered-is : (m : Machine) (regs : Registers) (memory : Image) (ret : ℤ) (result : ℕ) (bytes : List ℕ) (nr : ℕ) (k : Syscall) → result ≡ cast_unsigned w32 ret → nr ≡ call_number m → k ≡ syscall_of nr
    → memory ≡ memory_after k m bytes → regs ≡ past_call m.regs result → machine_with regs memory ≡ with_answer m ret bytes
unfolding with_answer
answered-is m regs memory ret result bytes nr k r n s stored gone =
    ap (λ x. machine_with x memory) (gone ∙ ap (past_call m.regs) r)
    ∙ ap (λ x. machine_with (past_call m.regs (cast_unsigned w32 ret)) x) (stored ∙ ap (λ j. memory_after j m bytes) (s ∙ ap syscall_of n))
