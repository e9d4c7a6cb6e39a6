-- A guest with several threads, which share its memory.
use Rattle.std.specs.Prelude.{ℕ, zero, suc, ◌+◌, ◌-◌, ◌/◌, ◌%◌, ℤ, ◌==◌, ◌&&◌, nat_le, Bool, true, false, List, [], ◌∷◌, ◌++◌, length, map, None, if◌then◌else◌}
use Rattle.nv_memory.specs.declared.region.Region.{Region}
use Rattle.nv_memory.specs.Region.{set_end}
use Rattle.nv_memory.specs.Image.{Image, cut}
use Rattle.nv_machine.specs.Registers.{Registers, fresh_registers, written}
use Rattle.nv_machine.specs.declared.outcome.Stepped.{Stepped}
use Rattle.nv_machine.specs.declared.outcome.Stepped.TheVariants.{On, Call, Fault}
use Rattle.nv_machine.specs.Guest.{Machine, register, guest_step}
use Rattle.nv_guest.specs.Calls.{past_call, with_answer}
use Rattle.nv_guest.specs.declared.guest.Thread.{Thread}
use Rattle.nv_guest.specs.declared.outcome.Asked.{Asked}
use Rattle.nv_guest.specs.declared.outcome.Asked.TheVariants.{Local, Logged}

-- the threads that live, in the order in which they came, and the memory
pub record Threaded : Type 0 where
  pub threads : List Thread
  pub memory : Image

abbrev pub tid_of : Thread → ℕ
tid_of t = t.tid

abbrev pub tids : List Thread → List ℕ
tids threads = map tid_of threads

-- where a thread stands in the list; the length where it doesn't live
abbrev pub thread_place : List Thread → ℕ → ℕ
thread_place [] tid = 0
thread_place (t ∷ ts) tid = if t.tid == tid then 0 else suc (thread_place ts tid)

-- the registers of a thread
abbrev pub regs_at : List Thread → ℕ → Registers
regs_at [] tid = fresh_registers 0
regs_at (t ∷ ts) tid = if t.tid == tid then t.regs else regs_at ts tid

-- the threads with other registers for one
abbrev pub with_regs : List Thread → ℕ → Registers → List Thread
with_regs [] tid regs = []
with_regs (t ∷ ts) tid regs = if t.tid == tid then record t { regs = regs } ∷ ts else t ∷ with_regs ts tid regs

-- a thread with the memory, as the machine that runs it
abbrev pub machine_at : Threaded → ℕ → Machine
machine_at g tid = record { regs = regs_at g.threads tid; memory = g.memory }

-- the guest once a thread's machine has become this one
abbrev pub with_machine : Threaded → ℕ → Machine → Threaded
with_machine g tid m = record { threads = with_regs g.threads tid m.regs; memory = m.memory }

-- whether a call is the process's own
abbrev pub asked_as : Bool → Asked
asked_as true = Local
asked_as false = Logged

-- ---- running

-- how many instructions were run, how that ended, and the machine at that point
abbrev pub MachineRan : Type 0
MachineRan = ℕ × Stepped × Machine

abbrev pub more : ℕ → MachineRan → MachineRan
more n r = (n + r.0, r.1, r.2)

abbrev pub unless_stopped : (Machine → MachineRan) → Stepped × Machine → MachineRan
unless_stopped run (On, m) = more 1 (run m)
unless_stopped run (Call, m) = (1, Call, m)
unless_stopped run (Fault kind, m) = (1, Fault kind, m)

-- at most so many instructions, up to the first that ends in a call or a fault
unfoldable pub run : ℕ → Machine → MachineRan
run zero m = (0, On, m)
run (suc most) m = unless_stopped (run most) (guest_step m)

-- ---- answers, and the threads that come and go

-- the guest once a thread has this result and these bytes as the answer to its call
abbrev pub answered_at : Threaded → ℕ → ℤ → List ℕ → Threaded
answered_at g tid ret bytes = with_machine g tid (with_answer (machine_at g tid) ret bytes)

-- clone(2): the stack and, with CLONE_SETTLS (0x80000), the thread's pointer of a new thread are those that its parent gave in a1 and a3
abbrev pub with_stack : ℕ → List ℕ → List ℕ
with_stack stack x = if stack == 0 then x else written x 2 stack

abbrev pub with_pointer : ℕ → ℕ → List ℕ → List ℕ
with_pointer flags pointer x = if (flags / 0x80000) % 2 == 1 then written x 4 pointer else x

-- a new thread goes on after its parent's call, with the result 0 and without a reservation
unfoldable pub child_regs : Registers → Registers
child_regs regs = record (past_call regs 0) { x = with_pointer (register regs 10) (register regs 13) (with_stack (register regs 11) (past_call regs 0).x); reserved = None }

abbrev pub child_thread : List Thread → ℕ → ℕ → Thread
child_thread threads tid child = record { tid = child; regs = child_regs (regs_at threads tid) }

abbrev pub cloned : Threaded → ℕ → ℕ → Threaded
cloned g tid child = record g { threads = g.threads ++ child_thread g.threads tid child ∷ [] }

abbrev pub dropped : List Thread → ℕ → List Thread
dropped [] tid = []
dropped (t ∷ ts) tid = if t.tid == tid then ts else t ∷ dropped ts tid

abbrev pub without : Threaded → ℕ → Threaded
without g tid = record g { threads = dropped g.threads tid }

-- ---- reservations

abbrev pub unreserved : Thread → Thread
unreserved t = record t { regs = record t.regs { reserved = None } }

-- the threads once each reservation has ended
abbrev pub unreserved_each : List Thread → List Thread
unreserved_each [] = []
unreserved_each (t ∷ ts) = unreserved t ∷ unreserved_each ts

abbrev pub released : Threaded → Threaded
released g = record g { threads = unreserved_each g.threads }

-- ---- the heap (brk(2))

-- the last region, which is the heap
abbrev pub last_region : List Region → Region
last_region [] = record { start = 0; end = 0; read = true; write = true; execute = false }
last_region (r ∷ []) = r
last_region (r ∷ s ∷ rs) = last_region (s ∷ rs)

-- the heap may end anywhere from its start to the stack's, which is 65536 bytes below the end of the memory
abbrev pub is_break : Image → ℕ → Bool
is_break memory address = nat_le (last_region memory.regions).start address && nat_le address (length memory.bytes - 65536)

-- the break after a request to move it
abbrev pub break_after : Image → ℕ → ℕ
break_after memory address = if is_break memory address then address else (last_region memory.regions).end

-- the memory with the break there; bytes that leave the heap become 0
unfoldable pub with_break : Image → ℕ → Image
with_break memory end = record { bytes = cut memory.bytes (last_region memory.regions).end end; regions = set_end memory.regions (length memory.regions - 1) end }
