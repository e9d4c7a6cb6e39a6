-- The memory that was taken in advance for a call, and how many bytes it hands out at most.
use Rattle.std.specs.Prelude.{ℕ, length}
use Rattle.nv_calls.specs.declared.numbers.Syscall.{Syscall}
use Rattle.nv_calls.specs.declared.numbers.Syscall.TheVariants.{Openat, Pipe2, Write, Writev}
use Rattle.nv_calls.specs.Answers.{most_out_by}
use Rattle.nv_calls.specs.Calls.{Request}
use Rattle.nv_calls.specs.Numbers.{syscall_of}
use Rattle.nv_fs.specs.Reserved.{Disk, CanOpen, CanPipe, CanWrite}
use Rattle.nv_kernel.specs.declared.crew.LiveThreads.{LiveThreads}
use Rattle.nv_kernel.specs.declared.devices.Devices.{Devices}
use Rattle.nv_kernel.specs.Crew.{Crew}
use Rattle.nv_kernel.specs.Serving.{State, request_arg}

-- the threads that live as the definitions see them
abbrev pub crew_of : LiveThreads → Crew
crew_of t = record { live = t.live.items; clones = t.clones }

-- the devices as the definitions see them
abbrev pub state_of : Devices → State
state_of d = record { files = d.files.state; crew = crew_of d.threads; served = d.served; start = d.start; step = d.step; random = d.random }

abbrev pub can_answer : Syscall → Disk → Request → Type 0
can_answer Openat d c = CanOpen d c.payload
can_answer Pipe2 d c = CanPipe d
can_answer Write d c = CanWrite d (request_arg c 0) (length c.payload)
can_answer Writev d c = CanWrite d (request_arg c 0) (length c.payload)
can_answer _ d c = Unit {0}

-- there is memory for what the call leaves
abbrev pub CanAnswer : Disk → Request → Type 0
CanAnswer d c = can_answer (syscall_of c.nr) d c

-- how many bytes a call hands out at most
abbrev pub most_out : Request → ℕ
most_out c = most_out_by (syscall_of c.nr) c.args
