-- What the kernel answers, by Linux's numbers (syscalls(2), errno(3)), and what each call leaves.
use Rattle.std.specs.Prelude.{ℕ, zero, suc, ℤ, pos, ◌+◌, ◌*◌, ◌-◌, ◌/◌, ◌%◌, ◌^◌, min, max, nat_lt, List, [], ◌∷◌, ◌++◌, map, Some, slice_index, if◌then◌else◌}
use Rattle.std.specs.Int.{cast_signed, to_le_bytes, w32, w64}
use Rattle.nv_calls.specs.declared.numbers.Syscall.{Syscall}
use Rattle.nv_calls.specs.declared.numbers.Syscall.TheVariants.{Getcwd, Dup, Dup3, Ioctl, Unlinkat, Openat, Close, Pipe2, Llseek, Read, Write, Readv, Writev, Exit, ExitGroup, Uname, Getpid, Getppid, Getuid, Geteuid, Getgid, Getegid, Clone, Getrandom, ClockGettime64}
use Rattle.nv_calls.specs.Answer.{Answer, answer, only, start_at}
use Rattle.nv_calls.specs.Calls.{Request, Response}
use Rattle.nv_calls.specs.Constants.{directory, system, process, parent, user}
use Rattle.nv_calls.specs.Errors.{EBADF, EFAULT, EINVAL, ENOTTY, ENOSYS}
use Rattle.nv_calls.specs.Limits.{MOST_BYTES, MOST_VECTORS}
use Rattle.nv_calls.specs.Logs.{Start}
use Rattle.nv_calls.specs.Numbers.{syscall_of}
use Rattle.nv_fs.specs.States.{Inode, FileState, is_open}
use Rattle.nv_fs.specs.Starts as begun
use Rattle.nv_fs.specs.Closes.{close_of, dup_of, dup3_of}
use Rattle.nv_fs.specs.Ends.{pipe_of}
use Rattle.nv_fs.specs.Fetched.{read_of}
use Rattle.nv_fs.specs.Opened.{open_at_of, unlink_at_of}
use Rattle.nv_fs.specs.Seeks.{seek_of}
use Rattle.nv_fs.specs.Stored.{write_of}
use Rattle.nv_script.specs.Scripts.{Named, Setup}
use Rattle.nv_kernel.specs.Crew.{Crew, first_crew, clone_of, exit_of, with_none_live}

-- ---- what the kernel holds

-- The files; the threads that live; how many calls were served; the clock at the first call and how far each call moves it, in nanoseconds; the generator's state.
pub record State : Type 0 where
  pub files : FileState
  pub crew : Crew
  pub served : ℕ
  pub start : ℕ
  pub step : ℕ
  pub random : ℕ

-- a reply that every state has, which leaves all as it is
abbrev pub always : State → Response → Answer State
always s reply = answer s reply.ret reply.payload

-- what the files answer and become
abbrev pub of_files : State → Answer FileState → Answer State
of_files s a = answer (record s { files = a.state }) a.ret a.payload

-- what the threads that live answer and become
abbrev pub of_crew : State → ℤ × Crew → Answer State
of_crew s a = only (record s { crew = a.1 }) a.0

abbrev pub counted : Answer State → Answer State
counted a = record a { state = record a.state { served = a.state.served + 1 } }

abbrev pub request_arg : Request → ℕ → ℕ
request_arg c i = slice_index c.args i

-- ---- the clock (clock_gettime(2))

unfoldable pub second : ℕ
second = 1000000000

-- seconds, and the nanoseconds after them, in 8 bytes each
unfoldable pub time_bytes : ℕ → List ℕ
time_bytes nanos = to_le_bytes w64 (nanos / second) ++ to_le_bytes w64 (nanos % second)

-- what the clock shows
abbrev pub time_of : State → ℕ
time_of s = s.start + s.served * s.step

-- what the kernel holds once it is at least so late; the clock never goes back
abbrev pub reached : State → ℕ → State
reached s nanos = record s { start = max s.start (nanos - s.served * s.step) }

-- ---- random numbers (getrandom(2)): a linear congruential generator, whose highest bytes are handed out

unfoldable pub next_random : ℕ → ℕ
next_random x = (x * 0x5851F42D4C957F2D + 0x14057B7EF767814F) % 2 ^ 64

unfoldable pub high_byte : ℕ → ℕ
high_byte x = x / 2 ^ 56

-- so many bytes after a state
abbrev pub randoms : ℕ → ℕ → List ℕ
randoms zero x = []
randoms (suc n) x = high_byte (next_random x) ∷ randoms n (next_random x)

-- the state after so many bytes
abbrev pub random_after : ℕ → ℕ → ℕ
random_after zero x = x
random_after (suc n) x = random_after n (next_random x)

abbrev pub randomly : State → ℕ → Answer State
randomly s n = answer (record s { random = random_after n s.random }) (pos n) (randoms n s.random)

-- ---- the calls

-- ioctl(2): no open file is a terminal
abbrev pub control : State → ℕ → Answer State
control s fd = if is_open s.files fd then only s ENOTTY else only s EBADF

-- readv(2) and writev(2) of no more vectors than are read
abbrev pub unless_many : State → ℕ → Answer State → Answer State
unless_many s count a = if nat_lt MOST_VECTORS count then only s EINVAL else a

-- clock_gettime(2): 0 is CLOCK_REALTIME and 1 CLOCK_MONOTONIC
abbrev pub clock : State → ℕ → Answer State
clock s id = if nat_lt 1 id then only s EINVAL else answer s (pos 0) (time_bytes (time_of s))

abbrev pub answered : Syscall → State → Request → Answer State
answered Getcwd s c = always s (directory (request_arg c 1))
answered Dup s c = of_files s (dup_of s.files (request_arg c 0))
answered Dup3 s c = of_files s (dup3_of s.files (request_arg c 0) (request_arg c 1) (request_arg c 2))
answered Ioctl s c = control s (request_arg c 0)
answered Unlinkat s c = of_files s (unlink_at_of s.files (cast_signed w32 (request_arg c 0)) c.payload (request_arg c 2))
answered Openat s c = of_files s (open_at_of s.files (cast_signed w32 (request_arg c 0)) c.payload (request_arg c 2))
answered Close s c = of_files s (close_of s.files (request_arg c 0))
answered Pipe2 s c = of_files s (pipe_of s.files (request_arg c 1))
answered Llseek s c = of_files s (seek_of s.files (request_arg c 0) (request_arg c 1) (request_arg c 2) (request_arg c 4))
answered Read s c = of_files s (read_of s.files (request_arg c 0) (request_arg c 2))
answered Write s c = of_files s (write_of s.files (request_arg c 0) c.payload)
answered Readv s c = unless_many s (request_arg c 2) (of_files s (read_of s.files (request_arg c 0) (request_arg c 3)))
answered Writev s c = unless_many s (request_arg c 2) (of_files s (write_of s.files (request_arg c 0) c.payload))
answered Exit s c = of_crew s (pos 0, exit_of s.crew c.tid)
answered ExitGroup s c = of_crew s (pos 0, with_none_live s.crew)
answered Clone s c = of_crew s (clone_of s.crew (request_arg c 0))
answered Uname s c = always s system
answered Getpid s c = always s process
answered Getppid s c = always s parent
answered Getuid s c = always s user
answered Geteuid s c = always s user
answered Getgid s c = always s user
answered Getegid s c = always s user
answered Getrandom s c = randomly s (min (request_arg c 1) MOST_BYTES)
answered ClockGettime64 s c = clock s (request_arg c 0)
answered _ s c = only s ENOSYS

-- a call on memory that isn't the guest's answers EFAULT before every other check
abbrev pub unless_bad : State → Request → Answer State
unless_bad s c = if c.bad then only s EFAULT else answered (syscall_of c.nr) s c

-- what a call answers, and what it leaves
unfoldable pub serve : State → Request → Answer State
serve s c = counted (unless_bad s c)

-- ---- from call to call

abbrev pub named_inode : Named → Inode
named_inode file = record { name = Some file.0; bytes = file.1 }

-- what a script gives: the input, the files, the clock and the generator's first state
abbrev pub first_state : Setup → State
first_state setup = record {
  files = begun.first_state setup.polls setup.input (map named_inode setup.files);
  crew = first_crew;
  served = 0;
  start = setup.seconds * second + setup.nanos;
  step = setup.step;
  random = setup.seed;
}

-- how the kernel goes on from what a script gives; it serves no connection
unfoldable pub start_of_script : Setup → Start
start_of_script setup = start_at serve (λ (s : State). s.files.console) (λ (s : State). []) (first_state setup)
