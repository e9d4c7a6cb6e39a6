-- Linux's calls for RISC-V by their numbers (syscalls(2), asm-generic/unistd.h), and which arguments of each are values.
use Rattle.std.specs.Prelude.{ℕ, ◌==◌, ◌||◌, Bool, true, false, List, [], ◌∷◌, if◌then◌else◌}
use Rattle.nv_calls.specs.declared.numbers.Syscall.{Syscall}
use Rattle.nv_calls.specs.declared.numbers.Syscall.TheVariants.{Getcwd, Dup, Dup3, Fcntl, Ioctl, Unlinkat, Openat, Close, Pipe2, Llseek, Read, Write, Readv, Writev, Exit, ExitGroup, Uname, Getpid, Getppid, Getuid, Geteuid, Getgid, Getegid, Socket, Bind, Listen, Accept, Clone, Accept4, Getrandom, ClockGettime64, ClockNanosleep, Pselect6, Ppoll, Unknown}
use Rattle.nv_calls.specs.declared.numbers.Slot.{Slot}
use Rattle.nv_calls.specs.declared.numbers.Slot.TheVariants.{Value, Address, Unused}

-- clone(2), exit(2) and exit_group(2)
abbrev pub CLONE : ℕ
CLONE = 220

abbrev pub EXIT : ℕ
EXIT = 93

abbrev pub EXIT_GROUP : ℕ
EXIT_GROUP = 94

pub record Row : Type 0 where
  pub nr : ℕ
  pub syscall : Syscall

abbrev pub row : ℕ → Syscall → Row
row nr syscall = record { nr = nr; syscall = syscall }

abbrev pub table : List Row
table =
    row 17 Getcwd ∷ row 23 Dup ∷ row 24 Dup3 ∷ row 25 Fcntl ∷ row 29 Ioctl ∷ row 35 Unlinkat ∷ row 56 Openat ∷ row 57 Close ∷ row 59 Pipe2
    ∷ row 62 Llseek ∷ row 63 Read ∷ row 64 Write ∷ row 65 Readv ∷ row 66 Writev ∷ row EXIT Exit ∷ row EXIT_GROUP ExitGroup ∷ row 160 Uname
    ∷ row 172 Getpid ∷ row 173 Getppid ∷ row 174 Getuid ∷ row 175 Geteuid ∷ row 176 Getgid ∷ row 177 Getegid ∷ row 198 Socket ∷ row 200 Bind
    ∷ row 201 Listen ∷ row 202 Accept ∷ row CLONE Clone ∷ row 242 Accept4 ∷ row 278 Getrandom ∷ row 403 ClockGettime64 ∷ row 407 ClockNanosleep
    ∷ row 413 Pselect6 ∷ row 414 Ppoll ∷ []

abbrev pub syscall_in : List Row → ℕ → Syscall
syscall_in [] nr = Unknown
syscall_in (row ∷ rows) nr = if nr == row.nr then row.syscall else syscall_in rows nr

-- the call of a number
unfoldable pub syscall_of : ℕ → Syscall
syscall_of nr = syscall_in table nr

-- what each argument of a call is, by the call's man page
abbrev pub slots_by : Syscall → List Slot
slots_by Getcwd = Address ∷ Value ∷ Unused ∷ Unused ∷ Unused ∷ Unused ∷ []
slots_by Dup = Value ∷ Unused ∷ Unused ∷ Unused ∷ Unused ∷ Unused ∷ []
slots_by Dup3 = Value ∷ Value ∷ Value ∷ Unused ∷ Unused ∷ Unused ∷ []
slots_by Fcntl = Value ∷ Value ∷ Value ∷ Unused ∷ Unused ∷ Unused ∷ []
slots_by Ioctl = Value ∷ Value ∷ Unused ∷ Unused ∷ Unused ∷ Unused ∷ []
slots_by Unlinkat = Value ∷ Address ∷ Value ∷ Unused ∷ Unused ∷ Unused ∷ []
slots_by Openat = Value ∷ Address ∷ Value ∷ Unused ∷ Unused ∷ Unused ∷ []
slots_by Close = Value ∷ Unused ∷ Unused ∷ Unused ∷ Unused ∷ Unused ∷ []
slots_by Pipe2 = Address ∷ Value ∷ Unused ∷ Unused ∷ Unused ∷ Unused ∷ []
slots_by Llseek = Value ∷ Value ∷ Value ∷ Address ∷ Value ∷ Unused ∷ []
slots_by Read = Value ∷ Address ∷ Value ∷ Unused ∷ Unused ∷ Unused ∷ []
slots_by Write = Value ∷ Address ∷ Value ∷ Unused ∷ Unused ∷ Unused ∷ []
slots_by Readv = Value ∷ Address ∷ Value ∷ Unused ∷ Unused ∷ Unused ∷ []
slots_by Writev = Value ∷ Address ∷ Value ∷ Unused ∷ Unused ∷ Unused ∷ []
slots_by Exit = Value ∷ Unused ∷ Unused ∷ Unused ∷ Unused ∷ Unused ∷ []
slots_by ExitGroup = Value ∷ Unused ∷ Unused ∷ Unused ∷ Unused ∷ Unused ∷ []
slots_by Uname = Address ∷ Unused ∷ Unused ∷ Unused ∷ Unused ∷ Unused ∷ []
slots_by Socket = Value ∷ Value ∷ Value ∷ Unused ∷ Unused ∷ Unused ∷ []
slots_by Bind = Value ∷ Address ∷ Value ∷ Unused ∷ Unused ∷ Unused ∷ []
slots_by Listen = Value ∷ Value ∷ Unused ∷ Unused ∷ Unused ∷ Unused ∷ []
slots_by Accept = Value ∷ Unused ∷ Unused ∷ Unused ∷ Unused ∷ Unused ∷ []
slots_by Accept4 = Value ∷ Unused ∷ Unused ∷ Value ∷ Unused ∷ Unused ∷ []
slots_by Clone = Value ∷ Address ∷ Unused ∷ Address ∷ Unused ∷ Unused ∷ []
slots_by Getrandom = Address ∷ Value ∷ Value ∷ Unused ∷ Unused ∷ Unused ∷ []
slots_by ClockGettime64 = Value ∷ Address ∷ Unused ∷ Unused ∷ Unused ∷ Unused ∷ []
slots_by ClockNanosleep = Value ∷ Value ∷ Address ∷ Unused ∷ Unused ∷ Unused ∷ []
slots_by Pselect6 = Value ∷ Address ∷ Address ∷ Address ∷ Address ∷ Unused ∷ []
slots_by Ppoll = Address ∷ Value ∷ Address ∷ Unused ∷ Unused ∷ Unused ∷ []
slots_by _ = Unused ∷ Unused ∷ Unused ∷ Unused ∷ Unused ∷ Unused ∷ []

-- a number that isn't in the table has six unused arguments
abbrev pub slots_of : ℕ → List Slot
slots_of nr = slots_by (syscall_of nr)

-- a call that reads or writes a range of the guest's memory
abbrev pub has_range : Syscall → Bool
has_range Getcwd = true
has_range Unlinkat = true
has_range Openat = true
has_range Pipe2 = true
has_range Llseek = true
has_range Read = true
has_range Write = true
has_range Readv = true
has_range Writev = true
has_range Uname = true
has_range Bind = true
has_range Getrandom = true
has_range ClockGettime64 = true
has_range ClockNanosleep = true
has_range Pselect6 = true
has_range Ppoll = true
has_range _ = false

-- a call that hands bytes in
abbrev pub hands_in : Syscall → Bool
hands_in Unlinkat = true
hands_in Openat = true
hands_in Write = true
hands_in Writev = true
hands_in Bind = true
hands_in ClockNanosleep = true
hands_in Pselect6 = true
hands_in Ppoll = true
hands_in _ = false

-- a call that makes or ends threads
abbrev pub is_of_threads : ℕ → Bool
is_of_threads nr = (nr == CLONE) || (nr == EXIT) || (nr == EXIT_GROUP)

-- set_tid_address (96), sched_yield (124), gettid (178), brk (214) and futex_time64 (422) are answered by the process itself and stand in no log
unfoldable pub is_local : ℕ → Bool
is_local nr = (nr == 96) || (nr == 124) || (nr == 178) || (nr == 214) || (nr == 422)

-- fcntl64 (25), clock_nanosleep_time64 (407), pselect6_time64 (413) and ppoll_time64 (414) are calls of runs over scripts of the fifth form alone: in all others they
-- aren't in the table
unfoldable pub is_later : ℕ → Bool
is_later nr = (nr == 25) || (nr == 407) || (nr == 413) || (nr == 414)
