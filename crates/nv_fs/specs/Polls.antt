-- What poll(2) tells of descriptors, whatever they are polled for, and what fcntl(2) tells of them.
use Rattle.std.specs.Prelude.{ℕ, ◌+◌, Bool, true, false, nat_lt, length, Option, option_map, if◌then◌else◌}
use Rattle.nv_fs.specs.declared.open_file.OpenFile.{OpenFile}
use Rattle.nv_fs.specs.declared.open_file.Target.{Target}
use Rattle.nv_fs.specs.declared.open_file.Target.TheVariants.{Input, Console, File, Reader, Writer}
use Rattle.nv_fs.specs.States.{FileState, open_of, has_open}
use Rattle.nv_fs.specs.Fetched.{pipe_at}

-- POLLIN with POLLRDNORM, POLLOUT with POLLWRNORM, POLLERR and POLLHUP
abbrev pub READABLE : ℕ
READABLE = 0x41

abbrev pub WRITABLE : ℕ
WRITABLE = 0x104

abbrev pub FAILED : ℕ
FAILED = 0x8

abbrev pub HUNG : ℕ
HUNG = 0x10

abbrev pub when : Bool → ℕ → ℕ
when b events = if b then events else 0

-- the input is polled as the end of a pipe, which has no writer once nothing more comes
abbrev pub input_events : FileState → Bool → ℕ
input_events s over = when (nat_lt 0 (length s.input)) READABLE + when over HUNG

abbrev pub reader_events : FileState → ℕ → ℕ
reader_events s k = when (nat_lt 0 (length (pipe_at s k))) READABLE + (if has_open s (Writer k) then 0 else HUNG)

-- a pipe that isn't full takes a byte
abbrev pub writer_events : FileState → ℕ → ℕ
writer_events s k = when (nat_lt (length (pipe_at s k)) 4096) WRITABLE + (if has_open s (Reader k) then 0 else FAILED)

-- the console takes all that is written, and a file can be read and written
abbrev pub target_events : FileState → Bool → Target → ℕ
target_events s over Input = input_events s over
target_events s over Console = WRITABLE
target_events s over (File i) = READABLE + WRITABLE
target_events s over (Reader k) = reader_events s k
target_events s over (Writer k) = writer_events s k

-- what may be told of a descriptor, by whether nothing more comes for the input; None where it isn't open
unfoldable pub file_events : FileState → Bool → ℕ → Option ℕ
file_events s over fd = option_map (λ o. target_events s over o.1.target) (open_of s fd)

-- ---- fcntl(2)

-- O_RDONLY (0), O_WRONLY (1) or O_RDWR (2)
abbrev pub access_of : Bool → Bool → ℕ
access_of true true = 2
access_of false true = 1
access_of reads false = 0

-- with O_APPEND (0x400)
abbrev pub flags_of : OpenFile → ℕ
flags_of o = access_of o.reads o.writes + when o.appends 0x400

-- the access mode and the flags of a descriptor; None where it isn't open
unfoldable pub file_flags : FileState → ℕ → Option ℕ
file_flags s fd = option_map (λ o. flags_of o.1) (open_of s fd)
