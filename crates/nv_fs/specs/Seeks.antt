-- _llseek(2).
use Rattle.std.specs.Prelude.{◌≡◌, ℕ, pos, ◌+◌, ◌-◌, ◌*◌, min, ◌==◌, nat_lt, List, Option, Some, None, length, if◌then◌else◌}
use Rattle.std.specs.Int.{to_le_bytes, w64}
use Rattle.nv_fs.specs.declared.open_file.OpenFile.{OpenFile}
use Rattle.nv_fs.specs.declared.open_file.Target.{Target}
use Rattle.nv_fs.specs.declared.open_file.Target.TheVariants.{File}
use Rattle.nv_calls.specs.Answer.{Answer, answer, only}
use Rattle.nv_calls.specs.Errors.{EBADF, EINVAL, ESPIPE}
use Rattle.nv_fs.specs.States.{FileState, file_at, open_of, moved_to}

-- the bytes of a file
abbrev pub bytes_of : FileState → ℕ → List ℕ
bytes_of s i = (file_at s i).bytes

-- A number of 64 bits in two's complement, added to a base: from 2^63 on it stands for that number less 2^64. None where the sum is negative.
abbrev pub plus_signed : ℕ → ℕ → Option ℕ
plus_signed base n =
    if nat_lt n 9223372036854775808 then Some (base + n)
    else (if nat_lt base (18446744073709551616 - n) then None else Some (base - (18446744073709551616 - n)))

-- SEEK_SET, SEEK_CUR and SEEK_END (lseek(2)); None for another
abbrev pub base_of : FileState → OpenFile → ℕ → ℕ → Option ℕ
base_of s o i whence =
    if whence == 0 then Some 0
    else (if whence == 1 then Some o.offset else (if whence == 2 then Some (length (bytes_of s i)) else None))

-- the offset that is reached, at most 2^31 - 1
abbrev pub seek_to : FileState → ℕ → OpenFile → Option ℕ → Answer FileState
seek_to s number o None = only s EINVAL
seek_to s number o (Some offset) =
    if nat_lt 2147483647 offset then only s EINVAL else answer (moved_to s number o offset) (pos 0) (to_le_bytes w64 offset)

abbrev pub seek_from : FileState → ℕ → OpenFile → Option ℕ → ℕ → Answer FileState
seek_from s number o None n = only s EINVAL
seek_from s number o (Some base) n = seek_to s number o (plus_signed base n)

abbrev pub seek_target : FileState → ℕ → OpenFile → Target → ℕ → ℕ → Answer FileState
seek_target s number o (File i) n whence = seek_from s number o (base_of s o i whence) n
seek_target s number o _ n whence = only s ESPIPE

abbrev pub seek_open : FileState → Option (ℕ × OpenFile) → ℕ → ℕ → Answer FileState
seek_open s None n whence = only s EBADF
seek_open s (Some o) n whence = seek_target s o.0 o.1 o.1.target n whence

-- _llseek(2): the open file's offset moves, and its 8 bytes are handed out
unfoldable pub seek_of : FileState → ℕ → ℕ → ℕ → ℕ → Answer FileState
seek_of s fd high low whence = seek_open s (open_of s fd) (high * 4294967296 + low) whence

-- a sum of 64 bits is the sum, or both are too large
abbrev pub SumIs : Option ℕ → Option ℕ → Type 0
SumIs None o = o ≡ None
SumIs (Some x) o = (n : ℕ) × (o ≡ Some n) × (x ≡ min n 18446744073709551615)
