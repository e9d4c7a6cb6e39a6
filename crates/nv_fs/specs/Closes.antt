-- close(2), dup(2) and dup3(2).
use Rattle.std.specs.Prelude.{ℕ, pos, not, ◌||◌, ◌==◌, nat_lt, [], Option, Some, None, is_none, slice_set, if◌then◌else◌}
use Rattle.std.specs.List.{position_from}
use Rattle.nv_fs.specs.declared.open_file.OpenFile.{OpenFile}
use Rattle.nv_calls.specs.Answer.{Answer, answer, only}
use Rattle.nv_calls.specs.Errors.{EBADF, EINVAL, EMFILE}
use Rattle.nv_fs.specs.States.{FileState, open_of}

-- a descriptor names this open file from now on, or none
abbrev pub with_descriptor : FileState → ℕ → Option ℕ → FileState
with_descriptor s fd number = record s { descriptors = slice_set s.descriptors fd number }

abbrev pub close_open : FileState → ℕ → Option (ℕ × OpenFile) → Answer FileState
close_open s fd None = only s EBADF
close_open s fd (Some o) = answer (with_descriptor s fd None) (pos 0) []

-- close(2): the descriptor is free; its twins stay
unfoldable pub close_of : FileState → ℕ → Answer FileState
close_of s fd = close_open s fd (open_of s fd)

-- the least descriptor that is free
unfoldable pub free_descriptor : FileState → Option ℕ
free_descriptor s = position_from is_none 0 s.descriptors

-- a descriptor shares the open file of a number, and is the result
abbrev pub shared_at : FileState → ℕ → ℕ → Answer FileState
shared_at s fd number = answer (with_descriptor s fd (Some number)) (pos fd) []

abbrev pub share : FileState → Option ℕ → ℕ → Answer FileState
share s None number = only s EMFILE
share s (Some fd) number = shared_at s fd number

abbrev pub dup_open : FileState → Option (ℕ × OpenFile) → Answer FileState
dup_open s None = only s EBADF
dup_open s (Some o) = share s (free_descriptor s) o.0

-- dup(2): the least free descriptor shares the open file, with its offset and flags
unfoldable pub dup_of : FileState → ℕ → Answer FileState
dup_of s fd = dup_open s (open_of s fd)

abbrev pub dup_onto : FileState → Option (ℕ × OpenFile) → ℕ → Answer FileState
dup_onto s None to = only s EBADF
dup_onto s (Some o) to = if nat_lt 63 to then only s EBADF else shared_at s to o.0

-- dup3(2): the second descriptor is closed and shares the open file of the first; 524288 is O_CLOEXEC
unfoldable pub dup3_of : FileState → ℕ → ℕ → ℕ → Answer FileState
dup3_of s from to flags =
    if not ((flags == 0) || (flags == 524288)) then only s EINVAL
    else (if from == to then only s EINVAL else dup_onto s (open_of s from) to)
