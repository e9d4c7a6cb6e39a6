-- pipe(2), pipe(7).
use Rattle.std.specs.Prelude.{ℕ, pos, ◌+◌, true, false, ◌==◌, bit_and, [], ◌++◌, length, drop, Option, Some, None, is_none, option_map, if◌then◌else◌}
use Rattle.std.specs.List.{position_from}
use Rattle.std.specs.Int.{to_le_bytes, w32}
use Rattle.nv_fs.specs.declared.open_file.Target.TheVariants.{Reader, Writer}
use Rattle.nv_calls.specs.Answer.{Answer, answer, only}
use Rattle.nv_calls.specs.Errors.{EINVAL, EMFILE}
use Rattle.nv_fs.specs.States.{FileState, install, is_pipe, least_free, one_way, with_at}
use Rattle.nv_fs.specs.Closes.{free_descriptor}

unfoldable pub free_pipe : FileState → ℕ
free_pipe s = least_free (is_pipe s) (length s.pipes) 0

-- an empty pipe
abbrev pub with_empty : FileState → ℕ → FileState
with_empty s k = record s { pipes = with_at s.pipes k [] }

abbrev pub with_ends : FileState → ℕ → ℕ → ℕ → FileState
with_ends s k reading writing = install (install (with_empty s k) reading (one_way (Reader k) true)) writing (one_way (Writer k) false)

-- the least free descriptor above another
abbrev pub free_above : FileState → ℕ → Option ℕ
free_above s fd = option_map (λ n. fd + 1 + n) (position_from is_none 0 (drop (fd + 1) s.descriptors))

abbrev pub pipe_on : FileState → ℕ → Option ℕ → Answer FileState
pipe_on s reading None = only s EMFILE
pipe_on s reading (Some writing) =
    answer (with_ends s (free_pipe s) reading writing) (pos 0) (to_le_bytes w32 reading ++ to_le_bytes w32 writing)

abbrev pub pipe_from : FileState → Option ℕ → Answer FileState
pipe_from s None = only s EMFILE
pipe_from s (Some reading) = pipe_on s reading (free_above s reading)

-- pipe2(2): 526336 is O_CLOEXEC with O_NONBLOCK, which change nothing here
unfoldable pub pipe_of : FileState → ℕ → Answer FileState
pipe_of s flags = if bit_and flags 526336 == flags then pipe_from s (free_descriptor s) else only s EINVAL
