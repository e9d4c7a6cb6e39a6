-- read(2).
use Rattle.std.specs.Prelude.{ℕ, pos, ◌+◌, min, ◌==◌, List, [], Option, Some, None, take, drop, length, slice_set, slice_index_or, if◌then◌else◌}
use Rattle.nv_fs.specs.declared.open_file.OpenFile.{OpenFile}
use Rattle.nv_fs.specs.declared.open_file.Target.{Target}
use Rattle.nv_fs.specs.declared.open_file.Target.TheVariants.{Input, File, Reader, Writer}
use Rattle.nv_calls.specs.Answer.{Answer, answer, only}
use Rattle.nv_calls.specs.Limits.{MOST_BYTES}
use Rattle.nv_calls.specs.Errors.{EBADF, EAGAIN}
use Rattle.nv_fs.specs.States.{FileState, open_of, has_open, moved_to}
use Rattle.nv_fs.specs.Seeks.{bytes_of}

-- these bytes are handed out, and their number is the result
abbrev pub hand_out : FileState → List ℕ → Answer FileState
hand_out s bytes = answer s (pos (length bytes)) bytes

abbrev pub read_input : FileState → ℕ → Answer FileState
read_input s n = hand_out (record s { input = drop n s.input }) (take n s.input)

-- at most n bytes of a file from the offset on, by which the offset moves on
abbrev pub read_file : FileState → ℕ → OpenFile → ℕ → ℕ → Answer FileState
read_file s number o i n =
    let part = take n (drop o.offset (bytes_of s i)) in hand_out (moved_to s number o (o.offset + length part)) part

-- the bytes in a pipe
abbrev pub pipe_at : FileState → ℕ → List ℕ
pipe_at s k = slice_index_or s.pipes k []

abbrev pub with_pipe : FileState → ℕ → List ℕ → FileState
with_pipe s k bytes = record s { pipes = slice_set s.pipes k bytes }

-- pipe(7), "I/O on pipes and FIFOs"; EAGAIN in place of waiting
abbrev pub read_pipe : FileState → ℕ → ℕ → Answer FileState
read_pipe s k n =
    if n == 0 then only s (pos 0)
    else (if length (pipe_at s k) == 0 then only s (if has_open s (Writer k) then EAGAIN else pos 0)
    else hand_out (with_pipe s k (drop n (pipe_at s k))) (take n (pipe_at s k)))

abbrev pub read_target : FileState → ℕ → OpenFile → Target → ℕ → Answer FileState
read_target s number o Input n = read_input s n
read_target s number o (File i) n = read_file s number o i n
read_target s number o (Reader k) n = read_pipe s k n
read_target s number o _ n = only s EBADF

abbrev pub read_open : FileState → Option (ℕ × OpenFile) → ℕ → Answer FileState
read_open s None n = only s EBADF
read_open s (Some o) n = if o.1.reads then read_target s o.0 o.1 o.1.target n else only s EBADF

-- read(2), of no more bytes than a call moves
unfoldable pub read_of : FileState → ℕ → ℕ → Answer FileState
read_of s fd count = read_open s (open_of s fd) (min count MOST_BYTES)
