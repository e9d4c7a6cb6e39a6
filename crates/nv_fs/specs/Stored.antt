-- write(2).
use Rattle.std.specs.Prelude.{ℕ, pos, ◌+◌, ◌-◌, min, not, ◌==◌, nat_le, nat_lt, List, [], ◌++◌, Option, Some, None, take, length, slice_set, if◌then◌else◌}
use Rattle.nv_fs.specs.declared.open_file.OpenFile.{OpenFile}
use Rattle.nv_fs.specs.declared.open_file.Target.{Target}
use Rattle.nv_fs.specs.declared.open_file.Target.TheVariants.{Console, File, Reader, Writer}
use Rattle.nv_calls.specs.Answer.{Answer, answer, only}
use Rattle.nv_calls.specs.Errors.{EBADF, EAGAIN, EFBIG, ENOSPC, EPIPE}
use Rattle.nv_fs.specs.States.{FileState, file_at, open_of, has_open, moved_to}
use Rattle.nv_fs.specs.Contents.{with_bytes}
use Rattle.nv_fs.specs.Seeks.{bytes_of}
use Rattle.nv_fs.specs.Fetched.{pipe_at, with_pipe}

-- one write moves at most so many bytes (write(2), "Notes")
abbrev pub MOST_WRITTEN : ℕ
MOST_WRITTEN = 0x7FFF_F000

-- The console takes as many bytes as fit the limit.
abbrev pub write_console : FileState → ℕ → List ℕ → Answer FileState
write_console s limit bytes =
    if nat_le limit (length s.console) then only s ENOSPC
    else (let part = take (min MOST_WRITTEN (limit - length s.console)) bytes in answer (record s { console = s.console ++ part }) (pos (length part)) [])

abbrev pub with_content : FileState → ℕ → List ℕ → FileState
with_content s i bytes = record s { files = slice_set s.files i record { name = (file_at s i).name; bytes = bytes } }

-- With O_APPEND a write begins at the size (open(2)).
abbrev pub start_of : FileState → OpenFile → ℕ → ℕ
start_of s o i = if o.appends then length (bytes_of s i) else o.offset

-- A file takes as many bytes as fit below the limit, and the offset moves past them.
abbrev pub write_at : FileState → ℕ → OpenFile → ℕ → ℕ → ℕ → List ℕ → Answer FileState
write_at s number o i limit start bytes =
    if nat_le limit start then only s EFBIG
    else (let part = take (limit - start) bytes in
    answer (moved_to (with_content s i (with_bytes (bytes_of s i) start part)) number o (start + length part)) (pos (length part)) [])

-- pipe(7): all the bytes or none, and EAGAIN in place of waiting
abbrev pub write_pipe : FileState → ℕ → ℕ → List ℕ → Answer FileState
write_pipe s k limit bytes =
    if not (has_open s (Reader k)) then only s EPIPE
    else (if nat_lt limit (length (pipe_at s k) + length bytes) then only s EAGAIN
    else answer (with_pipe s k (pipe_at s k ++ bytes)) (pos (length bytes)) [])

abbrev pub write_target : FileState → ℕ → OpenFile → Target → List ℕ → Answer FileState
write_target s number o Console bytes = write_console s s.limit bytes
write_target s number o (File i) bytes = write_at s number o i 1048576 (start_of s o i) bytes
write_target s number o (Writer k) bytes = write_pipe s k 4096 bytes
write_target s number o _ bytes = only s EBADF

abbrev pub write_open : FileState → Option (ℕ × OpenFile) → List ℕ → Answer FileState
write_open s None bytes = only s EBADF
write_open s (Some o) bytes =
    if not o.1.writes then only s EBADF
    else (if length bytes == 0 then only s (pos 0) else write_target s o.0 o.1 o.1.target bytes)

-- write(2): the console takes as many bytes as its limit says, a file holds 1048576, a pipe 4096
unfoldable pub write_of : FileState → ℕ → List ℕ → Answer FileState
write_of s fd bytes = write_open s (open_of s fd) bytes
