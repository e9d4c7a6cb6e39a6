-- openat(2) and unlinkat(2).
use Rattle.std.specs.Prelude.{ℕ, ℤ, pos, ◌%◌, Bool, ◌&&◌, not, ◌==◌, nat_le, bit_and, List, [], length, Option, Some, None, slice_set, if◌then◌else◌}
use Rattle.nv_fs.specs.declared.open_file.OpenFile.{OpenFile}
use Rattle.nv_fs.specs.declared.open_file.Target.TheVariants.{File}
use Rattle.nv_calls.specs.Answer.{Answer, answer, only}
use Rattle.nv_calls.specs.Errors.{ENOENT, EEXIST, EINVAL, EMFILE, ENOSPC}
use Rattle.nv_fs.specs.States.{FileState, file_at, install, is_kept, least_free, with_at}
use Rattle.nv_fs.specs.Closes.{free_descriptor}
use Rattle.nv_fs.specs.Names.{Resolved, Refused, Named, resolved, file_of}
use Rattle.nv_fs.specs.Stored.{with_content}

abbrev pub has_flag : ℕ → ℕ → Bool
has_flag flags flag = not (bit_and flags flag == 0)

-- O_RDONLY is 0, O_WRONLY 1, O_RDWR 2 and O_APPEND 1024; the offset is 0
abbrev pub opened : ℕ → ℕ → OpenFile
opened i flags = record { target = File i; offset = 0; reads = not (flags % 4 == 1); writes = not (flags % 4 == 0); appends = has_flag flags 1024 }

-- a descriptor names a new open file of this file, and is the result
abbrev pub open_file : FileState → ℕ → ℕ → ℕ → Answer FileState
open_file s fd i flags = answer (install s fd (opened i flags)) (pos fd) []

-- O_TRUNC is 512, and empties a file that is opened for writing
abbrev pub truncated : FileState → ℕ → ℕ → FileState
truncated s i flags = if has_flag flags 512 && not (flags % 4 == 0) then with_content s i [] else s

-- the least number for a file
unfoldable pub free_file : FileState → ℕ
free_file s = least_free (is_kept s) (length s.files) 0

abbrev pub with_file : FileState → ℕ → List ℕ → FileState
with_file s i name = record s { files = with_at s.files i record { name = Some name; bytes = [] } }

-- The numbers of files are 0 to 255, and an unlinked file that is open keeps its own.
abbrev pub create : FileState → ℕ → List ℕ → ℕ → Answer FileState
create s fd name flags =
    if nat_le 256 (free_file s) then only s ENOSPC else open_file (with_file s (free_file s) name) fd (free_file s) flags

abbrev pub open_at_descriptor : FileState → Option ℕ → List ℕ → Option ℕ → ℕ → Answer FileState
open_at_descriptor s None name file flags = only s EMFILE
open_at_descriptor s (Some fd) name None flags = create s fd name flags
open_at_descriptor s (Some fd) name (Some i) flags = open_file (truncated s i flags) fd i flags

-- O_CREAT is 64 and O_EXCL 128
abbrev pub exclusive_error : Option ℕ → ℕ → Option ℤ
exclusive_error (Some i) flags = if has_flag flags 64 && has_flag flags 128 then Some EEXIST else None
exclusive_error None flags = if has_flag flags 64 then None else Some ENOENT

abbrev pub open_unless : Option ℤ → FileState → List ℕ → Option ℕ → ℕ → Answer FileState
open_unless (Some error) s name file flags = only s error
open_unless None s name file flags = open_at_descriptor s (free_descriptor s) name file flags

abbrev pub open_resolved : FileState → Resolved → ℕ → Answer FileState
open_resolved s (Refused error) flags = only s error
open_resolved s (Named name) flags =
    if flags % 4 == 3 then only s EINVAL
    else open_unless (exclusive_error (file_of s name) flags) s name (file_of s name) flags

-- openat(2)
unfoldable pub open_at_of : FileState → ℤ → List ℕ → ℕ → Answer FileState
open_at_of s dir path flags = open_resolved s (resolved s dir path) flags

-- a file without its name
abbrev pub unlinked : FileState → ℕ → FileState
unlinked s i = record s { files = slice_set s.files i record { name = None; bytes = (file_at s i).bytes } }

abbrev pub unlink_file : FileState → Option ℕ → Answer FileState
unlink_file s None = only s ENOENT
unlink_file s (Some i) = answer (unlinked s i) (pos 0) []

abbrev pub unlink_resolved : FileState → Resolved → ℕ → Answer FileState
unlink_resolved s (Refused error) flags = only s error
unlink_resolved s (Named name) flags = if flags == 0 then unlink_file s (file_of s name) else only s EINVAL

-- unlinkat(2): an open file stays until it is closed
unfoldable pub unlink_at_of : FileState → ℤ → List ℕ → ℕ → Answer FileState
unlink_at_of s dir path flags = unlink_resolved s (resolved s dir path) flags
