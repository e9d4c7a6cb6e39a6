-- Descriptors, open file descriptions and files (open(2), "Open file descriptions"; path_resolution(7)), as lists whose places are the numbers.
use Rattle.std.specs.Prelude.{ℕ, zero, suc, ◌+◌, Bool, false, not, ◌||◌, ◌==◌, nat_lt, List, [], ◌∷◌, ◌++◌, length, Option, Some, None, is_some, slice_get, slice_index_or, slice_set, option_map, if◌then◌else◌}
use Rattle.std.specs.List.{list_any}
use Rattle.nv_fs.specs.declared.open_file.OpenFile.{OpenFile}
use Rattle.nv_fs.specs.declared.open_file.Target.{Target}
use Rattle.nv_fs.specs.declared.open_file.Target.TheVariants.{File, Reader, Writer}

-- a regular file: its name in `/`, which it has until it is unlinked (unlink(2)), and its bytes
pub record Inode : Type 0 where
  pub name : Option (List ℕ)
  pub bytes : List ℕ

-- A descriptor has the number of its open file, which several may share. The input is what is still to be read of it, and the limit how many bytes the console takes in all.
pub record FileState : Type 0 where
  pub descriptors : List (Option ℕ)
  pub opens : List OpenFile
  pub files : List Inode
  pub pipes : List (List ℕ)
  pub input : List ℕ
  pub console : List ℕ
  pub limit : ℕ

-- the open file of a number, with the number
abbrev pub numbered : List OpenFile → Option ℕ → Option (ℕ × OpenFile)
numbered opens None = None
numbered opens (Some i) = option_map (λ o. (i, o)) (slice_get opens i)

-- the open file of a descriptor; None where it isn't open
unfoldable pub open_of : FileState → ℕ → Option (ℕ × OpenFile)
open_of s fd = numbered s.opens (slice_index_or s.descriptors fd None)

abbrev pub is_open : FileState → ℕ → Bool
is_open s fd = is_some (open_of s fd)

-- an open file that is only read or only written, from its beginning on
abbrev pub one_way : Target → Bool → OpenFile
one_way target reads = record { target = target; offset = 0; reads = reads; writes = not reads; appends = false }

abbrev pub is_target : Target → Target → Bool
is_target (File i) (File j) = i == j
is_target (Reader i) (Reader j) = i == j
is_target (Writer i) (Writer j) = i == j
is_target _ _ = false

-- this open file is of the target
abbrev pub opens_to : Target → Option (ℕ × OpenFile) → Bool
opens_to target None = false
opens_to target (Some o) = is_target target o.1.target

-- some descriptor's open file is of the target
unfoldable pub has_open : FileState → Target → Bool
has_open s target = list_any (λ d. opens_to target (numbered s.opens d)) s.descriptors

abbrev pub is_numbered : ℕ → Option ℕ → Bool
is_numbered i None = false
is_numbered i (Some j) = j == i

-- the number of an open file is in use where a descriptor has it, that of a file where it has a name or is open, that of a pipe where an end is open
unfoldable pub is_shared : FileState → ℕ → Bool
is_shared s i = list_any (is_numbered i) s.descriptors

-- the file of a number; without name and bytes where there is none
abbrev pub file_at : FileState → ℕ → Inode
file_at s i = slice_index_or s.files i record { name = None; bytes = [] }

unfoldable pub is_kept : FileState → ℕ → Bool
is_kept s i = is_some (file_at s i).name || has_open s (File i)

unfoldable pub is_pipe : FileState → ℕ → Bool
is_pipe s k = has_open s (Reader k) || has_open s (Writer k)

-- the least of n numbers from i on that isn't in use; the one after them where all are
abbrev pub least_free : (ℕ → Bool) → ℕ → ℕ → ℕ
least_free used zero i = i
least_free used (suc n) i = if used i then least_free used n (i + 1) else i

-- a table with this at a place: in it, or just after it
abbrev pub with_at : {A : Type 0} → List A → ℕ → A → List A
with_at xs i x = if nat_lt i (length xs) then slice_set xs i x else (xs ++ x ∷ [])

-- the least number for an open file
unfoldable pub free_open : FileState → ℕ
free_open s = least_free (is_shared s) (length s.opens) 0

-- a descriptor names a new open file
unfoldable pub install : FileState → ℕ → OpenFile → FileState
install s fd o = record s { descriptors = slice_set s.descriptors fd (Some (free_open s)); opens = with_at s.opens (free_open s) o }

-- an open file moves its offset
abbrev pub moved_to : FileState → ℕ → OpenFile → ℕ → FileState
moved_to s i o offset = record s { opens = slice_set s.opens i (record o { offset = offset }) }
