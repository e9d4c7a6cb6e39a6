-- How a path names a file of the flat directory `/` (path_resolution(7)).
use Rattle.std.specs.Prelude.{ℕ, ℤ, pos, negsuc, Bool, false, ◌&&◌, ◌||◌, not, ◌==◌, nat_le, List, [], ◌∷◌, length, drop, Option, Some, None, is_some, if◌then◌else◌}
use Rattle.std.specs.Str.{bytes_eq}
use Rattle.std.specs.List.{position_from, position_or_len, list_any, before_first}
use Rattle.nv_calls.specs.Limits.{MOST_PATH}
use Rattle.nv_calls.specs.Errors.{ENOENT, EBADF, ENOTDIR, EINVAL, ENAMETOOLONG}
use Rattle.nv_fs.specs.States.{FileState, is_open}

-- a path that is refused, or the name in it
pub data Resolved : Type 0 where
  Refused : ℤ → Resolved
  Named : List ℕ → Resolved

-- -100 is AT_FDCWD (openat(2))
abbrev pub is_cwd : ℤ → Bool
is_cwd (pos n) = false
is_cwd (negsuc n) = n == 99

abbrev pub is_open_at : FileState → ℤ → Bool
is_open_at s (pos fd) = is_open s fd
is_open_at s (negsuc n) = false

abbrev pub is_absolute : List ℕ → Bool
is_absolute [] = false
is_absolute (b ∷ bs) = b == 47

-- the path without its leading slashes
abbrev pub name_in : List ℕ → List ℕ
name_in path = drop (position_or_len (λ b. not (b == 47)) path) path

abbrev pub is_named : List ℕ → Option (List ℕ) → Bool
is_named name None = false
is_named name (Some other) = bytes_eq other name

-- the file of a name
unfoldable pub file_of : FileState → List ℕ → Option ℕ
file_of s name = position_from (λ f. is_named name f.name) 0 s.files

-- a single component: not empty, `.` or `..`
abbrev pub component_of : List ℕ → Resolved
component_of name = if (length name == 0) || (bytes_eq name (46 ∷ [])) || (bytes_eq name (46 ∷ 46 ∷ [])) then Refused EINVAL else Named name

abbrev pub name_of : FileState → List ℕ → Resolved
name_of s name =
    if list_any (λ b. b == 47) name
    then Refused (if is_some (file_of s (before_first (λ b. b == 47) name)) then ENOTDIR else ENOENT)
    else component_of name

-- Relative paths begin at the working directory, which is `/`.
unfoldable pub resolved : FileState → ℤ → List ℕ → Resolved
resolved s dir path =
    if nat_le MOST_PATH (length path) then Refused ENAMETOOLONG
    else (if length path == 0 then Refused ENOENT
    else (if not (is_absolute path) && not (is_cwd dir) then Refused (if is_open_at s dir then ENOTDIR else EBADF)
    else name_of s (name_in path)))
