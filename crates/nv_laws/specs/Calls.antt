-- What the calls make, keep and free.
use Rattle.std.specs.Prelude.{◌≡◌, ◌≢◌, ◌⊎◌, ◌↔◌, ℕ, ℤ, pos, negsuc, Bool, true, false, [], Some, None, is_some, IsTrue, slice_get}
use Rattle.nv_fs.specs.declared.open_file.Target.TheVariants.{File, Reader, Writer}
use Rattle.nv_calls.specs.Answer.{Answer}
use Rattle.nv_fs.specs.States.{FileState, open_of, opens_to, is_shared, is_kept, is_pipe, file_at}
use Rattle.nv_fs.specs.Fetched.{pipe_at}
use Rattle.nv_laws.specs.Tables.{number_at, HeldBeside, OpenBeside}

-- a number of errno(3), negative
abbrev pub is_error : ℤ → Bool
is_error (pos n) = false
is_error (negsuc n) = true

-- the call is refused, and changes nothing
pub record ChangesNothing (before : FileState) (answer : Answer FileState) : Type 0 where
  pub same : answer.state ≡ before
  pub error : IsTrue (is_error answer.ret)

-- every descriptor but one keeps its open file
abbrev pub OthersKeep : FileState → FileState → ℕ → Type 0
OthersKeep before after fd = (d : ℕ) → d ≢ fd → open_of after d ≡ open_of before d

-- a descriptor that was free has an open file whose number was free
pub record TakesNew (before after : FileState) (fd : ℕ) : Type 0 where
  pub free : number_at before fd ≡ None
  pub number : ℕ
  pub has : number_at after fd ≡ Some number
  pub unused : is_shared before number ≡ false
  pub others : OthersKeep before after fd

-- a file in use keeps its name; and its bytes, unless it is the one that the descriptor opens
abbrev pub FileKeeps : FileState → FileState → ℕ → ℕ → Type 0
FileKeeps before after fd i =
    ((file_at after i).name ≡ (file_at before i).name) × (IsTrue (opens_to (File i) (open_of after fd)) ⊎ (file_at after i ≡ file_at before i))

-- openat(2) made a descriptor and an open file; where it made a file too, that file's number was free
pub record HasOpened (before : FileState) (answer : Answer FileState) : Type 0 where
  pub fd : ℕ
  pub ret : answer.ret ≡ pos fd
  pub new : TakesNew before answer.state fd
  pub files : (i : ℕ) → IsTrue (is_kept before i) → FileKeeps before answer.state fd i
  pub pipes : answer.state.pipes ≡ before.pipes

-- dup(2) made a descriptor, which has the open file of another
pub record HasDoubled (before : FileState) (from : ℕ) (answer : Answer FileState) : Type 0 where
  pub fd : ℕ
  pub ret : answer.ret ≡ pos fd
  pub free : number_at before fd ≡ None
  pub shares : number_at answer.state fd ≡ number_at before from
  pub others : OthersKeep before answer.state fd
  pub files : answer.state.files ≡ before.files
  pub pipes : answer.state.pipes ≡ before.pipes

-- pipe(2) made a pipe whose number was free, and two descriptors with open files, one and then the other
pub record HasPiped (before : FileState) (answer : Answer FileState) : Type 0 where
  pub pipe : ℕ
  pub unused : is_pipe before pipe ≡ false
  pub empty : pipe_at answer.state pipe ≡ []
  pub reading : ℕ
  pub writing : ℕ
  pub between : FileState
  pub first : TakesNew before between reading
  pub second : TakesNew between answer.state writing
  pub reader : IsTrue (opens_to (Reader pipe) (open_of answer.state reading))
  pub writer : IsTrue (opens_to (Writer pipe) (open_of answer.state writing))
  pub others : (k : ℕ) → k ≢ pipe → pipe_at answer.state k ≡ pipe_at before k
  pub files : answer.state.files ≡ before.files

-- What is in use once a descriptor has let go of its open file is just what something else holds: an open file that another descriptor has, a
-- file with a name or open at another descriptor, a pipe with an end at another descriptor.
pub record LetsGo (before after : FileState) (fd : ℕ) : Type 0 where
  pub opens : (number : ℕ) → IsTrue (is_shared after number) ↔ HeldBeside before fd number
  pub files : (i : ℕ) → IsTrue (is_kept after i) ↔ (IsTrue (is_some (file_at before i).name) ⊎ OpenBeside before fd (File i))
  pub pipes : (k : ℕ) → IsTrue (is_pipe after k) ↔ (OpenBeside before fd (Reader k) ⊎ OpenBeside before fd (Writer k))
  pub others : OthersKeep before after fd
  pub same_files : after.files ≡ before.files
  pub same_pipes : after.pipes ≡ before.pipes

-- unlinkat(2) takes the name of one file at most, and no bytes
pub record TakesAName (before after : FileState) : Type 0 where
  pub file : ℕ
  pub others : (i : ℕ) → i ≢ file → file_at after i ≡ file_at before i
  pub bytes : (i : ℕ) → (file_at after i).bytes ≡ (file_at before i).bytes
  pub descriptors : after.descriptors ≡ before.descriptors
  pub opens : after.opens ≡ before.opens
  pub pipes : after.pipes ≡ before.pipes

-- A call on a descriptor changes its open file, the file that it is of or the pipe that it is an end of, and no other.
pub record StaysWithin (before after : FileState) (fd : ℕ) : Type 0 where
  pub descriptors : after.descriptors ≡ before.descriptors
  pub opens : (number : ℕ) → number_at before fd ≢ Some number → slice_get after.opens number ≡ slice_get before.opens number
  pub files : (i : ℕ) → IsTrue (opens_to (File i) (open_of before fd)) ⊎ (file_at after i ≡ file_at before i)
  pub pipes : (k : ℕ) → IsTrue (opens_to (Reader k) (open_of before fd)) ⊎ (IsTrue (opens_to (Writer k) (open_of before fd)) ⊎ (pipe_at after k ≡ pipe_at before k))
