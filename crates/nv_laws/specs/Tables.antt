-- What holds of the tables between any two calls, and what holds a number of them.
use Rattle.std.specs.Prelude.{◌≡◌, ◌≢◌, ◌<◌, ℕ, length, Option, Some, None, IsTrue, slice_get, slice_index_or}
use Rattle.nv_fs.specs.declared.open_file.OpenFile.{OpenFile}
use Rattle.nv_fs.specs.declared.open_file.Target.{Target}
use Rattle.nv_fs.specs.declared.open_file.Target.TheVariants.{File, Reader, Writer}
use Rattle.nv_fs.specs.States.{FileState, open_of, opens_to}

-- the number of the open file that a descriptor has
abbrev pub number_at : FileState → ℕ → Option ℕ
number_at s fd = slice_index_or s.descriptors fd None

-- what an open file is of stands in tables of so many files and pipes
abbrev pub StandsIn : ℕ → ℕ → Target → Type 0
StandsIn files pipes (File i) = i < files
StandsIn files pipes (Reader k) = k < pipes
StandsIn files pipes (Writer k) = k < pipes
StandsIn files pipes _ = Unit {0}

-- there are 64 descriptors, and each number in a table stands in the table that it is of
pub record AreSoundTables (s : FileState) : Type 0 where
  pub count : length s.descriptors ≡ 64
  pub descriptors : (fd number : ℕ) → number_at s fd ≡ Some number → number < length s.opens
  pub opens : (number : ℕ) (o : OpenFile) → slice_get s.opens number ≡ Some o → StandsIn (length s.files) (length s.pipes) o.target

-- a descriptor other than this one has the open file of this number
abbrev pub HeldBeside : FileState → ℕ → ℕ → Type 0
HeldBeside s fd number = (d : ℕ) × (d ≢ fd) × (number_at s d ≡ Some number)

-- a descriptor other than this one has an open file of the target
abbrev pub OpenBeside : FileState → ℕ → Target → Type 0
OpenBeside s fd target = (d : ℕ) × (d ≢ fd) × IsTrue (opens_to target (open_of s d))
