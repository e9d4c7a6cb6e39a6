-- The memory that was taken in advance: what a call that grows a table needs of it.
use Rattle.std.specs.Prelude.{ℕ, ◌+◌, ◌-◌, min, ◌≤◌, ◌<◌, Bool, List, [], length, Option, Some, None, slice_index, slice_index_or}
use Rattle.nv_fs.specs.Contents.{HoldsRange}
use Rattle.nv_fs.specs.declared.open_file.OpenFile.{OpenFile}
use Rattle.nv_fs.specs.declared.open_file.Target.{Target}
use Rattle.nv_fs.specs.declared.open_file.Target.TheVariants.{Console, File, Writer}
use Rattle.nv_fs.specs.States.{FileState, open_of}
use Rattle.nv_fs.specs.Fetched.{pipe_at}
use Rattle.nv_fs.specs.Stored.{start_of}

-- how many elements each table has memory for, how long a new name may be, how many bytes the console with what was let go, what is left of the input, and each pipe have memory for, and which blocks of each file take memory
pub record Reserved : Type 0 where
  pub opens : ℕ
  pub files : ℕ
  pub pipes : ℕ
  pub name : ℕ
  pub console : ℕ
  pub input : ℕ
  pub contents : List (List Bool)
  pub buffers : List ℕ

-- a file system: what calls see, the memory, and how many bytes of the console, from the first on, were let go
pub record Disk : Type 0 where
  pub state : FileState
  pub reserved : Reserved
  pub gone : ℕ

-- there is memory for n bytes of a file from a place on
abbrev pub HasBlocks : Disk → ℕ → ℕ → ℕ → Type 0
HasBlocks d i place n = i < length d.state.files → HoldsRange (slice_index_or d.reserved.contents i []) place n

-- there is memory for a write of n bytes to a target
abbrev pub IsReserved : Disk → OpenFile → Target → ℕ → Type 0
IsReserved d o Console n = length d.state.console + min n (d.state.limit - length d.state.console) ≤ d.reserved.console
IsReserved d o (File i) n = HasBlocks d i (start_of d.state o i) (min n (1048576 - start_of d.state o i))
IsReserved d o (Writer k) n = k < length d.state.pipes → length (pipe_at d.state k) + n ≤ 4096 → length (pipe_at d.state k) + n ≤ slice_index d.reserved.buffers k
IsReserved d o _ n = Unit {0}

abbrev pub IsReservedOf : Disk → Option (ℕ × OpenFile) → ℕ → Type 0
IsReservedOf d None n = Unit {0}
IsReservedOf d (Some o) n = IsReserved d o.1 o.1.target n

-- there is memory for a write of n bytes to a descriptor
unfoldable pub CanWrite : Disk → ℕ → ℕ → Type 0
CanWrite d fd n = IsReservedOf d (open_of d.state fd) n

-- there is memory for so many further open files
abbrev pub HasOpens : Disk → ℕ → Type 0
HasOpens d n = length d.state.opens + n ≤ d.reserved.opens

-- there is memory for a new file, its name of at most so many bytes, and an open file of it
pub record CanOpen (d : Disk) (path : List ℕ) : Type 0 where
  pub opens : HasOpens d 1
  pub files : length d.state.files + 1 ≤ d.reserved.files
  pub name : length path ≤ d.reserved.name

-- there is memory for a new pipe and its two ends
pub record CanPipe (d : Disk) : Type 0 where
  pub opens : HasOpens d 2
  pub pipes : length d.state.pipes + 1 ≤ d.reserved.pipes
