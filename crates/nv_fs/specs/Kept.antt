-- What the taking of memory leaves as it was: which blocks of files take memory.
use Rattle.std.specs.Prelude.{◌≡◌, ℕ, ◌+◌, ◌-◌, ◌*◌, ◌/◌, min, ◌≤◌, ◌<◌, ◌⊎◌, Bool, false, [], Option, Some, None, slice_index_or}
use Rattle.nv_fs.specs.declared.open_file.OpenFile.{OpenFile}
use Rattle.nv_fs.specs.declared.open_file.Target.{Target}
use Rattle.nv_fs.specs.declared.open_file.Target.TheVariants.{File}
use Rattle.nv_fs.specs.States.{FileState, open_of}
use Rattle.nv_fs.specs.Stored.{start_of}
use Rattle.nv_fs.specs.Reserved.{Disk}

-- whether block k of file j takes memory
abbrev pub takes_memory : Disk → ℕ → ℕ → Bool
takes_memory d j k = slice_index_or (slice_index_or d.reserved.contents j []) k false

-- every block of every file takes memory as before
abbrev pub KeepsBlocks : Disk → Disk → Type 0
KeepsBlocks old new = (j k : ℕ) → takes_memory new j k ≡ takes_memory old j k

-- block k lies before the blocks of n bytes from a place on, or after them
abbrev pub IsOutside : ℕ → ℕ → ℕ → Type 0
IsOutside place n k = (k < place / 4096) ⊎ (place + n ≤ 4096 * k)

-- block k of file j is none of those of n bytes of file i from a place on
abbrev pub IsBeside : ℕ → ℕ → ℕ → ℕ → ℕ → Type 0
IsBeside i place n j k = j ≡ i → IsOutside place n k

-- block k of file j is none of those that a write of n bytes to a target touches
abbrev pub IsUntouchedBlock : FileState → OpenFile → Target → ℕ → ℕ → ℕ → Type 0
IsUntouchedBlock s o (File i) n j k = IsBeside i (start_of s o i) (min n (1048576 - start_of s o i)) j k
IsUntouchedBlock s o _ n j k = Unit {0}

abbrev pub IsUntouchedOf : FileState → Option (ℕ × OpenFile) → ℕ → ℕ → ℕ → Type 0
IsUntouchedOf s None n j k = Unit {0}
IsUntouchedOf s (Some o) n j k = IsUntouchedBlock s o.1 o.1.target n j k

-- every block of every file takes memory as before, but for those that a write of n bytes to a descriptor touches
abbrev pub KeepsOthers : Disk → Disk → ℕ → ℕ → Type 0
KeepsOthers old new fd n = (j k : ℕ) → IsUntouchedOf old.state (open_of old.state fd) n j k → takes_memory new j k ≡ takes_memory old j k
