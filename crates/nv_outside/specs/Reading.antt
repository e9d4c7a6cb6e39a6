-- What a read of a file in memory comes to.
use Rattle.std.specs.Prelude.{◌≡◌, ◌<◌, ◌≤◌, ℕ, List, Option, None, Some, Result, Ok, Err, length}
use Rattle.std.specs.declared.alloc.AllocError.{AllocError}
use Rattle.nv_outside.specs.Counts.{raised}
use Rattle.nv_outside.specs.declared.files.Got.{Got}
use Rattle.nv_outside.specs.declared.files.Got.TheVariants.{Bytes, Long, Failed}

-- all bytes of the content, or that it is longer than the limit
abbrev pub IsCopy : List ℕ → ℕ → Got → Type 0
IsCopy content limit (Bytes bytes) = (length content ≤ limit) × (bytes.items ≡ content)
IsCopy content limit Long = limit < length content
IsCopy content limit Failed = ⊥

-- A content is copied and its bytes count as taken, or memory is wanted and no count changes.
abbrev pub Copies : List ℕ → ℕ → Result Got AllocError → ℕ → ℕ → Type 0
Copies content limit (Ok got) taken later_taken = IsCopy content limit got × (later_taken ≡ raised taken (length content))
Copies content limit (Err error) taken later_taken = (length content ≤ limit) × (later_taken ≡ taken)

-- a fault is answered and counted, and no byte is taken
abbrev pub Fails : Result Got AllocError → ℕ → ℕ → ℕ → ℕ → Type 0
Fails result taken later_taken faults later_faults = (result ≡ Ok Failed) × (later_taken ≡ taken) × (later_faults ≡ raised faults 1)

-- the content of a file, read without a fault; no file is a fault
abbrev pub Reads : Option (List ℕ) → ℕ → Result Got AllocError → ℕ → ℕ → ℕ → ℕ → Type 0
Reads None limit result taken later_taken faults later_faults = Fails result taken later_taken faults later_faults
Reads (Some content) limit result taken later_taken faults later_faults = Copies content limit result taken later_taken × (later_faults ≡ faults)
