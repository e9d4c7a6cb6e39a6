-- Which descriptors wait for the input.
use Rattle.std.specs.Prelude.{ℕ, Bool, true, false, ◌&&◌, ◌==◌, length, Option, Some, None}
use Rattle.nv_fs.specs.declared.open_file.OpenFile.{OpenFile}
use Rattle.nv_fs.specs.declared.open_file.Target.{Target}
use Rattle.nv_fs.specs.declared.open_file.Target.TheVariants.{Input}
use Rattle.nv_fs.specs.States.{FileState, open_of}

abbrev pub is_input : Target → Bool
is_input Input = true
is_input _ = false

-- the open file reads the input
abbrev pub reads_input : Option (ℕ × OpenFile) → Bool
reads_input None = false
reads_input (Some o) = o.1.reads && is_input o.1.target

-- the descriptor reads the input, of which nothing is left
unfoldable pub waits_on_input : FileState → ℕ → Bool
waits_on_input s fd = reads_input (open_of s fd) && (length s.input == 0)
