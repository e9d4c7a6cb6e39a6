-- What a descriptor names, as it is told.
use Rattle.std.specs.Prelude.{ℕ, Bool, true, false, length, Option, None, Some}
use Rattle.nv_fs.specs.declared.open_file.OpenFile.{OpenFile}
use Rattle.nv_fs.specs.declared.open_file.Target.{Target}
use Rattle.nv_fs.specs.declared.open_file.Target.TheVariants.{Input, Console, File, Reader, Writer}
use Rattle.nv_fs.specs.declared.telling.Opened.{Opened}
use Rattle.nv_fs.specs.declared.telling.Opened.TheVariants as told
use Rattle.nv_fs.specs.States.{FileState, open_of}
use Rattle.nv_fs.specs.Seeks.{bytes_of}

abbrev pub told_by : FileState → OpenFile → Target → Opened
told_by s o Input = told.Input
told_by s o Console = told.Console
told_by s o (File i) = told.File o.offset (length (bytes_of s i))
told_by s o (Reader k) = told.PipeRead
told_by s o (Writer k) = told.PipeWrite

abbrev pub told_of : FileState → Option (ℕ × OpenFile) → Opened
told_of s None = told.Closed
told_of s (Some o) = told_by s o.1 o.1.target

-- what the descriptor names: a file with the place where the next byte is read or written and with how many bytes it has
unfoldable pub opened_as : FileState → ℕ → Opened
opened_as s fd = told_of s (open_of s fd)

abbrev pub is_console : Target → Bool
is_console Console = true
is_console _ = false

abbrev pub prints_to : Option (ℕ × OpenFile) → Bool
prints_to None = false
prints_to (Some o) = is_console o.1.target

-- what is written to the descriptor goes to the console
unfoldable pub prints : FileState → ℕ → Bool
prints s fd = prints_to (open_of s fd)
