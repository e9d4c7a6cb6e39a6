-- The state that a run begins with.
use Rattle.std.specs.Prelude.{ℕ, Bool, true, false, List, [], ◌∷◌, replicate, Option, Some, None, if◌then◌else◌}
use Rattle.std.specs.Global.{Vec}
use Rattle.nv_fs.specs.declared.open_file.OpenFile.{OpenFile}
use Rattle.nv_fs.specs.declared.open_file.Target.TheVariants.{Input, Console}
use Rattle.nv_fs.specs.States.{FileState, Inode, one_way}

-- a file of a name and its bytes
abbrev pub inode_from : Vec ℕ × Vec ℕ → Inode
inode_from f = record { name = Some f.0.items; bytes = f.1.items }

-- the descriptors 0, 1 and 2: the input, and the console twice
unfoldable pub first_descriptors : List (Option ℕ)
first_descriptors = Some 0 ∷ Some 1 ∷ Some 1 ∷ replicate 61 None

abbrev pub first_opens : List OpenFile
first_opens = one_way Input true ∷ one_way Console false ∷ []

-- how many bytes the console takes in all: where the later calls are in the table, as many as 64 bits count
unfoldable pub console_limit : Bool → ℕ
console_limit polls = if polls then 18446744073709551615 else 16777216

-- what a run begins with, from the input and the files, by whether the later calls are in the table
abbrev pub first_state : Bool → List ℕ → List Inode → FileState
first_state polls input files = record {
  descriptors = first_descriptors;
  opens = first_opens;
  files = files;
  pipes = [];
  input = input;
  console = [];
  limit = console_limit polls;
}
