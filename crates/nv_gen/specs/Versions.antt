-- The versions of a large run, once they are loaded.
use Rattle.std.specs.Prelude.{◌≡◌, ℕ, List, []}
use Rattle.nv_elf.specs.Elf.{Executable}
use Rattle.nv_machine.specs.Guest.{Machine}
use Rattle.nv_guest.specs.Load.{IsMemorySize, Ready, loaded}
use Rattle.nv_gen.specs.Made.{Course, numbers_of, course}
use Rattle.nv_gen.specs.Programs.{program}
use Rattle.nv_gen.specs.Behaviour.{Does}

-- what version i of the number's run does, and its program
abbrev pub course_at : ℕ → ℕ → Course
course_at n version = course (numbers_of n) version

abbrev pub program_at : ℕ → ℕ → Executable
program_at n version = program (numbers_of n) (course_at n version)

-- loaded with any arguments into a memory of any size that has room for it, it does what the definition says
abbrev pub KeepsItsCourse : ℕ → ℕ → Type 0
KeepsItsCourse n version = (arguments : List (List ℕ)) (size : ℕ) (m : Machine) → IsMemorySize size → loaded (program_at n version) arguments size ≡ Ready m → Does m (course_at n version)

-- the default memory has room for it, with the argument that every guest has and no others
abbrev pub FitsTheDefault : ℕ → ℕ → Type 0
FitsTheDefault n version = (m : Machine) × (loaded (program_at n version) [] 1048576 ≡ Ready m)
