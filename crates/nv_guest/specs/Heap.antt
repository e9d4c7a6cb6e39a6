-- Where the heap stands in a guest's memory, and how it moves (brk(2)).
use Rattle.std.specs.Prelude.{ℕ, if◌then◌else◌}
use Rattle.nv_memory.specs.Image.{Image}
use Rattle.nv_guest.specs.Threads.{is_break, with_break}

-- the memory after a request to move the break
abbrev pub moved : Image → ℕ → Image
moved memory address = if is_break memory address then with_break memory address else memory
