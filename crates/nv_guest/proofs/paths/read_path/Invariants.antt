use Rattle.std.proofs.Common.{◌≡◌, ◌++◌, ◌+◌, ◌-◌, length, take, option_map}
use Rattle.nv_guest.specs.Paths.{path_at}
use Rattle.nv_guest.proofs.paths.read_path.Given as goal

-- the bytes so far, and those of the path from here on
abbrev pub invariant-loop-i : goal.invariant-loop-i
invariant-loop-i l =
    option_map (λ later. take l.i l.out ++ later) (path_at (length l.initial.out - l.i) l.memory (l.address + l.i)) ≡ path_at (length l.initial.out) l.memory l.address
