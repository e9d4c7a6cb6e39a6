use Rattle.std.proofs.Common.{◌≡◌, ◌-◌}
use Rattle.nv_fs.specs.States.{least_free, is_pipe}
use Rattle.nv_fs.specs.Ends.{free_pipe}
use Rattle.nv_fs.proofs.disk.FileSystem.free_pipe.Given as goal

-- what the numbers from here on give is the answer
abbrev pub invariant-loop-k : goal.invariant-loop-k
invariant-loop-k l = least_free (is_pipe l.self.state) (l.k-end - l.k) l.k ≡ free_pipe l.self.state
