use Rattle.std.proofs.Common.{◌≡◌, ◌-◌}
use Rattle.nv_fs.specs.States.{least_free, is_shared, free_open}
use Rattle.nv_fs.proofs.disk.FileSystem.free_open.Given as goal

-- what the numbers from here on give is the answer
abbrev pub invariant-loop-i : goal.invariant-loop-i
invariant-loop-i l = least_free (is_shared l.self.state) (l.i-end - l.i) l.i ≡ free_open l.self.state
