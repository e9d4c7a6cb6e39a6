use Rattle.std.proofs.Common.{◌≡◌, ◌+◌, map, drop}
use Rattle.nv_calls.specs.Calls.{entry}
use Rattle.nv_inspect.specs.Points.{place_of}
use Rattle.nv_inspect.proofs.points.place_of.Given as goal

abbrev pub invariant-loop-place : goal.invariant-loop-place
invariant-loop-place l = place_of l.nr (map entry l.log) ≡ l.place + place_of l.nr (map entry (drop l.place l.log))
