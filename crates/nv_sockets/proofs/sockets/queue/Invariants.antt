use Rattle.std.proofs.Common.{◌≡◌, ◌++◌, map, drop}
use Rattle.nv_sockets.specs.Serving.{waiting_from}
use Rattle.nv_sockets.specs.Views.{incoming_of}
use Rattle.nv_sockets.proofs.sockets.queue.Given as goal

abbrev pub invariant-loop-i : goal.invariant-loop-i
invariant-loop-i l = l.made.items ++ waiting_from l.i (map incoming_of (drop l.i l.stated)) ≡ waiting_from 0 (map incoming_of l.stated)
