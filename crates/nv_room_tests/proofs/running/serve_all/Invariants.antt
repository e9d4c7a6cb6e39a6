use Rattle.std.proofs.Common.{◌≡◌, ◌+◌, ◌≤◌, length}
use Rattle.std.specs.Prelude.{Contains}
use Rattle.nv_calls.specs.Logs.{live_after}
use Rattle.nv_room_tests.proofs.running.serve_all.Given as goal

abbrev pub invariant-loop-event : goal.invariant-loop-event
invariant-loop-event g l = record {
  start : g.K.SyscallKernel.start l.kernel ≡ g.K.SyscallKernel.start l.initial.kernel;
  long : length (g.K.SyscallKernel.log l.kernel) + 1 ≡ l._event;
  few : l._event ≤ 500000000;
  lives : Contains (live_after (g.K.SyscallKernel.log l.kernel)) 100;
}
