use Rattle.std.proofs.Common.{◌≡◌, map}
use Rattle.nv_calls.specs.Calls.{entry}
use Rattle.nv_trace.proofs.Playing.{HasPlayed}
use Rattle.nv_trace.proofs.checking.check.Given as goal

abbrev pub invariant-loop-event : goal.invariant-loop-event
invariant-loop-event g l =
    record {
      start_is : g.K.SyscallKernel.start l.kernel ≡ g.K.SyscallKernel.start l.fn.kernel;
      played : HasPlayed (g.K.SyscallKernel.known l.fn.kernel) (map entry l.events) l.event-index (g.K.SyscallKernel.known l.kernel) (g.K.SyscallKernel.log l.kernel) l.live.items;
    }
