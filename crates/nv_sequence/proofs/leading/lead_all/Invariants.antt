use Rattle.std.proofs.Common.{◌≡◌}
use Rattle.nv_calls.specs.Logs.{IsLawful}
use Rattle.nv_calls.specs.Learning.{FromAny}
use Rattle.nv_threads.specs.Threads.{threads}
use Rattle.nv_threads.proofs.ThreadLaws.{thread_laws}
use Rattle.nv_replay.specs.Version.{leader_of}
use Rattle.nv_replay.proofs.Falling.{lead_size}
use Rattle.nv_sequence.specs.Passing.{Grows}
use Rattle.nv_sequence.proofs.Wholly.{LedSo}
use Rattle.nv_sequence.proofs.leading.lead_all.Given as goal

abbrev pub invariant-loop-on : goal.invariant-loop-on
invariant-loop-on g l =
    FromAny (g.K.SyscallKernel.log l.kernel) (λ start. LedSo threads thread_laws start l.most l.hands l.initial.version l.version (g.K.SyscallKernel.log l.initial.kernel) (g.K.SyscallKernel.log l.kernel) l.on)
    × Grows (g.K.SyscallKernel.log l.initial.kernel) (g.K.SyscallKernel.log l.kernel) × IsLawful (g.K.SyscallKernel.log l.kernel)
    × (g.K.SyscallKernel.start l.kernel ≡ g.K.SyscallKernel.start l.initial.kernel)

abbrev pub decreases-loop-on : goal.decreases-loop-on
decreases-loop-on g l = lead_size threads (leader_of l.version (g.K.SyscallKernel.log l.kernel))
