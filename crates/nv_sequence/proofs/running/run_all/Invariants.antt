use Rattle.std.proofs.Common.{option_map, ◌≡◌, ◌+◌, length, map}
use Rattle.std.specs.Prelude.{if◌then◌else◌}
use Rattle.nv_calls.specs.Logs.{IsLawful}
use Rattle.nv_calls.specs.Learning.{FromAny}
use Rattle.nv_threads.specs.Threads.{threads}
use Rattle.nv_threads.proofs.ThreadLaws.{thread_laws}
use Rattle.nv_replay.specs.Follow.{judge_of}
use Rattle.nv_replay.specs.Hands.{count_above}
use Rattle.nv_replay.specs.Version.{process_of}
use Rattle.nv_sequence.proofs.Going.{After}
use Rattle.nv_sequence.proofs.running.run_all.Given as goal

abbrev pub invariant-loop-on : goal.invariant-loop-on
invariant-loop-on g l =
    FromAny (g.K.SyscallKernel.log l.kernel) (λ start. After threads thread_laws (judge_of (option_map (λ f. f.now) l.rules)) start l.most l.hands (map process_of l.initial.versions) l.versions l.order.items
    (g.K.SyscallKernel.log l.kernel) l.on) × IsLawful (g.K.SyscallKernel.log l.kernel) × (g.K.SyscallKernel.start l.kernel ≡ g.K.SyscallKernel.start l.initial.kernel)

abbrev pub decreases-loop-on : goal.decreases-loop-on
decreases-loop-on g l = length l.order.items + count_above l.hands (length (g.K.SyscallKernel.log l.kernel)) + (if l.on then 1 else 0)
