use Rattle.std.proofs.Common.{option_map, sym, ap, subst}
use Rattle.nv_calls.specs.Logs.{IsLawful}
use Rattle.nv_threads.specs.Threads.{threads}
use Rattle.nv_threads.proofs.ThreadLaws.{thread_laws}
use Rattle.nv_replay.specs.declared.standing.Standing.{Standing}
use Rattle.nv_replay.specs.Follow.{judge_of}
use Rattle.nv_sequence.proofs.Taking.{fated_done}
use Rattle.nv_sequence.proofs.running.finish.Goals as goal

pub follow_all-requires-clause-lawful : goal.follow_all-requires-clause-lawful
follow_all-requires-clause-lawful g c = subst IsLawful (sym c.history.ensures.log) c.history.ensures.lawful

pub returns-else-is_none-clause-new : goal.returns-else-is_none-clause-new
returns-else-is_none-clause-new g c =
    fated_done threads thread_laws (judge_of (option_map (λ f. f.now) c.args.rules)) (g.K.SyscallKernel.log c.args.kernel.now) c.args.version.now c.standing.result.now.fate
    c.if-is_none.ensures (ap (λ (x : Standing). x.fate) c.standing.ensures)
