use Rattle.std.proofs.Common.{map, length, option_map}
use Rattle.nv_calls.specs.Calls.{entry}
use Rattle.nv_threads.specs.Threads.{threads}
use Rattle.nv_replay.specs.Follow.{judge_of}
use Rattle.nv_replay.proofs.Falling.{size}
use Rattle.nv_replay.proofs.Wholes.{Goes}
use Rattle.nv_replay.proofs.whole_log.follow_all.Given as goal

abbrev pub invariant-loop-event : goal.invariant-loop-event
invariant-loop-event l = Goes threads (judge_of (option_map (λ f. f.now) l.rules) l.initial.version.index) (map entry l.log) l.initial.version l.version

abbrev pub decreases-loop-event : goal.decreases-loop-event
decreases-loop-event l = size threads (length l.log) l.version.at
