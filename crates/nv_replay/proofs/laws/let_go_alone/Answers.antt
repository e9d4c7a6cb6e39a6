use Rattle.nv_threads.specs.Threads.{threads}
use Rattle.nv_replay.proofs.Behind.{left_behind_lines, no_other}
use Rattle.nv_replay.proofs.laws.let_go_alone.Goals as goal

pub returns-clause-followers : goal.returns-clause-followers
returns-clause-followers c = λ judges start most cuts hands ps k line at left. left_behind_lines threads judges start most cuts hands ps k line at left

pub returns-clause-others : goal.returns-clause-others
returns-clause-others c = λ judges start most cuts others hands ps i same a b. no_other threads judges start most hands i cuts others ps same a b
