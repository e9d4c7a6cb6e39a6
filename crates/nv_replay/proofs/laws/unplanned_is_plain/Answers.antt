use Rattle.nv_threads.specs.Threads.{threads}
use Rattle.nv_threads.proofs.ThreadLaws.{thread_laws}
use Rattle.nv_replay.proofs.Unplanned.{no_hands}
use Rattle.nv_replay.proofs.laws.unplanned_is_plain.Goals as goal

pub returns : goal.returns
returns c = λ judges start most cuts ps. no_hands threads thread_laws judges start most cuts ps
