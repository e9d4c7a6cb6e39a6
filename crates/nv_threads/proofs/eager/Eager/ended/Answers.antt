use Rattle.std.proofs.Common.{◌∙◌, ap}
use Rattle.nv_threads.specs.Threads.{threads}
use Rattle.nv_threads.specs.Ahead.{Known}
use Rattle.nv_threads.proofs.Aheads.{same_end}
use Rattle.nv_threads.proofs.eager.Eager.ended.Goals as goal

pub returns : goal.returns
returns c = c.ended.ensures ∙ (same_end c.self.inside.ahead c.self.inside.known.value c.self.inside.process c.self.invariant.gone ∙ ap (λ (k : Known). threads.ended k.process) c.self.view_is)
