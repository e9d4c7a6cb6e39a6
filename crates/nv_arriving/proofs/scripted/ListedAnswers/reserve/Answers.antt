use Rattle.nv_arriving.proofs.Standings.{listed_heard}
use Rattle.nv_arriving.proofs.scripted.ListedAnswers.reserve.Goals as goal

pub returns-clause-stands : goal.returns-clause-stands
returns-clause-stands c = λ setup log s.
    listed_heard (λ _ _ _. ⊥) (λ _. Unit {0}) c.args.self.now.guests c.reserve.new.self setup log (c.reserve.ensures.stands setup log) c.reserve.ensures.over c.reserve.ensures.came c.reserve.ensures.kept s
