use Rattle.nv_laws.proofs.Ending.{ends, turns_are_fair}
use Rattle.nv_laws.proofs.progress.every_run_ends.Goals as goal

pub returns-clause-fair : goal.returns-clause-fair
returns-clause-fair g c = λ p state left run fair. ends _ _ p state left run fair

pub returns-clause-turns : goal.returns-clause-turns
returns-clause-turns g c = λ p state left run turns. ends _ _ p state left run (turns_are_fair _ _ p state left run turns)
