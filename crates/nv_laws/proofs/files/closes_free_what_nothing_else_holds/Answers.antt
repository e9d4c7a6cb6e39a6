use Rattle.nv_laws.proofs.Closing.{close_lets_go, dup3_lets_go}
use Rattle.nv_laws.proofs.files.closes_free_what_nothing_else_holds.Goals as goal

pub returns-clause-close : goal.returns-clause-close
returns-clause-close c = close_lets_go

pub returns-clause-dup3 : goal.returns-clause-dup3
returns-clause-dup3 c = dup3_lets_go
