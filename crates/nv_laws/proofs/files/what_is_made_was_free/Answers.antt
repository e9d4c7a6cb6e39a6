use Rattle.nv_laws.proofs.Made.{opens_new, doubles, pipes}
use Rattle.nv_laws.proofs.files.what_is_made_was_free.Goals as goal

pub returns-clause-open_at : goal.returns-clause-open_at
returns-clause-open_at c = opens_new

pub returns-clause-dup : goal.returns-clause-dup
returns-clause-dup c = doubles

pub returns-clause-pipe : goal.returns-clause-pipe
returns-clause-pipe c = pipes
