use Rattle.nv_laws.proofs.Within.{seek_stays, read_stays, write_stays, unlink_takes}
use Rattle.nv_laws.proofs.files.calls_stay_within_their_open_file.Goals as goal

pub returns-clause-seek : goal.returns-clause-seek
returns-clause-seek c = seek_stays

pub returns-clause-read : goal.returns-clause-read
returns-clause-read c = read_stays

pub returns-clause-write : goal.returns-clause-write
returns-clause-write c = write_stays

pub returns-clause-unlink_at : goal.returns-clause-unlink_at
returns-clause-unlink_at c = unlink_takes
