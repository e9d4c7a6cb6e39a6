use Rattle.nv_laws.proofs.Sound.{first_is_sound, opened_is_sound, unlinked_is_sound, closed_is_sound, doubled_is_sound, moved_onto_is_sound, piped_is_sound, sought_is_sound, read_is_sound, written_is_sound}
use Rattle.nv_laws.proofs.files.calls_keep_the_tables_sound.Goals as goal

pub returns-clause-first : goal.returns-clause-first
returns-clause-first c = first_is_sound

pub returns-clause-open_at : goal.returns-clause-open_at
returns-clause-open_at c = opened_is_sound

pub returns-clause-unlink_at : goal.returns-clause-unlink_at
returns-clause-unlink_at c = unlinked_is_sound

pub returns-clause-close : goal.returns-clause-close
returns-clause-close c = closed_is_sound

pub returns-clause-dup : goal.returns-clause-dup
returns-clause-dup c = doubled_is_sound

pub returns-clause-dup3 : goal.returns-clause-dup3
returns-clause-dup3 c = moved_onto_is_sound

pub returns-clause-pipe : goal.returns-clause-pipe
returns-clause-pipe c = piped_is_sound

pub returns-clause-seek : goal.returns-clause-seek
returns-clause-seek c = sought_is_sound

pub returns-clause-read : goal.returns-clause-read
returns-clause-read c = read_is_sound

pub returns-clause-write : goal.returns-clause-write
returns-clause-write c = written_is_sound
