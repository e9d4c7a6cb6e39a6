use Rattle.std.proofs.Common.{sym}
use Rattle.nv_room.proofs.Placement.{table_size}
use Rattle.nv_room.proofs.make.words_of.Goals as goal

pub returns : goal.returns
returns c = sym (table_size c.args.stations c.args.places)
