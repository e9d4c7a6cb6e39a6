use Rattle.nv_calls.specs.Calls.{request}
use Rattle.nv_calls.proofs.ShapeLaws.{shaped-few}
use Rattle.nv_replay.proofs.taking.taken.Goals as goal

pub all_written-requires : goal.all_written-requires
all_written-requires c = shaped-few (request c.args.call.now) c.requires
