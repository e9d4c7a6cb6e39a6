use Rattle.nv_calls.specs.Calls.{request}
use Rattle.nv_room_tests.proofs.Shaped.{any-thread}
use Rattle.nv_room_tests.proofs.calls.of_thread.Goals as goal

pub returns-clause-shaped : goal.returns-clause-shaped
returns-clause-shaped c = any-thread (request c.args.call) c.args.tid c.requires.shaped
