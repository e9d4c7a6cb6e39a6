use Rattle.nv_room_tests.proofs.Orders.{first_after}
use Rattle.nv_room_tests.proofs.running.end_all.Goals as goal

pub finish-requires-after_bounds : goal.finish-requires-after_bounds
finish-requires-after_bounds g c κs within = first_after c.args.room c.args.others.items c.push.new.self.items c.args.first c.in_ok-push.ensures.items c.requires.others.0 c.requires.first.0 c.requires.first.1 c.requires.others.1
