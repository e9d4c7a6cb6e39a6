use Rattle.std.proofs.Common.{ap}
use Rattle.nv_guest.specs.Threads as guests
use Rattle.nv_threads.proofs.Keeping.{with_guest}
use Rattle.nv_threads.proofs.process.Process.move_break.Goals as goal

pub invariant_of-self : goal.invariant_of-self
invariant_of-self c = with_guest _ _ _ _ _ _ _ _ c.self.invariant (ap (λ (g : guests.Threaded). guests.tids g.threads) c.move_break.ensures.after)
