use Rattle.std.proofs.Common.{subst}
use Rattle.nv_arriving.specs.Prepared.{AreNew}
use Rattle.nv_arriving.proofs.Inboxes.{new_front, new_last}
use Rattle.nv_arriving.proofs.prepared.Prepared.take_last.Goals as goal

pub invariant_of-self : goal.invariant_of-self
invariant_of-self c = new_front c.pop.new.self.items c.in-Some.last (subst AreNew c.in-Some.ensures.items c.self.invariant)

pub returns-clause-new : goal.returns-clause-new
returns-clause-new c = new_last c.pop.new.self.items c.in-Some.last (subst AreNew c.in-Some.ensures.items c.self.invariant)
