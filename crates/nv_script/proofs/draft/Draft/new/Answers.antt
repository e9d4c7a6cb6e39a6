use Rattle.std.proofs.Common.{refl}
use Rattle.nv_bytes.specs.Names.{defined}
use Rattle.nv_script.proofs.draft.Draft.new.Goals as goal

pub invariant_of-result : goal.invariant_of-result
unfolding defined
invariant_of-result c name = rw (c.new-4.ensures, c.new-3.ensures.items) refl
