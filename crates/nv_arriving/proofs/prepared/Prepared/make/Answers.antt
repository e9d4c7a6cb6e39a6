use Rattle.std.proofs.Common.{ap, sym, subst, ◌∷◌, [], length, length-append, arith}
use Rattle.nv_sockets.specs.Inboxes.{Room}
use Rattle.nv_arriving.specs.Prepared.{AreNew}
use Rattle.nv_arriving.proofs.Inboxes.{new_more}
use Rattle.nv_arriving.proofs.prepared.Prepared.make.Goals as goal

pub loop-place-preserved : goal.loop-place-preserved
loop-place-preserved c = record {
  len = omega (arith, ap (λ z. length z) c.in_ok-push.ensures.items, length-append c.loop-place.inboxes.items (c.new.result ∷ []), c.loop-place.invariant.len);
  new = subst AreNew (sym c.in_ok-push.ensures.items) (new_more c.loop-place.inboxes.items c.new.result c.loop-place.invariant.new (ap (λ (z : Room). z.inbox) c.new.ensures));
}
