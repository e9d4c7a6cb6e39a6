use Rattle.std.proofs.Common.{◌≡◌, length}
use Rattle.nv_arriving.specs.Prepared.{AreNew}
use Rattle.nv_arriving.proofs.prepared.Prepared.make.Given as goal

abbrev pub invariant-loop-place : goal.invariant-loop-place
invariant-loop-place l = record {
  len : length l.inboxes.items ≡ l._place;
  new : AreNew l.inboxes.items;
}
