use Rattle.std.proofs.Common.{◌≡◌, ◌≤◌, length}
use Rattle.std.specs.Prelude.{vec_len, vec_capacity}
use Rattle.nv_workers.specs.Ran.{AreApart}
use Rattle.nv_workers.proofs.ran.take_apart.Given as goal

abbrev pub invariant-loop-worker : goal.invariant-loop-worker
invariant-loop-worker g l = record {
  apart : AreApart l.yielded l.versions.items l.left.items;
  versions_len : vec_len l.versions ≡ length l.yielded;
  left_len : vec_len l.left ≡ length l.yielded;
  versions_room : vec_len l.fn.workers ≤ vec_capacity l.versions;
  left_room : vec_len l.fn.workers ≤ vec_capacity l.left;
}
