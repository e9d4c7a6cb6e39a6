use Rattle.std.proofs.Common.{◌≡◌, ◌+◌, ◌-◌}
use Rattle.nv_bpf.specs.Texts.{ops_of}
use Rattle.nv_bpf.proofs.OpTexts.{with_prefix}
use Rattle.nv_bpf.proofs.reading.read_ops.Given as goal

abbrev pub invariant-loop : goal.invariant-loop
invariant-loop l = record {
  ops : ops_of 2 l.count l.fn.lines.left ≡ with_prefix l.ops.items (ops_of (l.counter + 2) (l.count - l.counter) l.lines.left);
  place : l.lines.before ≡ l.counter + 1;
}
