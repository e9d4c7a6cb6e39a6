use Rattle.std.proofs.Common.{◌≡◌, ◌≤◌}
use Rattle.nv_bytes.specs.Lines.{lines}
use Rattle.nv_bytes.specs.Names.{defined}
use Rattle.nv_bpf_asm.specs.Assembled.{ops_of}
use Rattle.nv_bpf_asm.proofs.Gathering.{with_prefix}
use Rattle.nv_bpf_asm.proofs.assembling.ops_of.Given as goal

abbrev pub invariant-loop-line : goal.invariant-loop-line
invariant-loop-line l = record {
  ops : ops_of (defined l.names) 0 0 (lines l.fn.text) ≡ with_prefix l.ops.items (ops_of (defined l.names) l.line-iterator.before l.place l.line-iterator.left);
  few : l.place ≤ l.line-iterator.before;
}
