use Rattle.std.proofs.Common.{◌≡◌, ℕ, ◌≤◌, List}
use Rattle.nv_bytes.specs.Lines.{lines}
use Rattle.nv_bytes.specs.Names.{defined}
use Rattle.nv_bpf_asm.specs.Assembled.{labels}
use Rattle.nv_bpf_asm.proofs.Naming.{found}
use Rattle.nv_bpf_asm.proofs.labels.labels.Given as goal

abbrev pub invariant-loop-line : goal.invariant-loop-line
invariant-loop-line l = record {
  named : (name : List ℕ) → found l.names (labels l.line-iterator.before l.place l.line-iterator.left) name ≡ defined (labels 0 0 (lines l.fn.text)) name;
  few : l.place ≤ l.line-iterator.before;
}
