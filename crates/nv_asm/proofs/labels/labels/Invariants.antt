use Rattle.std.proofs.Common.{◌≡◌, ℕ, ◌+◌, ◌^◌, ◌≤◌, List, map}
use Rattle.nv_bytes.specs.Lines.{lines}
use Rattle.nv_bytes.specs.Names.{defined, definitions}
use Rattle.nv_asm.specs.Places.{placed, ended, nothing_reached, marked}
use Rattle.nv_asm.specs.inner.Known.{defined_among, IsBelow}
use Rattle.nv_asm.proofs.Passing.{weight}
use Rattle.nv_asm.proofs.labels.labels.Given as goal

abbrev pub invariant-loop-line : goal.invariant-loop-line
invariant-loop-line l = record {
  named : (name : List ℕ) → defined_among l.names (definitions (map marked (placed l.line-iterator.before l.reached l.line-iterator.left))) name ≡ defined (definitions (map marked (placed 0 nothing_reached (lines l.fn.text)))) name;
  places : IsBelow (2 ^ 121) l.names;
  ends : ended l.reached (placed l.line-iterator.before l.reached l.line-iterator.left) ≡ ended nothing_reached (placed 0 nothing_reached (lines l.fn.text));
  filled : l.reached.text_len + l.reached.data_len + weight l.line-iterator.left ≤ weight (lines l.fn.text);
}
