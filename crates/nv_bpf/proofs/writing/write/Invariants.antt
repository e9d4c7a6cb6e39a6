use Rattle.std.proofs.Common.{◌≡◌, ◌++◌, length, take, flat_map}
use Rattle.std.specs.List.{All}
use Rattle.nv_bpf.specs.Texts.{ended_number, op_text, FitsFields}
use Rattle.nv_bpf.proofs.writing.write.Given as goal

abbrev pub invariant-loop-place : goal.invariant-loop-place
invariant-loop-place l = record {
  text : l.text.items ≡ ended_number (length l.filter) 10 ++ flat_map op_text (take l.place l.filter);
  fits : All FitsFields (take l.place l.filter);
}
