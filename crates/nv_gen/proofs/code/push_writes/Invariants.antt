use Rattle.std.proofs.Common.{◌≡◌, ◌≤◌, ◌+◌, ◌*◌, ◌++◌, vec_len}
use Rattle.nv_gen.specs.Made.{calls_to}
use Rattle.nv_gen.specs.Measures.{numbers_in}
use Rattle.nv_gen.specs.Programs.{calls_code}
use Rattle.nv_gen.proofs.code.push_writes.Given as goal

abbrev pub invariant-loop-made : goal.invariant-loop-made
invariant-loop-made l = record {
  code : l.code.items ≡ l.fn.code.items ++ calls_code (calls_to (numbers_in l.measures) l.version l.made);
  least : vec_len l.fn.code ≤ vec_len l.code;
  most : vec_len l.code ≤ vec_len l.fn.code + 28 * l.made;
}
