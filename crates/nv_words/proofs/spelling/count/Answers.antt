use Rattle.std.proofs.Common.{arith, ap, length}
use Rattle.nv_calls.specs.Calls.{entry}
use Rattle.nv_words.proofs.SpellLaws.{spell_length}
use Rattle.nv_words.proofs.spelling.count.Goals as goal

pub returns : goal.returns
returns c = let e = c.args.event.now in let a = ap length c.as_slice.ensures.bytes in let b = ap length c.as_slice-2.ensures.bytes in let d = c.div_ceil.ensures in let l = spell_length (entry e) in omega arith
