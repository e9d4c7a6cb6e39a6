use Rattle.std.proofs.Common.{◌∷◌, [], length, ap, arith}
use Rattle.nv_calls.specs.Calls.{entry}
use Rattle.nv_trace.specs.Trace.{arg}
use Rattle.nv_trace.proofs.fields.fields_of.Goals as goal

pub overflow_cast-sent : goal.overflow_cast-sent
overflow_cast-sent c = let short = c.requires.short in let same = ap length c.as_slice.ensures.bytes in omega arith

pub overflow_cast-came : goal.overflow_cast-came
overflow_cast-came c = let short = c.requires.short in let same = ap length c.as_slice-2.ensures.bytes in omega arith

pub returns : goal.returns
returns c =
    let e = c.args.event.now in
    λ i. e.call.tid ∷ e.call.nr ∷ arg (entry e) 0 ∷ arg (entry e) 1 ∷ arg (entry e) 2 ∷ arg (entry e) 3 ∷ arg (entry e) 4 ∷ arg (entry e) 5
    ∷ c.bit.ensures i ∷ c.bits_of.ensures i ∷ length (c.as_slice.ensures.bytes i) ∷ length (c.as_slice-2.ensures.bytes i) ∷ []
