use Rattle.std.proofs.Common.{◌∙◌, ◌+◌, arith, length-drop}
use Rattle.std.proofs.lemmas.List.{take_rest}
use Rattle.nv_elf.proofs.Headers.{overlap-found, overlap-later}
use Rattle.nv_elf.proofs.reader.first_overlap.Goals as goal

pub returns-in-Some-clause-places : goal.returns-in-Some-clause-places
returns-in-Some-clause-places c =
    overlap-found c.args.loadables.now c.loop-lower.lower c.in-Some.distance _ c.loop-lower-test.true c.in-Some.ensures.place ∙ c.loop-lower.invariant

pub returns-in-Some-clause-inside : goal.returns-in-Some-clause-inside
returns-in-Some-clause-inside c =
    let inside = rw take_rest at c.in-Some.ensures.inside in
    (c.loop-lower-test.true, omega (arith, inside, length-drop (c.loop-lower.lower + 1) c.args.loadables.now))

pub loop-lower-preserved : goal.loop-lower-preserved
loop-lower-preserved c =
    overlap-later c.args.loadables.now c.loop-lower.lower _ c.loop-lower-test.true c.in_default.ensures.place ∙ c.loop-lower.invariant
