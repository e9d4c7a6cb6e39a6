use Rattle.std.proofs.Common.{◌+◌, ap, sym, subst, ◌∙◌, arith}
use Rattle.nv_asm.specs.declared.place.Reached.{Reached}
use Rattle.nv_asm.specs.Places.{Placed}
use Rattle.nv_asm.specs.inner.Lines.{IsSmall}
use Rattle.nv_asm.proofs.Passing.{before-is}
use Rattle.nv_asm.proofs.assembling.lay_line.Goals as goal

pub laid-requires-clause-short : goal.laid-requires-clause-short
laid-requires-clause-short c =
    let same = ap (λ (p : Placed). p.before) c.in_ok-placed.ensures.value ∙ before-is c.args.line c.args.reached c.args.text.now in
    omega (arith, ap (λ (r : Reached). r.text_len + r.data_len) same, c.requires.short)

pub after-requires : goal.after-requires
after-requires c =
    let same = ap (λ (p : Placed). p.before) c.in_ok-placed.ensures.value ∙ before-is c.args.line c.args.reached c.args.text.now in
    subst IsSmall (sym same) (record { text = omega (arith, c.requires.short); «data» = omega (arith, c.requires.short) })
