use Rattle.std.proofs.Common.{ap, sym, subst, ◌∙◌}
use Rattle.nv_asm.specs.Places.{Placed}
use Rattle.nv_asm.specs.inner.Lines.{IsSmall}
use Rattle.nv_asm.proofs.Passing.{before-is}
use Rattle.nv_asm.proofs.labels.take_up.Goals as goal

pub define-requires : goal.define-requires
define-requires c = subst IsSmall (sym (ap (λ (p : Placed). p.before) c.in_ok-placed.ensures.value ∙ before-is c.args.line c.args.before c.args.content.now)) c.requires

pub after-requires : goal.after-requires
after-requires c = subst IsSmall (sym (ap (λ (p : Placed). p.before) c.in_ok-placed.ensures.value ∙ before-is c.args.line c.args.before c.args.content.now)) c.requires
