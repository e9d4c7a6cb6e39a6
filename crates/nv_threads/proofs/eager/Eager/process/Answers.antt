use Rattle.std.proofs.Common.{◌∙◌, ap, subst}
use Rattle.nv_threads.specs.Ahead.{HasGone, Known}
use Rattle.nv_threads.specs.declared.turns.Ahead.{Ahead}
use Rattle.nv_threads.proofs.eager.Eager.process.Goals as goal

pub returns : goal.returns
returns c =
    subst (λ (a : Ahead). HasGone c.self.inside.known.value a c.self.inside.process) (c.self.invariant.stays (ap (λ (k : Known). k.eager) c.self.view_is ∙ c.requires)) c.self.invariant.gone
    ∙ ap (λ (k : Known). k.process) c.self.view_is
