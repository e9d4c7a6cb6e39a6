use Rattle.std.proofs.Common.{◌≡◌, ◌∙◌, ap, subst}
use Rattle.nv_threads.specs.Threads.{threads}
use Rattle.nv_threads.specs.Ahead.{HasGone, Known}
use Rattle.nv_threads.specs.declared.turns.Ahead.{Ahead}
use Rattle.nv_threads.specs.declared.turns.Ahead.TheVariants as ahead
use Rattle.nv_threads.specs.declared.eager.Eager.TheInside.{Inside}
use Rattle.nv_threads.proofs.Aheads.{same_end, goes_to, comes_to, known_as}
use Rattle.nv_threads.proofs.eager.Eager.advance.Goals as goal
use Rattle.nv_threads.proofs.eager.Eager.advance.Goals.{in-Comes, in_default}

pub advance-came-requires : goal.advance-came-requires
advance-came-requires c = same_end c.self.inside.ahead c.self.inside.known.value c.self.inside.process c.self.invariant.gone ∙ (ap (λ (k : Known). threads.ended k.process) c.self.view_is ∙ c.requires)

pub returns-clause-came : goal.returns-clause-came
returns-clause-came c =
    let known = c.self.inside.known.value in
    let p = c.self.inside.process in
    let same : threads.came known c.args.want ≡ threads.came c.args.self.now.process c.args.want = ap (λ (k : Known). threads.came k.process c.args.want) c.self.view_is in
    elim c.match-self.branch [
      | in-Comes w ↦
          let h : HasGone known (ahead.Comes w.in-Comes.came) p = subst (λ (a : Ahead). HasGone known a p) w.in-Comes.is c.self.invariant.gone in
          w.came-is ∙ ((comes_to known p c.args.want w.in-Comes.came h).0 ∙ same)
      | in_default w ↦
          let h = goes_to c.self.inside.ahead known p c.args.want c.self.invariant.gone w.in_default.not-Comes in
          w.came-is ∙ (w.advance-came.ensures.came ∙ (h.0 ∙ same))
    ]

pub returns-clause-after : goal.returns-clause-after
returns-clause-after c =
    let known = c.self.inside.known.value in
    let p = c.self.inside.process in
    let same : threads.after known c.args.want ≡ threads.after c.args.self.now.process c.args.want = ap (λ (k : Known). threads.after k.process c.args.want) c.self.view_is in
    elim c.match-self.branch [
      | in-Comes w ↦
          let h : HasGone known (ahead.Comes w.in-Comes.came) p = subst (λ (a : Ahead). HasGone known a p) w.in-Comes.is c.self.invariant.gone in
          known_as (c.of.ensures ∙ (ap (λ (i : Inside). i.process) w.self-inside-is ∙ ((comes_to known p c.args.want w.in-Comes.came h).1 ∙ same))) (ap (λ (i : Inside). i.eager) w.self-inside-is ∙ ap (λ (k : Known). k.eager) c.self.view_is)
      | in_default w ↦
          let h = goes_to c.self.inside.ahead known p c.args.want c.self.invariant.gone w.in_default.not-Comes in
          known_as (c.of.ensures ∙ (ap (λ (i : Inside). i.process) w.self-inside-is ∙ (w.advance-came.ensures.after ∙ (h.1 ∙ same)))) (ap (λ (i : Inside). i.eager) w.self-inside-is ∙ ap (λ (k : Known). k.eager) c.self.view_is)
    ]
