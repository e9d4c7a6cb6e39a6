use Rattle.std.proofs.Common.{◌≡◌, ◌∙◌, sym, ap, subst, true}
use Rattle.nv_threads.specs.Threads.{Proc, threads}
use Rattle.nv_threads.specs.Ahead.{Known}
use Rattle.nv_threads.proofs.Aheads.{not_gone}
use Rattle.nv_threads.proofs.eager.Eager.pending.Goals as goal

pub pending-requires : goal.pending-requires
pending-requires c =
    let e : c.self.inside.process ≡ c.args.self.now.process = not_gone c.self.inside.ahead c.self.inside.known.value c.self.inside.process c.args.tid c.self.invariant.gone (subst (λ (k : Known). threads.pending k.process c.args.tid ≡ true) (sym c.self.view_is) c.requires) ∙ ap (λ (k : Known). k.process) c.self.view_is in
    subst (λ (p : Proc). threads.pending p c.args.tid ≡ true) (sym e) c.requires

pub returns-clause-call : goal.returns-clause-call
returns-clause-call c =
    let e : c.self.inside.process ≡ c.args.self.now.process = not_gone c.self.inside.ahead c.self.inside.known.value c.self.inside.process c.args.tid c.self.invariant.gone (subst (λ (k : Known). threads.pending k.process c.args.tid ≡ true) (sym c.self.view_is) c.requires) ∙ ap (λ (k : Known). k.process) c.self.view_is in
    c.pending.ensures.call ∙ ap (λ (p : Proc). threads.call p c.args.tid) e
