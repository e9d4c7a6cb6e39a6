use Rattle.std.proofs.Common.{◌≡◌, ◌∙◌, sym, ap, subst, true}
use Rattle.std.specs.Prelude.{Contains}
use Rattle.nv_threads.specs.Threads.{Proc, threads}
use Rattle.nv_threads.specs.Ahead.{Known}
use Rattle.nv_threads.proofs.Aheads.{not_gone}
use Rattle.nv_threads.proofs.ThreadLaws.{threads_here}
use Rattle.nv_threads.proofs.eager.Eager.pc.Goals as goal

pub pc-requires : goal.pc-requires
pc-requires c =
    let e : c.self.inside.process ≡ c.args.self.now.process = not_gone c.self.inside.ahead c.self.inside.known.value c.self.inside.process c.args.tid c.self.invariant.gone (subst (λ (k : Known). threads.pending k.process c.args.tid ≡ true) (sym c.self.view_is) c.requires) ∙ ap (λ (k : Known). k.process) c.self.view_is in
    subst (λ (p : Proc). Contains (threads.live p) c.args.tid) (sym e) (threads_here c.args.self.now.process c.args.tid c.requires)

pub returns : goal.returns
returns c =
    let e : c.self.inside.process ≡ c.args.self.now.process = not_gone c.self.inside.ahead c.self.inside.known.value c.self.inside.process c.args.tid c.self.invariant.gone (subst (λ (k : Known). threads.pending k.process c.args.tid ≡ true) (sym c.self.view_is) c.requires) ∙ ap (λ (k : Known). k.process) c.self.view_is in
    c.pc.ensures ∙ ap (λ (p : Proc). threads.pc p c.args.tid) e
