use Rattle.std.proofs.Common.{◌≡◌, ◌∙◌, sym, ap, subst, true, ℤ, to_z, of_z, w32}
use Rattle.std.proofs.lemmas.Int.{to_z-of_z}
use Rattle.nv_calls.specs.Logs.{made, IsNew}
use Rattle.nv_threads.specs.Threads.{Proc, threads}
use Rattle.nv_threads.specs.Ahead.{Known}
use Rattle.nv_threads.proofs.Aheads.{not_gone, known_as}
use Rattle.nv_threads.proofs.eager.Eager.give.Goals as goal

pub give-requires-clause-pending : goal.give-requires-clause-pending
give-requires-clause-pending c =
    let e : c.self.inside.process ≡ c.args.self.now.process = not_gone c.self.inside.ahead c.self.inside.known.value c.self.inside.process c.args.tid c.self.invariant.gone (subst (λ (k : Known). threads.pending k.process c.args.tid ≡ true) (sym c.self.view_is) c.requires.pending) ∙ ap (λ (k : Known). k.process) c.self.view_is in
    subst (λ (p : Proc). threads.pending p c.args.tid ≡ true) (sym e) c.requires.pending

pub give-requires-clause-new : goal.give-requires-clause-new
give-requires-clause-new c =
    let e : c.self.inside.process ≡ c.args.self.now.process = not_gone c.self.inside.ahead c.self.inside.known.value c.self.inside.process c.args.tid c.self.invariant.gone (subst (λ (k : Known). threads.pending k.process c.args.tid ≡ true) (sym c.self.view_is) c.requires.pending) ∙ ap (λ (k : Known). k.process) c.self.view_is in
    subst (λ (p : Proc). IsNew (threads.live p) (made (threads.call p c.args.tid).nr (to_z w32 (of_z w32 c.args.ret)))) (sym e)
    (subst (λ (r : ℤ). IsNew (threads.live c.args.self.now.process) (made (threads.call c.args.self.now.process c.args.tid).nr r)) (sym (to_z-of_z w32 c.args.ret c.ranges.ret)) c.requires.new)

pub returns : goal.returns
returns c =
    let e : c.self.inside.process ≡ c.args.self.now.process = not_gone c.self.inside.ahead c.self.inside.known.value c.self.inside.process c.args.tid c.self.invariant.gone (subst (λ (k : Known). threads.pending k.process c.args.tid ≡ true) (sym c.self.view_is) c.requires.pending) ∙ ap (λ (k : Known). k.process) c.self.view_is in
    known_as
    (c.of.ensures
    ∙ (c.give.ensures
    ∙ (ap (λ (p : Proc). threads.given p c.args.tid (record { ret = to_z w32 (of_z w32 c.args.ret); payload = c.args.payload.now })) e
    ∙ ap (λ (r : ℤ). threads.given c.args.self.now.process c.args.tid (record { ret = r; payload = c.args.payload.now })) (to_z-of_z w32 c.args.ret c.ranges.ret)))) (ap (λ (k : Known). k.eager) c.self.view_is)
