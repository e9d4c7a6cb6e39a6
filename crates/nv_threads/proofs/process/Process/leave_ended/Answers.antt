use Rattle.std.proofs.Common.{◌∙◌, sym, ap, cond, map}
use Rattle.std.specs.Prelude.{is_some}
use Rattle.nv_calls.specs.Calls.{request}
use Rattle.nv_threads.specs.Threads.{Proc, state_at, turn_passed}
use Rattle.nv_threads.specs.inner.Tasks.{doing_at}
use Rattle.nv_threads.proofs.Tabling.{live_of}
use Rattle.nv_threads.proofs.process.Process.leave_ended.Goals as goal

pub returns-then-lives : goal.returns-then-lives
returns-then-lives c =
    let there = ap (λ (p : Proc). is_some (state_at p.tasks p.turn)) (sym c.self.view_is)
    ∙ (live_of c.self.inside.tasks.items (map request c.self.inside.calls.items) c.self.inside.turn
    ∙ (ap (λ ts. is_some (doing_at ts c.self.inside.turn)) (sym c.deref.ensures.0) ∙ sym c.lives.ensures)) in
    sym (ap (λ b. cond b c.args.self.now (turn_passed c.args.self.now)) (there ∙ c.if-lives.true))

pub returns : goal.returns
returns c =
    let there = ap (λ (p : Proc). is_some (state_at p.tasks p.turn)) (sym c.self.view_is)
    ∙ (live_of c.self.inside.tasks.items (map request c.self.inside.calls.items) c.self.inside.turn
    ∙ (ap (λ ts. is_some (doing_at ts c.self.inside.turn)) (sym c.deref.ensures.0) ∙ sym c.lives.ensures)) in
    c.pass.ensures ∙ sym (ap (λ b. cond b c.args.self.now (turn_passed c.args.self.now)) (there ∙ c.if-lives.false))
