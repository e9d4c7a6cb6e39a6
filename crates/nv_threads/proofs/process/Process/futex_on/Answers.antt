use Rattle.std.proofs.Common.{◌≡◌, ◌∙◌, sym, ap, subst, true, length, min, map, arith, ℕ, pos, ◌==◌, ◌≤◌, to_z, w32}
use Rattle.std.proofs.lemmas.Int.{to_z_pos}
use Rattle.std.proofs.lemmas.Bool.Decides.{nat_tests}
use Rattle.nv_calls.specs.Calls.{request}
use Rattle.nv_threads.specs.Threads.{Proc, state_at, is_running, woken, woke, turn_replied}
use Rattle.nv_threads.proofs.Tabling.{length_of}
use Rattle.nv_threads.proofs.Writing.{woken_runs}
use Rattle.nv_threads.proofs.process.Process.futex_on.Goals as goal

pub reply-requires : goal.reply-requires
reply-requires c =
    let is = ap (λ (r : ℕ × Proc). r.1) c.wake-count.ensures.woken in
    subst (λ (p : Proc). is_running (state_at p.tasks p.turn) ≡ true) is (woken_runs c.min.result c.args.address c.args.self.now c.requires)

pub returns-then-op-eq1 : goal.returns-then-op-eq1
returns-then-op-eq1 c =
    let op : (c.args.op == 1) ≡ true = (let o = c.if-op-eq1.true in grind (arith, nat_tests)) in
    let len : c.len-most.result ≡ length c.args.self.now.tasks
    = c.len-most.ensures.value ∙ (sym (length_of c.self.inside.tasks.items (map request c.self.inside.calls.items)) ∙ ap (λ (p : Proc). length p.tasks) c.self.view_is) in
    let most : c.min.result ≡ min c.args.value (length c.args.self.now.tasks) = c.min.ensures ∙ ap (min c.args.value) len in
    let small : c.wake-count.result ≤ 8 = omega (arith, c.wake-count.ensures.few, c.min.ensures, c.len-most.ensures.fits) in
    let count : to_z w32 c.wake-count.result ≡ pos c.wake-count.result = to_z_pos w32 c.wake-count.result (omega arith) in
    rw op (c.reply.ensures ∙ (ap (turn_replied c.wake-count.new.self) count
    ∙ (sym (ap woke c.wake-count.ensures.woken) ∙ ap (λ (k : ℕ). woke (woken k c.args.address c.args.self.now)) most)))
