use Rattle.std.proofs.Common.{◌≡◌, ◌∙◌, sym, ap, Bool, false, cond, ℕ, ◌==◌, length, map, Option, Some, None}
use Rattle.nv_calls.specs.Calls.{request}
use Rattle.nv_threads.specs.Threads.{Proc, threads}
use Rattle.nv_threads.proofs.Tabling.{length_of}
use Rattle.nv_threads.proofs.process.Process.ended.Goals as goal

pub returns-else-is_empty : goal.returns-else-is_empty
unfolding threads
returns-else-is_empty c =
    let p : Proc = c.args.self.now in
    let some : (length p.tasks == 0) ≡ false = ap (λ (q : Proc). length q.tasks == 0) (sym c.self.view_is)
    ∙ (ap (λ n. n == 0) (length_of c.self.inside.tasks.items (map request c.self.inside.calls.items)) ∙ (sym c.is_empty.ensures ∙ c.if-is_empty.false)) in
    sym (ap (λ (b : Bool). cond {A = Option ℕ} b (Some p.status) None) some)
