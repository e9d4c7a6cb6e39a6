use Rattle.std.proofs.Common.{◌∙◌, sym, ap, ◌==◌, ◌&&◌, not, map}
use Rattle.nv_calls.specs.Calls.{request}
use Rattle.nv_threads.specs.Threads.{Proc, is_on}
use Rattle.nv_threads.specs.inner.Tasks.{doing_at, is_runs}
use Rattle.nv_threads.proofs.Tabling.{running_of}
use Rattle.nv_threads.proofs.process.Process.is_on.Goals as goal

pub returns-then-runs : goal.returns-then-runs
returns-then-runs c =
    let running = running_of c.self.inside.tasks.items (map request c.self.inside.calls.items) c.self.inside.turn
    ∙ (ap (λ ts. is_runs (doing_at ts c.self.inside.turn)) (sym c.deref.ensures.0) ∙ sym c.runs.ensures) in
    sym (ap (λ b. b && not (c.self.inside.slice == 0)) (running ∙ c.if-runs.true)) ∙ ap (λ (p : Proc). is_on p) c.self.view_is

pub returns-else-runs : goal.returns-else-runs
returns-else-runs c =
    let running = running_of c.self.inside.tasks.items (map request c.self.inside.calls.items) c.self.inside.turn
    ∙ (ap (λ ts. is_runs (doing_at ts c.self.inside.turn)) (sym c.deref.ensures.0) ∙ sym c.runs.ensures) in
    c.if-runs.false ∙ (sym (ap (λ b. b && not (c.self.inside.slice == 0)) (running ∙ c.if-runs.false)) ∙ ap (λ (p : Proc). is_on p) c.self.view_is)
