use Rattle.std.proofs.Common.{◌∙◌, sym, ap, map}
use Rattle.nv_calls.specs.Calls.{request}
use Rattle.nv_threads.specs.Threads.{Proc, state_at, is_asking}
use Rattle.nv_threads.specs.inner.Tasks.{doing_at, is_asks}
use Rattle.nv_threads.proofs.Tabling.{asking_of}
use Rattle.nv_threads.proofs.process.Process.is_asking.Goals as goal

pub returns : goal.returns
returns c =
    c.asks.ensures ∙ (ap (λ ts. is_asks (doing_at ts c.args.tid)) c.deref.ensures.0
    ∙ (sym (asking_of c.self.inside.tasks.items (map request c.self.inside.calls.items) c.args.tid) ∙ ap (λ (p : Proc). is_asking (state_at p.tasks c.args.tid)) c.self.view_is))
