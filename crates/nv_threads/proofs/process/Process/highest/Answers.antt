use Rattle.std.proofs.Common.{◌∙◌, sym, ap, map}
use Rattle.nv_calls.specs.Calls.{request}
use Rattle.nv_threads.specs.Threads.{Proc, greatest, task_tids}
use Rattle.nv_threads.specs.inner.Tasks.{task_numbers}
use Rattle.nv_threads.proofs.Tabling.{tids_of}
use Rattle.nv_threads.proofs.process.Process.highest.Goals as goal

pub returns : goal.returns
returns c =
    c.highest.ensures ∙ (ap (λ ts. greatest (task_numbers ts)) c.deref.ensures.0
    ∙ (ap greatest (sym (tids_of c.self.inside.tasks.items (map request c.self.inside.calls.items))) ∙ ap (λ (p : Proc). greatest (task_tids p.tasks)) c.self.view_is))
