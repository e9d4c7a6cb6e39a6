use Rattle.std.proofs.Common.{◌≡◌, ◌∙◌, ◌-◌, ◌++◌, ◌∷◌, [], sym, ap, subst, List, length, map, Some, arith}
use Rattle.std.specs.Prelude.{Contains}
use Rattle.std.proofs.lemmas.List.{length-map}
use Rattle.nv_calls.specs.Calls.{request}
use Rattle.nv_guest.specs.Threads as guests
use Rattle.nv_threads.specs.inner.Process.{IsSoundProcess}
use Rattle.nv_threads.specs.Tasks.{threads_of}
use Rattle.nv_threads.specs.inner.Tasks.{task_number}
use Rattle.nv_threads.specs.Threads.{Proc, Task as Thread, Runs, task_tids, with_child_task}
use Rattle.nv_threads.specs.declared.tasks.Task.{Task}
use Rattle.nv_threads.proofs.Leaving.{with_more, more_tids}
use Rattle.nv_threads.proofs.Tabling.{tids_of, more_of}
use Rattle.nv_threads.proofs.process.Process.start_child.Goals as goal

pub push-requires : goal.push-requires
push-requires c =
    let cs = map request c.self.inside.calls.items in
    let len : length (task_tids c.args.self.now.tasks) ≡ length c.self.inside.tasks.items
    = ap (λ (p : Proc). length (task_tids p.tasks)) (sym c.self.view_is) ∙ (ap length (tids_of c.self.inside.tasks.items cs) ∙ length-map c.self.inside.tasks.items task_number) in
    let few = c.requires.new.0 in
    (omega arith, omega (arith, len, few))

pub invariant_of-self : goal.invariant_of-self
invariant_of-self c =
    let i = c.self.inside in
    let cs = map request i.calls.items in
    let is = ap (λ (ts : List Task). threads_of ts cs) c.push.ensures.items ∙ more_of i.tasks.items cs c.args.child in
    let gs = ap (λ (g : guests.Threaded). guests.tids g.threads) c.clone_thread.ensures ∙ more_tids i.guest.threads (guests.child_thread i.guest.threads c.args.tid c.args.child) in
    subst (λ (ts : List Thread). IsSoundProcess i.count i.budget i.renewals i.earlier ts (guests.tids c.clone_thread.new.self.threads) i.calls.items) (sym is)
    (with_more _ _ _ _ _ _ _ _ c.args.tid c.args.child c.self.invariant
    (subst (λ (p : Proc). Contains (task_tids p.tasks) c.args.tid) (sym c.self.view_is) c.requires.lives)
    (λ (q : Contains (task_tids (threads_of i.tasks.items cs)) c.args.child). c.requires.new.1 (subst (λ (p : Proc). Contains (task_tids p.tasks) c.args.child) c.self.view_is q)) gs)

pub returns : goal.returns
returns c =
    let i = c.self.inside in
    let cs = map request i.calls.items in
    let is = ap (λ (ts : List Task). threads_of ts cs) c.push.ensures.items ∙ more_of i.tasks.items cs c.args.child in
    ap (λ (ts : List Thread). record { guest = c.clone_thread.new.self; tasks = ts; turn = i.turn; slice = i.slice; left = i.budget - i.count; budget = i.budget; renewals = i.renewals; earlier = i.earlier; status = i.status; polls = i.polls }) is
    ∙ (ap (λ (g : guests.Threaded). record { guest = g; tasks = threads_of i.tasks.items cs ++ record { tid = c.args.child; state = Runs } ∷ []; turn = i.turn; slice = i.slice; left = i.budget - i.count; budget = i.budget; renewals = i.renewals; earlier = i.earlier; status = i.status; polls = i.polls }) c.clone_thread.ensures
    ∙ ap (λ (p : Proc). with_child_task p c.args.tid (Some c.args.child)) c.self.view_is)
