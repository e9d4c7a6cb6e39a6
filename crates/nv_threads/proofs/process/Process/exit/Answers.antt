use Rattle.std.proofs.Common.{◌≡◌, ◌∙◌, ◌-◌, ◌++◌, ◌∷◌, [], ◌<◌, ◌≤◌, sym, ap, subst, false, List, length, map, take, drop, get_or, arith}
use Rattle.std.specs.Prelude.{Contains, filter, remove}
use Rattle.std.proofs.lemmas.List.{length-map}
use Rattle.nv_calls.specs.declared.calls.Call.{Call}
use Rattle.nv_calls.specs.Calls.{request, Request}
use Rattle.nv_guest.specs.Threads as guests
use Rattle.nv_threads.specs.inner.Process.{IsSoundProcess}
use Rattle.nv_threads.specs.Tasks.{threads_of}
use Rattle.nv_threads.specs.inner.Tasks.{task_place}
use Rattle.nv_threads.proofs.ThreadLaws.{others}
use Rattle.nv_threads.specs.Threads.{Proc, Task as Thread, task_tids, left_by}
use Rattle.nv_threads.specs.declared.tasks.Task.{Task}
use Rattle.nv_threads.proofs.Keeping.{capacity_at}
use Rattle.nv_threads.proofs.Leaving.{with_less, removed_of, removed_is, capacity_more, capacity_less, map_more, map_less}
use Rattle.nv_threads.proofs.Places.{rewritten}
use Rattle.nv_threads.proofs.Writing.{lives_there}
use Rattle.nv_threads.proofs.process.Process.exit.Goals as goal

blank : Call
blank = record { tid = 0; nr = 0; args = []; bad = false; payload = record { bytes = []; capacity = 0 } }

pub place-place-requires : goal.place-place-requires
place-place-requires c = lives_there c.self.inside.tasks.items c.deref.result.now (map request c.self.inside.calls.items) c.args.tid c.deref.ensures.0
    (subst (λ (p : Proc). Contains (task_tids p.tasks) c.args.tid) (sym c.self.view_is) c.requires)

pub invariant_of-self : goal.invariant_of-self
invariant_of-self c =
    let i = c.self.inside in
    let cs = map request i.calls.items in
    let place = c.place-place.result in
    let x : Call = get_or i.calls.items place blank in
    let lives : Contains (task_tids (threads_of i.tasks.items cs)) c.args.tid = subst (λ (p : Proc). Contains (task_tids p.tasks) c.args.tid) (sym c.self.view_is) c.requires in
    let at : place ≡ task_place i.tasks.items c.args.tid = c.place-place.ensures.place ∙ ap (λ (ts : List Task). task_place ts c.args.tid) c.deref.ensures.0 in
    let few : length c.deref.result.now ≤ 8 = c.deref.ensures.1 in
    let same : length c.deref.result.now ≡ length i.tasks.items = ap length c.deref.ensures.0 in
    let here : place < length i.tasks.items = omega (arith, same, c.place-place.ensures.inside) in
    let there : place < length i.calls.items = omega (arith, here, same, few, c.self.invariant.eight) in
    let long : length i.tasks.items ≤ length cs = (let n = length-map i.calls.items request in omega (arith, same, few, c.self.invariant.eight, n)) in
    let new : c.to_end.new.calls ≡ remove i.calls.items place ++ x ∷ [] = c.to_end.ensures blank ∙ ap (λ (xs : List Call). remove xs place ++ get_or xs place blank ∷ []) c.deref_mut.ensures.value in
    let size : i.calls.len ≡ length c.to_end.new.calls = sym (c.to_end.auto.calls ∙ c.deref_mut.ensures.len) in
    let all : take i.calls.len (c.to_end.new.calls ++ drop (length c.to_end.new.calls) i.calls.items) ≡ remove i.calls.items place ++ x ∷ [] = rewritten i.calls.len i.calls.items c.to_end.new.calls size ∙ new in
    let requests : map request (remove i.calls.items place ++ x ∷ []) ≡ remove cs place ++ request x ∷ [] = map_more (remove i.calls.items place) x ∙ ap (λ (rs : List Request). rs ++ request x ∷ []) (map_less i.calls.items place) in
    let is : threads_of c.remove.new.self.items (map request (take i.calls.len (c.to_end.new.calls ++ drop (length c.to_end.new.calls) i.calls.items))) ≡ filter (others c.args.tid) (threads_of i.tasks.items cs)
    = ap (λ (ts : List Task). threads_of ts (map request (take i.calls.len (c.to_end.new.calls ++ drop (length c.to_end.new.calls) i.calls.items)))) c.remove.ensures.items
    ∙ (ap (λ (xs : List Call). threads_of (remove i.tasks.items place) (map request xs)) all
    ∙ (ap (threads_of (remove i.tasks.items place)) requests
    ∙ (removed_of i.tasks.items cs place (request x) here long
    ∙ (ap (remove (threads_of i.tasks.items cs)) at ∙ removed_is i.tasks.items cs c.args.tid long c.self.invariant.apart)))) in
    let gs = ap (λ (g : guests.Threaded). guests.tids g.threads) c.end_thread.ensures in
    let eight : length (remove i.calls.items place ++ x ∷ []) ≡ 8 = ap length (sym new) ∙ (c.to_end.auto.calls ∙ (ap length c.deref_mut.ensures.value ∙ c.self.invariant.eight)) in
    let capacity = capacity_more (remove i.calls.items place) x (capacity_less i.calls.items place c.self.invariant.capacity) (capacity_at i.calls.items place blank c.self.invariant.capacity there) in
    subst (λ (ds : List Call). IsSoundProcess i.count i.budget i.renewals i.earlier (threads_of c.remove.new.self.items (map request (take i.calls.len (c.to_end.new.calls ++ drop (length c.to_end.new.calls) i.calls.items)))) (guests.tids c.end_thread.new.self.threads) ds) (sym all)
    (subst (λ (ts : List Thread). IsSoundProcess i.count i.budget i.renewals i.earlier ts (guests.tids c.end_thread.new.self.threads) (remove i.calls.items place ++ x ∷ [])) (sym is)
    (with_less _ _ _ _ _ i.guest.threads _ _ (remove i.calls.items place ++ x ∷ []) c.args.tid c.self.invariant lives gs eight capacity))

pub returns : goal.returns
returns c =
    let i = c.self.inside in
    let cs = map request i.calls.items in
    let place = c.place-place.result in
    let x : Call = get_or i.calls.items place blank in
    let lives : Contains (task_tids (threads_of i.tasks.items cs)) c.args.tid = subst (λ (p : Proc). Contains (task_tids p.tasks) c.args.tid) (sym c.self.view_is) c.requires in
    let at : place ≡ task_place i.tasks.items c.args.tid = c.place-place.ensures.place ∙ ap (λ (ts : List Task). task_place ts c.args.tid) c.deref.ensures.0 in
    let few : length c.deref.result.now ≤ 8 = c.deref.ensures.1 in
    let same : length c.deref.result.now ≡ length i.tasks.items = ap length c.deref.ensures.0 in
    let here : place < length i.tasks.items = omega (arith, same, c.place-place.ensures.inside) in
    let there : place < length i.calls.items = omega (arith, here, same, few, c.self.invariant.eight) in
    let long : length i.tasks.items ≤ length cs = (let n = length-map i.calls.items request in omega (arith, same, few, c.self.invariant.eight, n)) in
    let new : c.to_end.new.calls ≡ remove i.calls.items place ++ x ∷ [] = c.to_end.ensures blank ∙ ap (λ (xs : List Call). remove xs place ++ get_or xs place blank ∷ []) c.deref_mut.ensures.value in
    let size : i.calls.len ≡ length c.to_end.new.calls = sym (c.to_end.auto.calls ∙ c.deref_mut.ensures.len) in
    let all : take i.calls.len (c.to_end.new.calls ++ drop (length c.to_end.new.calls) i.calls.items) ≡ remove i.calls.items place ++ x ∷ [] = rewritten i.calls.len i.calls.items c.to_end.new.calls size ∙ new in
    let requests : map request (remove i.calls.items place ++ x ∷ []) ≡ remove cs place ++ request x ∷ [] = map_more (remove i.calls.items place) x ∙ ap (λ (rs : List Request). rs ++ request x ∷ []) (map_less i.calls.items place) in
    let is : threads_of c.remove.new.self.items (map request (take i.calls.len (c.to_end.new.calls ++ drop (length c.to_end.new.calls) i.calls.items))) ≡ filter (others c.args.tid) (threads_of i.tasks.items cs)
    = ap (λ (ts : List Task). threads_of ts (map request (take i.calls.len (c.to_end.new.calls ++ drop (length c.to_end.new.calls) i.calls.items)))) c.remove.ensures.items
    ∙ (ap (λ (xs : List Call). threads_of (remove i.tasks.items place) (map request xs)) all
    ∙ (ap (threads_of (remove i.tasks.items place)) requests
    ∙ (removed_of i.tasks.items cs place (request x) here long
    ∙ (ap (remove (threads_of i.tasks.items cs)) at ∙ removed_is i.tasks.items cs c.args.tid long c.self.invariant.apart)))) in
    ap (λ (ts : List Thread). record { guest = c.end_thread.new.self; tasks = ts; turn = i.turn; slice = i.slice; left = i.budget - i.count; budget = i.budget; renewals = i.renewals; earlier = i.earlier; status = c.args.status; polls = i.polls }) is
    ∙ (ap (λ (g : guests.Threaded). record { guest = g; tasks = filter (others c.args.tid) (threads_of i.tasks.items cs); turn = i.turn; slice = i.slice; left = i.budget - i.count; budget = i.budget; renewals = i.renewals; earlier = i.earlier; status = c.args.status; polls = i.polls }) c.end_thread.ensures
    ∙ ap (λ (p : Proc). left_by p c.args.tid c.args.status) c.self.view_is)
