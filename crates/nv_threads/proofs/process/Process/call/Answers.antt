use Rattle.std.proofs.Common.{◌≡◌, ◌∙◌, ◌<◌, ◌≤◌, ◌-◌, sym, ap, subst, refl, Bool, true, false, cond, ℕ, List, length, map, set, arith}
use Rattle.std.specs.List.{refill}
use Rattle.std.proofs.lemmas.List.{length-map}
use Rattle.nv_calls.specs.declared.calls.Call.{Call}
use Rattle.nv_calls.specs.Calls.{request, Request}
use Rattle.nv_calls.specs.Numbers.{is_local}
use Rattle.nv_calls.specs.Profiles.{in_profile}
use Rattle.nv_calls.proofs.ProfileLaws.{in_profile-tid}
use Rattle.nv_machine.specs.Guest.{Machine}
use Rattle.nv_machine.specs.Registers.{Registers}
use Rattle.nv_guest.specs.Calls.{call_at, call_number}
use Rattle.nv_guest.specs.Threads as guests
use Rattle.nv_guest.specs.declared.outcome.Asked.TheVariants.{Local, Logged}
use Rattle.nv_threads.specs.inner.Process.{IsSoundProcess}
use Rattle.nv_threads.specs.Tasks.{threads_of}
use Rattle.nv_threads.specs.inner.Tasks.{task_place, with_doing}
use Rattle.nv_threads.specs.Threads.{Proc, Task as Thread, Asks, state_at, with_state, is_running, machine, local, asking, called}
use Rattle.nv_threads.specs.declared.tasks.Doing.TheVariants as doing
use Rattle.nv_threads.specs.declared.tasks.Task.{Task}
use Rattle.nv_threads.proofs.Keeping.{running_lives, guest_lives, with_task, with_call, capacity_at, map_set}
use Rattle.nv_threads.proofs.Tabling.{running_of, unread, asks_of}
use Rattle.nv_threads.proofs.Writing.{lives_there, table_written}
use Rattle.nv_threads.proofs.process.Process.call.Goals as goal

logged_is : (b : Bool) → guests.asked_as b ≡ Logged → b ≡ false
logged_is true h = cc
logged_is false h = refl

local_is : (b : Bool) → guests.asked_as b ≡ Local → b ≡ true
local_is true h = refl
local_is false h = cc

made_by : (m : Machine) (t : ℕ) → (call_at m t).tid ≡ t
unfolding call_at
made_by m t = refl

own_tid : (polls : Bool) (m : Machine) (t : ℕ) → (in_profile polls (call_at m t)).tid ≡ t
own_tid polls m t = in_profile-tid polls (call_at m t) ∙ made_by m t

called_by : (p : Proc) (b : Bool) → is_local (call_number (machine p)) ≡ b → called p ≡ cond b (local (call_number (machine p)) p) (asking p)
called_by p b e = rw e refl

pub place-place-requires : goal.place-place-requires
place-place-requires c =
    let i = c.self.inside in
    let cs = map request i.calls.items in
    let runs : is_running (state_at (threads_of i.tasks.items cs) i.turn) ≡ true = subst (λ (p : Proc). is_running (state_at p.tasks p.turn) ≡ true) (sym c.self.view_is) c.requires in
    let lives = running_lives (threads_of i.tasks.items cs) i.turn runs in
    lives_there i.tasks.items c.deref.result.now cs i.turn c.deref.ensures.0 lives

pub asked_of-requires-clause-lives : goal.asked_of-requires-clause-lives
asked_of-requires-clause-lives c =
    let i = c.self.inside in
    let cs = map request i.calls.items in
    let runs : is_running (state_at (threads_of i.tasks.items cs) i.turn) ≡ true = subst (λ (p : Proc). is_running (state_at p.tasks p.turn) ≡ true) (sym c.self.view_is) c.requires in
    let lives = running_lives (threads_of i.tasks.items cs) i.turn runs in
    guest_lives _ _ _ _ _ _ _ i.turn c.self.invariant lives

pub asked_of-requires-clause-capacity : goal.asked_of-requires-clause-capacity
asked_of-requires-clause-capacity c =
    let few = c.deref.ensures.1 in
    let inside : c.place-place.result < length c.self.inside.calls.items = omega (arith, few, c.place-place.ensures.inside, c.self.invariant.eight) in
    subst (λ (k : Call). 4096 ≤ k.payload.capacity) (sym c.index_mut.ensures.value) (capacity_at c.self.inside.calls.items c.place-place.result c.index_mut.result.now c.self.invariant.capacity inside)

pub regs-requires : goal.regs-requires
regs-requires c =
    let i = c.self.inside in
    let cs = map request i.calls.items in
    let runs : is_running (state_at (threads_of i.tasks.items cs) i.turn) ≡ true = subst (λ (p : Proc). is_running (state_at p.tasks p.turn) ≡ true) (sym c.self.view_is) c.requires in
    let lives = running_lives (threads_of i.tasks.items cs) i.turn runs in
    guest_lives _ _ _ _ _ _ _ i.turn c.self.invariant lives

pub set_doing-requires : goal.set_doing-requires
set_doing-requires c =
    let i = c.self.inside in
    let cs = map request i.calls.items in
    let runs : is_running (state_at (threads_of i.tasks.items cs) i.turn) ≡ true = subst (λ (p : Proc). is_running (state_at p.tasks p.turn) ≡ true) (sym c.self.view_is) c.requires in
    let lives = running_lives (threads_of i.tasks.items cs) i.turn runs in
    lives_there i.tasks.items c.deref_mut.result.now cs i.turn c.deref_mut.ensures.value lives

pub invariant_of-self : goal.invariant_of-self
invariant_of-self c =
    let i = c.self.inside in
    let cs = map request i.calls.items in
    let runs : is_running (state_at (threads_of i.tasks.items cs) i.turn) ≡ true = subst (λ (p : Proc). is_running (state_at p.tasks p.turn) ≡ true) (sym c.self.view_is) c.requires in
    let lives = running_lives (threads_of i.tasks.items cs) i.turn runs in
    let few = c.deref.ensures.1 in
    let inside : c.place-place.result < length i.calls.items = omega (arith, few, c.place-place.ensures.inside, c.self.invariant.eight) in
    let capacity : 4096 ≤ c.asked_of.new.call.payload.capacity = subst (λ (n : ℕ). 4096 ≤ n) (sym c.in-Logged.ensures.capacity)
    (subst (λ (k : Call). 4096 ≤ k.payload.capacity) (sym c.index_mut.ensures.value) (capacity_at i.calls.items c.place-place.result c.index_mut.result.now c.self.invariant.capacity inside)) in
    let at : c.place-place.result ≡ task_place i.tasks.items i.turn = c.place-place.ensures.place ∙ ap (λ (ts : List Task). task_place ts i.turn) c.deref.ensures.0 in
    let r : Request = request c.asked_of.new.call in
    let long : length i.tasks.items ≤ length cs = (let n = length-map i.calls.items request in omega (arith, ap length c.deref.ensures.0, c.deref.ensures.1, c.self.invariant.eight, n)) in
    let is : threads_of (refill (length i.tasks.items) i.tasks.items c.set_doing.new.tasks) (map request (set i.calls.items c.place-place.result c.asked_of.new.call)) ≡ with_state (threads_of i.tasks.items cs) i.turn (Asks r)
    = ap (λ (ts : List Task). threads_of ts (map request (set i.calls.items c.place-place.result c.asked_of.new.call))) (table_written i.tasks.items c.deref_mut.result.now c.set_doing.new.tasks i.turn doing.Asks c.deref_mut.ensures.value c.set_doing.ensures)
    ∙ (ap (threads_of (with_doing i.tasks.items i.turn doing.Asks)) (map_set i.calls.items c.place-place.result c.asked_of.new.call ∙ ap (λ (k : ℕ). set cs k r) at)
    ∙ asks_of i.tasks.items cs i.turn r long) in
    let own = ap (λ (q : Request). q.tid) c.in-Logged.ensures.call ∙ own_tid i.polls (guests.machine_at i.guest i.turn) i.turn in
    subst (λ (ts : List Thread). IsSoundProcess i.count i.budget i.renewals i.earlier ts (guests.tids i.guest.threads) (set i.calls.items c.place-place.result c.asked_of.new.call)) (sym is)
    (with_call _ _ _ _ _ _ _ c.place-place.result c.asked_of.new.call (with_task _ _ _ _ _ _ _ i.turn (Asks r) c.self.invariant (own, c.in-Logged.ensures.shaped refl)) capacity)

pub invariant_of-self-in-Local : goal.invariant_of-self-in-Local
invariant_of-self-in-Local c =
    let i = c.self.inside in
    let cs = map request i.calls.items in
    let runs : is_running (state_at (threads_of i.tasks.items cs) i.turn) ≡ true = subst (λ (p : Proc). is_running (state_at p.tasks p.turn) ≡ true) (sym c.self.view_is) c.requires in
    let lives = running_lives (threads_of i.tasks.items cs) i.turn runs in
    let at : c.place-place.result ≡ task_place i.tasks.items i.turn = c.place-place.ensures.place ∙ ap (λ (ts : List Task). task_place ts i.turn) c.deref.ensures.0 in
    let unread_is : threads_of i.tasks.items (map request (set i.calls.items c.place-place.result c.asked_of.new.call)) ≡ threads_of i.tasks.items cs
    = ap (threads_of i.tasks.items) (map_set i.calls.items c.place-place.result c.asked_of.new.call ∙ ap (λ (k : ℕ). set cs k (request c.asked_of.new.call)) at)
    ∙ unread i.tasks.items cs i.turn (request c.asked_of.new.call) (sym (running_of i.tasks.items cs i.turn) ∙ runs) in
    let few = c.deref.ensures.1 in
    let inside : c.place-place.result < length i.calls.items = omega (arith, few, c.place-place.ensures.inside, c.self.invariant.eight) in
    let capacity : 4096 ≤ c.asked_of.new.call.payload.capacity = subst (λ (n : ℕ). 4096 ≤ n) (sym c.in-Local.ensures.capacity)
    (subst (λ (k : Call). 4096 ≤ k.payload.capacity) (sym c.index_mut.ensures.value) (capacity_at i.calls.items c.place-place.result c.index_mut.result.now c.self.invariant.capacity inside)) in
    subst (λ (ts : List Thread). IsSoundProcess i.count i.budget i.renewals i.earlier ts (guests.tids i.guest.threads) (set i.calls.items c.place-place.result c.asked_of.new.call)) (sym unread_is)
    (with_call _ _ _ _ _ _ _ c.place-place.result c.asked_of.new.call c.self.invariant capacity)

pub answer_local-requires : goal.answer_local-requires
answer_local-requires c =
    let i = c.self.inside in
    let cs = map request i.calls.items in
    let runs : is_running (state_at (threads_of i.tasks.items cs) i.turn) ≡ true = subst (λ (p : Proc). is_running (state_at p.tasks p.turn) ≡ true) (sym c.self.view_is) c.requires in
    let lives = running_lives (threads_of i.tasks.items cs) i.turn runs in
    let at : c.place-place.result ≡ task_place i.tasks.items i.turn = c.place-place.ensures.place ∙ ap (λ (ts : List Task). task_place ts i.turn) c.deref.ensures.0 in
    let unread_is : threads_of i.tasks.items (map request (set i.calls.items c.place-place.result c.asked_of.new.call)) ≡ threads_of i.tasks.items cs
    = ap (threads_of i.tasks.items) (map_set i.calls.items c.place-place.result c.asked_of.new.call ∙ ap (λ (k : ℕ). set cs k (request c.asked_of.new.call)) at)
    ∙ unread i.tasks.items cs i.turn (request c.asked_of.new.call) (sym (running_of i.tasks.items cs i.turn) ∙ runs) in
    subst (λ (ts : List Thread). is_running (state_at ts i.turn) ≡ true) (sym unread_is) runs

pub returns-in-Logged : goal.returns-in-Logged
returns-in-Logged c =
    let i = c.self.inside in
    let cs = map request i.calls.items in
    let runs : is_running (state_at (threads_of i.tasks.items cs) i.turn) ≡ true = subst (λ (p : Proc). is_running (state_at p.tasks p.turn) ≡ true) (sym c.self.view_is) c.requires in
    let lives = running_lives (threads_of i.tasks.items cs) i.turn runs in
    let at : c.place-place.result ≡ task_place i.tasks.items i.turn = c.place-place.ensures.place ∙ ap (λ (ts : List Task). task_place ts i.turn) c.deref.ensures.0 in
    let r : Request = request c.asked_of.new.call in
    let long : length i.tasks.items ≤ length cs = (let n = length-map i.calls.items request in omega (arith, ap length c.deref.ensures.0, c.deref.ensures.1, c.self.invariant.eight, n)) in
    let is : threads_of (refill (length i.tasks.items) i.tasks.items c.set_doing.new.tasks) (map request (set i.calls.items c.place-place.result c.asked_of.new.call)) ≡ with_state (threads_of i.tasks.items cs) i.turn (Asks r)
    = ap (λ (ts : List Task). threads_of ts (map request (set i.calls.items c.place-place.result c.asked_of.new.call))) (table_written i.tasks.items c.deref_mut.result.now c.set_doing.new.tasks i.turn doing.Asks c.deref_mut.ensures.value c.set_doing.ensures)
    ∙ (ap (threads_of (with_doing i.tasks.items i.turn doing.Asks)) (map_set i.calls.items c.place-place.result c.asked_of.new.call ∙ ap (λ (k : ℕ). set cs k r) at)
    ∙ asks_of i.tasks.items cs i.turn r long) in
    let v : Proc = record { guest = i.guest; tasks = threads_of i.tasks.items cs; turn = i.turn; slice = i.slice; left = i.budget - i.count; budget = i.budget; renewals = i.renewals; earlier = i.earlier; status = i.status; polls = i.polls } in
    let mine = logged_is (is_local (call_number (machine v))) (sym c.in-Logged.ensures.asked) in
    ap (λ (ts : List Thread). record v { tasks = ts }) is
    ∙ (ap (λ (q : Request). record v { tasks = with_state v.tasks v.turn (Asks q) }) c.in-Logged.ensures.call
    ∙ (sym (called_by v false mine) ∙ ap (λ (p : Proc). called p) c.self.view_is))

pub returns-in-Local : goal.returns-in-Local
returns-in-Local c =
    let i = c.self.inside in
    let cs = map request i.calls.items in
    let runs : is_running (state_at (threads_of i.tasks.items cs) i.turn) ≡ true = subst (λ (p : Proc). is_running (state_at p.tasks p.turn) ≡ true) (sym c.self.view_is) c.requires in
    let lives = running_lives (threads_of i.tasks.items cs) i.turn runs in
    let at : c.place-place.result ≡ task_place i.tasks.items i.turn = c.place-place.ensures.place ∙ ap (λ (ts : List Task). task_place ts i.turn) c.deref.ensures.0 in
    let unread_is : threads_of i.tasks.items (map request (set i.calls.items c.place-place.result c.asked_of.new.call)) ≡ threads_of i.tasks.items cs
    = ap (threads_of i.tasks.items) (map_set i.calls.items c.place-place.result c.asked_of.new.call ∙ ap (λ (k : ℕ). set cs k (request c.asked_of.new.call)) at)
    ∙ unread i.tasks.items cs i.turn (request c.asked_of.new.call) (sym (running_of i.tasks.items cs i.turn) ∙ runs) in
    let v : Proc = record { guest = i.guest; tasks = threads_of i.tasks.items cs; turn = i.turn; slice = i.slice; left = i.budget - i.count; budget = i.budget; renewals = i.renewals; earlier = i.earlier; status = i.status; polls = i.polls } in
    let mine = local_is (is_local (call_number (machine v))) (sym c.in-Local.ensures.asked) in
    let nr : c.get-nr.result ≡ call_number (machine v) = c.get-nr.ensures ∙ ap (λ (x : Registers). call_number (record { regs = x; memory = v.guest.memory })) c.regs.ensures in
    c.answer_local.ensures
    ∙ (ap (λ (ts : List Thread). local c.get-nr.result (record v { tasks = ts })) unread_is
    ∙ (ap (λ (n : ℕ). local n v) nr
    ∙ (sym (called_by v true mine) ∙ ap (λ (p : Proc). called p) c.self.view_is)))
