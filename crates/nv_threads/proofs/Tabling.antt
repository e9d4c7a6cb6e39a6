-- The tables of a process and the threads that they say.
use Rattle.std.proofs.Common.{◌≡◌, ◌∙◌, ap, refl, ℕ, suc, ◌≤◌, Bool, true, false, cond, ◌==◌, ◌||◌, List, [], ◌∷◌, ◌++◌, length, set, Option, Some, None, arith}
use Rattle.std.specs.Prelude.{is_some}
use Rattle.std.specs.List.{list_any}
use Rattle.nv_calls.specs.Calls.{Request}
use Rattle.nv_threads.specs.Threads.{TaskState, Runs, Asks, Task as Thread, task_tids, state_at, with_state, is_running, is_asking, moves, moves_task, asks, waits_at, least_waiter, lesser, no_call}
use Rattle.nv_threads.specs.Tasks.{state_by, thread_by, threads_of}
use Rattle.nv_threads.specs.inner.Tasks.{task_numbers, doing_at, with_doing, task_place, moves_by, can_move_by, any_asks_by, waits_by, waiter_by, is_runs, is_asks}
use Rattle.nv_threads.specs.declared.tasks.Doing.{Doing}
use Rattle.nv_threads.specs.declared.tasks.Doing.TheVariants as doing
use Rattle.nv_threads.specs.declared.tasks.Task.{Task}
use Rattle.nv_threads.specs.declared.turns.Want.{Want}
use Rattle.nv_threads.specs.declared.turns.Want.TheVariants.{Any, Only}

pub tids_of : (ts : List Task) (cs : List Request) → task_tids (threads_of ts cs) ≡ task_numbers ts
tids_of [] cs = refl
tids_of (t ∷ ts) [] = ap (λ rest. t.tid ∷ rest) (tids_of ts [])
tids_of (t ∷ ts) (c ∷ cs) = ap (λ rest. t.tid ∷ rest) (tids_of ts cs)

pub length_of : (ts : List Task) (cs : List Request) → length (threads_of ts cs) ≡ length ts
length_of [] cs = refl
length_of (t ∷ ts) [] = ap suc (length_of ts [])
length_of (t ∷ ts) (c ∷ cs) = ap suc (length_of ts cs)

-- ---- what a thread does

running_as : (d : Doing) (c : Request) → is_running (Some (state_by d c)) ≡ is_runs (Some d)
running_as doing.Runs c = refl
running_as doing.Asks c = refl
running_as (doing.Waits a) c = refl

asking_as : (d : Doing) (c : Request) → is_asking (Some (state_by d c)) ≡ is_asks (Some d)
asking_as doing.Runs c = refl
asking_as doing.Asks c = refl
asking_as (doing.Waits a) c = refl

choose : (P : Option TaskState → Bool) (Q : Option Doing → Bool) (d : Doing) (c : Request) (s : Option TaskState) (e : Option Doing) (b : Bool)
    → P (Some (state_by d c)) ≡ Q (Some d) → P s ≡ Q e → P (cond b (Some (state_by d c)) s) ≡ Q (cond b (Some d) e)
choose P Q d c s e true h k = h
choose P Q d c s e false h k = k

pub by_doing : (P : Option TaskState → Bool) (Q : Option Doing → Bool) → ((d : Doing) (c : Request) → P (Some (state_by d c)) ≡ Q (Some d)) → P None ≡ Q None
    → (ts : List Task) (cs : List Request) (tid : ℕ) → P (state_at (threads_of ts cs) tid) ≡ Q (doing_at ts tid)
by_doing P Q each none [] cs tid = none
by_doing P Q each none (t ∷ ts) [] tid = choose P Q t.doing no_call _ _ (t.tid == tid) (each t.doing no_call) (by_doing P Q each none ts [] tid)
by_doing P Q each none (t ∷ ts) (c ∷ cs) tid = choose P Q t.doing c _ _ (t.tid == tid) (each t.doing c) (by_doing P Q each none ts cs tid)

pub running_of : (ts : List Task) (cs : List Request) (tid : ℕ) → is_running (state_at (threads_of ts cs) tid) ≡ is_runs (doing_at ts tid)
running_of = by_doing is_running is_runs running_as refl

pub asking_of : (ts : List Task) (cs : List Request) (tid : ℕ) → is_asking (state_at (threads_of ts cs) tid) ≡ is_asks (doing_at ts tid)
asking_of = by_doing is_asking is_asks asking_as refl

pub live_of : (ts : List Task) (cs : List Request) (tid : ℕ) → is_some (state_at (threads_of ts cs) tid) ≡ is_some (doing_at ts tid)
live_of = by_doing (λ s. is_some s) (λ d. is_some d) (λ d c. refl) refl

moves_as : (w : Want) (d : Doing) (c : Request) → moves w (state_by d c) ≡ moves_by w d
moves_as w doing.Runs c = refl
moves_as Any doing.Asks c = refl
moves_as (Only t) doing.Asks c = refl
moves_as w (doing.Waits a) c = refl

pub moves_of : (w : Want) (ts : List Task) (cs : List Request) → list_any (moves_task w) (threads_of ts cs) ≡ can_move_by w ts
moves_of w [] cs = refl
moves_of w (t ∷ ts) [] = ap (λ b. b || list_any (moves_task w) (threads_of ts [])) (moves_as w t.doing no_call) ∙ ap (λ b. moves_by w t.doing || b) (moves_of w ts [])
moves_of w (t ∷ ts) (c ∷ cs) = ap (λ b. b || list_any (moves_task w) (threads_of ts cs)) (moves_as w t.doing c) ∙ ap (λ b. moves_by w t.doing || b) (moves_of w ts cs)

pub any_asks_of : (ts : List Task) (cs : List Request) → list_any asks (threads_of ts cs) ≡ any_asks_by ts
any_asks_of [] cs = refl
any_asks_of (t ∷ ts) [] = ap (λ b. b || list_any asks (threads_of ts [])) (asking_as t.doing no_call) ∙ ap (λ b. is_asks (Some t.doing) || b) (any_asks_of ts [])
any_asks_of (t ∷ ts) (c ∷ cs) = ap (λ b. b || list_any asks (threads_of ts cs)) (asking_as t.doing c) ∙ ap (λ b. is_asks (Some t.doing) || b) (any_asks_of ts cs)

waits_as : (a : ℕ) (d : Doing) (c : Request) → waits_at a (state_by d c) ≡ waits_by a d
waits_as a doing.Runs c = refl
waits_as a doing.Asks c = refl
waits_as a (doing.Waits b) c = refl

pub waiter_of : (a : ℕ) (ts : List Task) (cs : List Request) → least_waiter a (threads_of ts cs) ≡ waiter_by a ts
waiter_of a [] cs = refl
waiter_of a (t ∷ ts) [] = ap (λ b. cond b (Some (lesser t.tid (least_waiter a (threads_of ts [])))) (least_waiter a (threads_of ts []))) (waits_as a t.doing no_call)
    ∙ ap (λ o. cond (waits_by a t.doing) (Some (lesser t.tid o)) o) (waiter_of a ts [])
waiter_of a (t ∷ ts) (c ∷ cs) = ap (λ b. cond b (Some (lesser t.tid (least_waiter a (threads_of ts cs)))) (least_waiter a (threads_of ts cs))) (waits_as a t.doing c)
    ∙ ap (λ o. cond (waits_by a t.doing) (Some (lesser t.tid o)) o) (waiter_of a ts cs)

-- ---- writes

-- what a thread does changes to something without a call
module _ (d : Doing) (s : TaskState) (each : (c : Request) → state_by d c ≡ s) where
  doing_by : (t : Task) (ts : List Task) (c : Request) (cs : List Request) (tid : ℕ) (b : Bool) → threads_of (with_doing ts tid d) cs ≡ with_state (threads_of ts cs) tid s
      → threads_of (cond b (record t { doing = d } ∷ ts) (t ∷ with_doing ts tid d)) (c ∷ cs) ≡ cond b (record (thread_by t c) { state = s } ∷ threads_of ts cs) (thread_by t c ∷ with_state (threads_of ts cs) tid s)
  doing_by t ts c cs tid true go = ap (λ (x : TaskState). record { tid = t.tid; state = x } ∷ threads_of ts cs) (each c)
  doing_by t ts c cs tid false go = ap (λ rest. thread_by t c ∷ rest) go

  doing_none : (t : Task) (ts : List Task) (tid : ℕ) (b : Bool) → threads_of (with_doing ts tid d) [] ≡ with_state (threads_of ts []) tid s
      → threads_of (cond b (record t { doing = d } ∷ ts) (t ∷ with_doing ts tid d)) [] ≡ cond b (record (thread_by t no_call) { state = s } ∷ threads_of ts []) (thread_by t no_call ∷ with_state (threads_of ts []) tid s)
  doing_none t ts tid true go = ap (λ (x : TaskState). record { tid = t.tid; state = x } ∷ threads_of ts []) (each no_call)
  doing_none t ts tid false go = ap (λ rest. thread_by t no_call ∷ rest) go

  pub doing_of : (ts : List Task) (cs : List Request) (tid : ℕ) → threads_of (with_doing ts tid d) cs ≡ with_state (threads_of ts cs) tid s
  doing_of [] cs tid = refl
  doing_of (t ∷ ts) [] tid = doing_none t ts tid (t.tid == tid) (doing_of ts [] tid)
  doing_of (t ∷ ts) (c ∷ cs) tid = doing_by t ts c cs tid (t.tid == tid) (doing_of ts cs tid)

-- a thread asks: its call is the one at its place
asks_by : (t : Task) (ts : List Task) (c r : Request) (cs : List Request) (tid : ℕ) (b : Bool)
    → threads_of (with_doing ts tid doing.Asks) (set cs (task_place ts tid) r) ≡ with_state (threads_of ts cs) tid (Asks r)
    → threads_of (cond b (record t { doing = doing.Asks } ∷ ts) (t ∷ with_doing ts tid doing.Asks)) (set (c ∷ cs) (cond b 0 (suc (task_place ts tid))) r)
    ≡ cond b (record (thread_by t c) { state = Asks r } ∷ threads_of ts cs) (thread_by t c ∷ with_state (threads_of ts cs) tid (Asks r))
asks_by t ts c r cs tid true go = refl
asks_by t ts c r cs tid false go = ap (λ rest. thread_by t c ∷ rest) go

pub asks_of : (ts : List Task) (cs : List Request) (tid : ℕ) (r : Request) → length ts ≤ length cs
    → threads_of (with_doing ts tid doing.Asks) (set cs (task_place ts tid) r) ≡ with_state (threads_of ts cs) tid (Asks r)
asks_of [] cs tid r h = refl
asks_of (t ∷ ts) [] tid r h = absurd (omega arith)
asks_of (t ∷ ts) (c ∷ cs) tid r h = asks_by t ts c r cs tid (t.tid == tid) (asks_of ts cs tid r (omega arith))

-- the call of a thread that runs says nothing
runs_as : (t : Task) (c r : Request) → is_runs (Some t.doing) ≡ true → thread_by t r ≡ thread_by t c
runs_as t c r h = ap (λ (s : TaskState). record { tid = t.tid; state = s }) (by t.doing h)
  where
    by : (d : Doing) → is_runs (Some d) ≡ true → state_by d r ≡ state_by d c
    by doing.Runs h = refl
    by doing.Asks h = cc
    by (doing.Waits a) h = cc

unread_by : (t : Task) (ts : List Task) (c r : Request) (cs : List Request) (tid : ℕ) (b : Bool) → is_runs (cond b (Some t.doing) (doing_at ts tid)) ≡ true
    → (is_runs (doing_at ts tid) ≡ true → threads_of ts (set cs (task_place ts tid) r) ≡ threads_of ts cs)
    → threads_of (t ∷ ts) (set (c ∷ cs) (cond b 0 (suc (task_place ts tid))) r) ≡ threads_of (t ∷ ts) (c ∷ cs)
unread_by t ts c r cs tid true h go = ap (λ (x : Thread). x ∷ threads_of ts cs) (runs_as t c r h)
unread_by t ts c r cs tid false h go = ap (λ rest. thread_by t c ∷ rest) (go h)

pub unread : (ts : List Task) (cs : List Request) (tid : ℕ) (r : Request) → is_runs (doing_at ts tid) ≡ true → threads_of ts (set cs (task_place ts tid) r) ≡ threads_of ts cs
unread [] cs tid r h = refl
unread (t ∷ ts) [] tid r h = refl
unread (t ∷ ts) (c ∷ cs) tid r h = unread_by t ts c r cs tid (t.tid == tid) h (unread ts cs tid r)

-- one more thread, which runs
pub more_of : (ts : List Task) (cs : List Request) (child : ℕ) → threads_of (ts ++ record { tid = child; doing = doing.Runs } ∷ []) cs ≡ threads_of ts cs ++ record { tid = child; state = Runs } ∷ []
more_of [] [] child = refl
more_of [] (c ∷ cs) child = refl
more_of (t ∷ ts) [] child = ap (λ rest. thread_by t no_call ∷ rest) (more_of ts [] child)
more_of (t ∷ ts) (c ∷ cs) child = ap (λ rest. thread_by t c ∷ rest) (more_of ts cs child)
