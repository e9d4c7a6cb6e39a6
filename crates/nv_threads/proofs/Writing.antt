-- A write to the table of threads.
use Rattle.std.proofs.Common.{◌≡◌, ◌∙◌, sym, ap, subst, refl, ℕ, zero, suc, ◌+◌, ◌-◌, ◌<◌, ⊎_elim, Bool, true, false, cond, ◌==◌, List, [], ◌∷◌, length, min, Option, Some, None, arith}
use Rattle.std.specs.Prelude.{Contains}
use Rattle.std.specs.List.{refill}
use Rattle.nv_calls.specs.Calls.{Request}
use Rattle.nv_threads.specs.Threads.{Proc, TaskState, Runs, Task as Thread, state_at, is_running, task_tids, with_state, waits_at, lesser, least_waiter, woken_one, woken_by, woken}
use Rattle.nv_threads.specs.Tasks.{state_by, threads_of}
use Rattle.nv_threads.specs.inner.Tasks.{task_numbers, with_doing}
use Rattle.nv_threads.specs.declared.tasks.Doing.{Doing}
use Rattle.nv_threads.specs.declared.tasks.Task.{Task}
use Rattle.nv_threads.proofs.Orders.{at_prefix, after, min_is}
use Rattle.nv_threads.proofs.Places.{refilled, length_doing}
use Rattle.nv_threads.proofs.Tabling.{tids_of, doing_of}

pub lives_there : (items seen : List Task) (cs : List Request) (t : ℕ) → seen ≡ items → Contains (task_tids (threads_of items cs)) t → Contains (task_numbers seen) t
lives_there items seen cs t e h = subst (λ (ts : List Task). Contains (task_numbers ts) t) (sym e) (subst (λ (ns : List ℕ). Contains ns t) (tids_of items cs) h)

pub table_written : (items seen now : List Task) (t : ℕ) (d : Doing) → seen ≡ items → now ≡ with_doing seen t d → refill (length items) items now ≡ with_doing items t d
table_written items seen now t d e w =
    let is : now ≡ with_doing items t d = w ∙ ap (λ (ts : List Task). with_doing ts t d) e in
    refilled items now (ap length is ∙ length_doing items t d) ∙ is

pub state_written : (items seen now : List Task) (cs : List Request) (t : ℕ) (d : Doing) (s : TaskState) → ((c : Request) → state_by d c ≡ s) → seen ≡ items → now ≡ with_doing seen t d
    → threads_of (refill (length items) items now) cs ≡ with_state (threads_of items cs) t s
state_written items seen now cs t d s each e w = ap (λ (ts : List Task). threads_of ts cs) (table_written items seen now t d e w) ∙ doing_of d s each items cs t

-- ---- waking

waiter_by : (a : ℕ) (x : Thread) (ts : List Thread) (b : Bool) (o : Option ℕ) (t : ℕ) → (o ≡ Some t → Contains (task_tids ts) t) → ((u : ℕ) → o ≡ Some u → Contains (task_tids ts) u)
    → cond b (Some (lesser x.tid o)) o ≡ Some t → Contains (task_tids (x ∷ ts)) t
waiter_by a x ts true None t go all h = let z : x.tid ≡ t = cc in subst (λ n. Contains (task_tids (x ∷ ts)) n) z (at_prefix x.tid (task_tids ts))
waiter_by a x ts true (Some u) t go all h =
    let z : min x.tid u ≡ t = cc in
    subst (λ n. Contains (task_tids (x ∷ ts)) n) z
    (⊎_elim (λ (e : min x.tid u ≡ x.tid). subst (λ n. Contains (task_tids (x ∷ ts)) n) (sym e) (at_prefix x.tid (task_tids ts)))
    (λ (e : min x.tid u ≡ u). subst (λ n. Contains (task_tids (x ∷ ts)) n) (sym e) (after x.tid (task_tids ts) u (all u refl))) (min_is x.tid u))
waiter_by a x ts false o t go all h = after x.tid (task_tids ts) t (go h)

pub waiter_lives : (a : ℕ) (ts : List Thread) (t : ℕ) → least_waiter a ts ≡ Some t → Contains (task_tids ts) t
waiter_lives a [] t h = cc
waiter_lives a (x ∷ ts) t h = waiter_by a x ts (waits_at a x.state) (least_waiter a ts) t (waiter_lives a ts t) (waiter_lives a ts) h

abbrev pub add : ℕ → ℕ × Proc → ℕ × Proc
add n r = (n + r.0, r.1)

woken_here : (most count a : ℕ) (p : Proc) → count < most → woken (most - count) a p ≡ woken_by (woken (most - (count + 1)) a) p (least_waiter a p.tasks)
unfolding woken
woken_here most count a p h = let n : most - count ≡ suc (most - (count + 1)) = omega arith in rw n refl

pub woken_more : (most count a t : ℕ) (p q : Proc) → count < most → least_waiter a p.tasks ≡ Some t → q ≡ woken_one p t
    → add count (woken (most - count) a p) ≡ add (count + 1) (woken (most - (count + 1)) a q)
woken_more most count a t p q h l e =
    let r : ℕ × Proc = woken (most - (count + 1)) a (woken_one p t) in
    let n : count + suc r.0 ≡ (count + 1) + r.0 = omega arith in
    ap (add count) (woken_here most count a p h ∙ ap (woken_by (woken (most - (count + 1)) a) p) l)
    ∙ (ap (λ (k : ℕ). (k, r.1)) n ∙ ap (λ (x : Proc). add (count + 1) (woken (most - (count + 1)) a x)) (sym e))

pub woken_stops : (most count a : ℕ) (p : Proc) → count < most → least_waiter a p.tasks ≡ None → add count (woken (most - count) a p) ≡ (count, p)
woken_stops most count a p h l =
    let n : count + 0 ≡ count = omega arith in
    ap (add count) (woken_here most count a p h ∙ ap (woken_by (woken (most - (count + 1)) a) p) l) ∙ ap (λ (k : ℕ). (k, p)) n

pub woken_ends : (most count n a : ℕ) (p : Proc) → most - count ≡ 0 → count + 0 ≡ n → add count (woken (most - count) a p) ≡ (n, p)
unfolding woken
woken_ends most count n a p h e = rw (h, e) refl

-- ---- the turn's thread still runs

running_by : (x : Thread) (ts : List Thread) (t u : ℕ) (a b : Bool) → (x.tid == t) ≡ a → is_running (cond a (Some x.state) (state_at ts t)) ≡ true
    → (is_running (state_at ts t) ≡ true → is_running (state_at (with_state ts u Runs) t) ≡ true)
    → is_running (state_at (cond b (record x { state = Runs } ∷ ts) (x ∷ with_state ts u Runs)) t) ≡ true
running_by x ts t u true true e h go = rw e refl
running_by x ts t u true false e h go = rw e h
running_by x ts t u false true e h go = rw e h
running_by x ts t u false false e h go = rw e (go h)

running_still : (ts : List Thread) (t u : ℕ) → is_running (state_at ts t) ≡ true → is_running (state_at (with_state ts u Runs) t) ≡ true
running_still [] t u h = h
running_still (x ∷ ts) t u h = running_by x ts t u (x.tid == t) (x.tid == u) refl h (running_still ts t u)

woken_runs_by : (n a : ℕ) (p : Proc) (o : Option ℕ) → is_running (state_at p.tasks p.turn) ≡ true
    → ((q : Proc) → is_running (state_at q.tasks q.turn) ≡ true → is_running (state_at (woken n a q).1.tasks (woken n a q).1.turn) ≡ true)
    → is_running (state_at (woken_by (woken n a) p o).1.tasks (woken_by (woken n a) p o).1.turn) ≡ true
woken_runs_by n a p None h go = h
woken_runs_by n a p (Some t) h go = go (woken_one p t) (running_still p.tasks p.turn t h)

pub woken_runs : (n a : ℕ) (p : Proc) → is_running (state_at p.tasks p.turn) ≡ true → is_running (state_at (woken n a p).1.tasks (woken n a p).1.turn) ≡ true
unfolding woken
woken_runs zero a p h = h
woken_runs (suc n) a p h = woken_runs_by n a p (least_waiter a p.tasks) h (woken_runs n a)
