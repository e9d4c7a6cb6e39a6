-- What turn steps keep: the threads that live, and how many calls can still come.
use Rattle.std.proofs.Common.{◌≡◌, ◌∙◌, ap, refl, ℕ, zero, suc, ◌+◌, ◌*◌, ◌%◌, ◌≤◌, ◌⊎◌, inl, inr, Bool, true, false, cond, ◌==◌, ◌||◌, ◌&&◌, not, nat_lt, List, [], ◌∷◌, Option, Some, None, Result, Ok, Err, min, length, arith}
use Rattle.nv_memory.specs.declared.region.Access.{Access}
use Rattle.nv_memory.specs.declared.region.Width.TheVariants.{Four}
use Rattle.nv_memory.specs.declared.region.Right.TheVariants.{Read}
use Rattle.nv_memory.specs.Image.{value_at}
use Rattle.nv_guest.specs.Calls.{argument}
use Rattle.nv_threads.specs.Threads.{Proc, TaskState, Runs, Waits, Task, task_tids, asks, waiting_calls, with_state, next_tid, turn_passed, machine, operation, least_waiter, woken_one, woken_by, woken, woke, waiting, futex_on, futex_by, own_answer, all_unreserved, local}

-- ---- states

pub same_tids : (ts : List Task) (tid : ℕ) (s : TaskState) → task_tids (with_state ts tid s) ≡ task_tids ts
same_tids [] tid s = refl
same_tids (t ∷ ts) tid s = by (t.tid == tid) (same_tids ts tid s)
  where
    by : (b : Bool) → task_tids (with_state ts tid s) ≡ task_tids ts → task_tids (cond b (record t { state = s } ∷ ts) (t ∷ with_state ts tid s)) ≡ task_tids (t ∷ ts)
    by true go = refl
    by false go = ap (λ rest. t.tid ∷ rest) go

one : Bool → ℕ
one b = cond b 1 0

at_most : (b : Bool) → cond b 1 0 ≤ 1
at_most true = omega arith
at_most false = omega arith

-- one call more at most
pub calls_more : (ts : List Task) (tid : ℕ) (s : TaskState) → waiting_calls (with_state ts tid s) ≤ waiting_calls ts + 1
calls_more [] tid s = omega arith
calls_more (t ∷ ts) tid s = by (t.tid == tid) (calls_more ts tid s) (at_most (asks (record t { state = s })))
  where
    by : (b : Bool) → waiting_calls (with_state ts tid s) ≤ waiting_calls ts + 1 → cond (asks (record t { state = s })) 1 0 ≤ 1
        → waiting_calls (cond b (record t { state = s } ∷ ts) (t ∷ with_state ts tid s)) ≤ waiting_calls (t ∷ ts) + 1
    by true go h = omega (arith, h)
    by false go h = omega (arith, go)

-- no call more where the thread's new state is none
pub calls_same : (ts : List Task) (tid : ℕ) (s : TaskState) → asks (record { tid = tid; state = s }) ≡ false → waiting_calls (with_state ts tid s) ≤ waiting_calls ts
calls_same [] tid s h = omega arith
calls_same (t ∷ ts) tid s h = by (t.tid == tid) (calls_same ts tid s h)
  where
    by : (b : Bool) → waiting_calls (with_state ts tid s) ≤ waiting_calls ts
        → waiting_calls (cond b (record t { state = s } ∷ ts) (t ∷ with_state ts tid s)) ≤ waiting_calls (t ∷ ts)
    by true go = rw h (omega arith)
    by false go = omega (arith, go)

-- ---- from one process to the next

pub record Quiet (p q : Proc) : Type 0 where
  pub live : task_tids q.tasks ≡ task_tids p.tasks
  pub calls : waiting_calls q.tasks ≤ waiting_calls p.tasks
  pub left : q.left ≡ p.left
  pub more : q.renewals * q.budget ≡ p.renewals * p.budget
  pub turn : (q.turn ≡ p.turn) ⊎ (q.turn ≡ next_tid p.turn (task_tids p.tasks))

as_before : (p q : Proc) → q.tasks ≡ p.tasks → q.left ≡ p.left → q.renewals * q.budget ≡ p.renewals * p.budget → q.turn ≡ p.turn → Quiet p q
as_before p q t l m u = record { live = ap task_tids t; calls = rw t (omega arith); left = l; more = m; turn = inl u }

quiet_if : (p x y : Proc) (b : Bool) → Quiet p x → Quiet p y → Quiet p (cond b x y)
quiet_if p x y true h k = h
quiet_if p x y false h k = k

record Still (p q : Proc) : Type 0 where
  live : task_tids q.tasks ≡ task_tids p.tasks
  calls : waiting_calls q.tasks ≤ waiting_calls p.tasks
  left : q.left ≡ p.left
  more : q.renewals * q.budget ≡ p.renewals * p.budget
  turn : q.turn ≡ p.turn

woken_still : (n address : ℕ) (p : Proc) → Still p (woken n address p).1
unfolding woken
woken_still zero address p = record { live = refl; calls = omega arith; left = refl; more = refl; turn = refl }
woken_still (suc n) address p = by (least_waiter address p.tasks) (woken_still n address)
  where
    by : (o : Option ℕ) → ((q : Proc) → Still q (woken n address q).1) → Still p (woken_by (woken n address) p o).1
    by None go = record { live = refl; calls = omega arith; left = refl; more = refl; turn = refl }
    by (Some tid) go =
        let q : Proc = woken_one p tid in
        let h : Still q (woken n address q).1 = go q in
        let k = calls_same p.tasks tid Runs refl in
        record { live = h.live ∙ same_tids p.tasks tid Runs; calls = omega (arith, h.calls, k); left = h.left; more = h.more; turn = h.turn }

woke_quiet : (n address : ℕ) (p : Proc) → Quiet p (woke (woken n address p))
woke_quiet n address p = let h = woken_still n address p in record { live = h.live; calls = h.calls; left = h.left; more = h.more; turn = inl h.turn }

waiting_quiet : (p : Proc) (address : ℕ) → Quiet p (waiting p address)
waiting_quiet p address = record {
  live = same_tids p.tasks p.turn (Waits address);
  calls = calls_same p.tasks p.turn (Waits address) refl;
  left = refl;
  more = refl;
  turn = inr (ap (next_tid p.turn) (same_tids p.tasks p.turn (Waits address)));
}

pub passed_quiet : (p : Proc) → Quiet p (turn_passed p)
passed_quiet p = record { live = refl; calls = omega arith; left = refl; more = refl; turn = inr refl }

futex_quiet : (p : Proc) (op address value : ℕ) (r : Result ℕ Access) → Quiet p (futex_on p op address value r)
futex_quiet p op address value (Err e) = as_before p _ refl refl refl refl
futex_quiet p op address value (Ok word) =
    quiet_if p _ _ (op == 1) (woke_quiet (min value (length p.tasks)) address p)
    (quiet_if p _ _ (word == value) (waiting_quiet p address) (as_before p _ refl refl refl refl))

futex_by_quiet : (p : Proc) (op address value timeout : ℕ) → Quiet p (futex_by p op address value timeout)
futex_by_quiet p op address value timeout =
    quiet_if p _ _ (nat_lt 1 op || (op == 0 && not (timeout == 0))) (as_before p _ refl refl refl refl)
    (quiet_if p _ _ (not (address % 4 == 0)) (as_before p _ refl refl refl refl)
    (futex_quiet p op address value (value_at p.guest.memory address Four Read)))

own_quiet : (nr : ℕ) (p : Proc) → Quiet p (own_answer nr p)
unfolding own_answer
own_quiet nr p =
    quiet_if p _ _ (nr == 214) (as_before p _ refl refl refl refl)
    (quiet_if p _ _ (nr == 422) (futex_by_quiet p (operation (argument (machine p) 1)) (argument (machine p) 0) (argument (machine p) 2) (argument (machine p) 3))
    (quiet_if p _ _ (nr == 124) (record { live = refl; calls = omega arith; left = refl; more = refl; turn = inr refl }) (as_before p _ refl refl refl refl)))

released_quiet : (p q : Proc) → Quiet p q → Quiet p (all_unreserved q)
released_quiet p q h = record { live = h.live; calls = h.calls; left = h.left; more = h.more; turn = h.turn }

pub local_quiet : (nr : ℕ) (p : Proc) → Quiet p (local nr p)
local_quiet nr p = released_quiet p (own_answer nr p) (own_quiet nr p)
