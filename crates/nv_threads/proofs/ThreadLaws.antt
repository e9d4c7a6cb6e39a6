-- A process of several threads keeps the laws of a process.
use Rattle.std.proofs.Common.{◌≡◌, ◌∙◌, sym, ap, subst, refl, ℕ, zero, suc, ◌+◌, ◌-◌, ◌*◌, ◌<◌, ◌≤◌, ◌⊎◌, inl, inr, Bool, true, false, cond, ◌==◌, ◌&&◌, not, List, [], ◌∷◌, ◌++◌, length, Option, Some, None, arith}
use Rattle.std.specs.Prelude.{Contains, filter, is_some}
use Rattle.std.specs.List.{list_any}
use Rattle.std.proofs.lemmas.Bool.Decides.{nat_tests}
use Rattle.nv_calls.specs.Calls.{Request, Response, status_of}
use Rattle.nv_calls.specs.Logs.{made, with_child as more_live}
use Rattle.nv_calls.specs.Numbers.{is_local}
use Rattle.nv_machine.specs.Guest.{Machine, guest_step}
use Rattle.nv_machine.specs.declared.outcome.FaultKind.TheVariants.{Budget, Deadlock}
use Rattle.nv_machine.specs.declared.outcome.Stepped.{Stepped}
use Rattle.nv_machine.specs.declared.outcome.Stepped.TheVariants.{On, Call, Fault as Faults}
use Rattle.nv_guest.specs.Calls.{call_number}
use Rattle.nv_threads.specs.Behaviours.{IsProcess}
use Rattle.nv_threads.specs.Threads.{Proc, renewed, count_of, TaskState, Runs, Asks, Waits, Task, task_tids, state_at, with_state, is_asking, asks, waiting_calls, next_tid, turn_passed, machine, local, asking, called, ran, ended_by, one_run, instruction, wanted, moves, moves_task, can_move, unless_live, is_on, faulted, turn_step, unless_came, steps, most_steps, advanced, exited, left_by, goes_on, with_child_task, after_call, answered_by, call_in, is_sole, threads}
use Rattle.nv_threads.proofs.Quiet.{Quiet, same_tids, calls_more, local_quiet, passed_quiet}
use Rattle.nv_threads.specs.declared.turns.Came.{Came}
use Rattle.nv_threads.specs.declared.turns.Came.TheVariants.{Asked}
use Rattle.nv_threads.specs.declared.turns.Want.{Want}
use Rattle.nv_threads.specs.declared.turns.Want.TheVariants.{Any, Only}

-- ---- one turn step

-- what a turn step comes to
pub record Step (w : Want) (p : Proc) (r : Option Came × Proc) : Type 0 where
  pub asked : (t : ℕ) → r.0 ≡ Some (Asked t) → (t ≡ wanted w p) × (is_asking (state_at p.tasks t) ≡ true) × (r.1 ≡ p)
  pub live : task_tids r.1.tasks ≡ task_tids p.tasks
  pub calls : r.1.left + waiting_calls r.1.tasks ≤ p.left + waiting_calls p.tasks
  pub more : r.1.renewals * r.1.budget ≡ p.renewals * p.budget
  pub turn : (r.1.turn ≡ p.turn) ⊎ (r.1.turn ≡ next_tid p.turn (task_tids p.tasks))

-- one call more at most
pub record Louder (p q : Proc) : Type 0 where
  pub live : task_tids q.tasks ≡ task_tids p.tasks
  pub calls : waiting_calls q.tasks ≤ waiting_calls p.tasks + 1
  pub left : q.left ≡ p.left
  pub more : q.renewals * q.budget ≡ p.renewals * p.budget
  pub turn : (q.turn ≡ p.turn) ⊎ (q.turn ≡ next_tid p.turn (task_tids p.tasks))

louder : (p q : Proc) → Quiet p q → Louder p q
louder p q h = record { live = h.live; calls = omega (arith, h.calls); left = h.left; more = h.more; turn = h.turn }

pub called_is : (p : Proc) (n : ℕ) (b : Bool) → Louder p (cond b (local n p) (asking p))
called_is p n true = louder p _ (local_quiet n p)
called_is p n false = record { live = same_tids p.tasks p.turn _; calls = calls_more p.tasks p.turn _; left = refl; more = refl; turn = inl refl }

ends : (w : Want) (p : Proc) (s : Stepped) (m : Machine) → 0 < p.left → Step w p (ended_by s (ran (one_run p) m))
ends w p On m h = record { asked = λ t e. cc; live = refl; calls = omega (arith, h); more = refl; turn = inl refl }
ends w p Call m h =
    let q : Proc = ran (one_run p) m in
    let l : Louder q (called q) = called_is q (call_number (machine q)) (is_local (call_number (machine q))) in
    record { asked = λ t e. cc; live = l.live; calls = omega (arith, h, l.calls, l.left); more = l.more; turn = l.turn }
ends w p (Faults kind) m h = record { asked = λ t e. cc; live = refl; calls = omega (arith, h); more = refl; turn = inl refl }

live_or : (p : Proc) (b : Bool) → Quiet p (cond b p (turn_passed p))
live_or p true = record { live = refl; calls = omega arith; left = refl; more = refl; turn = inl refl }
live_or p false = passed_quiet p

by_rules : (w : Want) (p : Proc) (b1 b2 b3 b4 : Bool) → is_asking (state_at p.tasks (wanted w p)) ≡ b1 → (p.left == 0) ≡ b4
    → Step w p (cond b1 (Some (Asked (wanted w p)), p) (cond (not b2) (faulted Deadlock (unless_live p)) (cond (not b3) (None, turn_passed p) (cond b4 (faulted Budget p) (instruction p)))))
by_rules w p true b2 b3 b4 h k = record {
  asked = λ t e. (let z : wanted w p ≡ t = cc in (sym z, subst (λ (x : ℕ). is_asking (state_at p.tasks x) ≡ true) z h, refl));
  live = refl;
  calls = omega arith;
  more = refl;
  turn = inl refl;
}
by_rules w p false false b3 b4 h k =
    let q = live_or p (is_some (state_at p.tasks p.turn)) in
    record { asked = λ t e. cc; live = q.live; calls = omega (arith, q.calls, q.left); more = q.more; turn = q.turn }
by_rules w p false true false b4 h k = let q = passed_quiet p in record { asked = λ t e. cc; live = q.live; calls = omega arith; more = q.more; turn = q.turn }
by_rules w p false true true true h k = record { asked = λ t e. cc; live = refl; calls = omega arith; more = refl; turn = inl refl }
by_rules w p false true true false h k = let n : 0 < p.left = grind (arith, nat_tests) in ends w p (guest_step (machine p)).0 (guest_step (machine p)).1 n

pub step_is : (w : Want) (p : Proc) → Step w p (turn_step w p)
unfolding turn_step
step_is w p = by_rules w p (is_asking (state_at p.tasks (wanted w p))) (can_move w p) (is_on p) (p.left == 0) refl refl

-- ---- many

record Gone (w : Want) (p : Proc) (r : Came × Proc) : Type 0 where
  asked : (t : ℕ) → r.0 ≡ Asked t → (t ≡ wanted w r.1) × (is_asking (state_at r.1.tasks t) ≡ true)
  live : task_tids r.1.tasks ≡ task_tids p.tasks
  calls : r.1.left + waiting_calls r.1.tasks ≤ p.left + waiting_calls p.tasks
  more : r.1.renewals * r.1.budget ≡ p.renewals * p.budget

gone_by : (w : Want) (n : ℕ) (p : Proc) (r : Option Came × Proc) → Step w p r → ((q : Proc) → Gone w q (steps w n q)) → Gone w p (unless_came (steps w n) r)
gone_by w n p (None, q) s go =
    let g : Gone w q (steps w n q) = go q in
    record { asked = g.asked; live = g.live ∙ s.live; calls = omega (arith, g.calls, s.calls); more = g.more ∙ s.more }
gone_by w n p (Some came, q) s go = record {
  asked = λ t e. (let a = s.asked t (ap (λ (x : Came). Some x) e) in (a.0 ∙ ap (wanted w) (sym a.2), subst (λ (x : Proc). is_asking (state_at x.tasks t) ≡ true) (sym a.2) a.1));
  live = s.live;
  calls = s.calls;
  more = s.more;
}

gone : (w : Want) (n : ℕ) (p : Proc) → Gone w p (steps w n p)
unfolding steps
gone w zero p = record { asked = λ t e. cc; live = refl; calls = omega arith; more = refl }
gone w (suc n) p = gone_by w n p (turn_step w p) (step_is w p) (gone w n)

gone_is : (w : Want) (p : Proc) → Gone w p (advanced w p)
unfolding advanced
gone_is w p = gone w (suc (most_steps p)) p

at_once_by : (w : Want) (q : Proc) (n : ℕ) (b : Bool) (rest : Option Came × Proc) → b ≡ true → unless_came (steps w n) (cond b (Some (Asked (wanted w q)), q) rest) ≡ (Asked (wanted w q), q)
at_once_by w q n true rest h = refl
at_once_by w q n false rest h = cc

at_once : (w : Want) (q : Proc) → is_asking (state_at q.tasks (wanted w q)) ≡ true → advanced w q ≡ (Asked (wanted w q), q)
unfolding advanced steps turn_step
at_once w q h = at_once_by w q (most_steps q) (is_asking (state_at q.tasks (wanted w q))) _ h

-- ---- where a thread lives, and where it has a call

lives_at : (ts : List Task) (t : ℕ) → is_asking (state_at ts t) ≡ true → Contains (task_tids ts) t
lives_at [] t h = cc
lives_at (x ∷ ts) t h = by (x.tid == t) refl h (lives_at ts t)
  where
    by : (b : Bool) → (x.tid == t) ≡ b → is_asking (cond b (Some x.state) (state_at ts t)) ≡ true → (is_asking (state_at ts t) ≡ true → Contains (task_tids ts) t) → Contains (task_tids (x ∷ ts)) t
    by true e h go = (0, omega arith, grind (arith, nat_tests))
    by false e h go = let (k, i, z) = go h in (suc k, omega arith, z)

-- ---- answers

some_call : (ts : List Task) (t : ℕ) → is_asking (state_at ts t) ≡ true → 0 < waiting_calls ts
some_call [] t h = cc
some_call (x ∷ ts) t h = by (x.tid == t) h (some_call ts t)
  where
    by : (b : Bool) → is_asking (cond b (Some x.state) (state_at ts t)) ≡ true → (is_asking (state_at ts t) ≡ true → 0 < waiting_calls ts) → 0 < waiting_calls (x ∷ ts)
    by true h go = rw h (omega arith)
    by false h go = let k = go h in omega arith

calls_fewer : (ts : List Task) (t : ℕ) → is_asking (state_at ts t) ≡ true → waiting_calls (with_state ts t Runs) + 1 ≤ waiting_calls ts
calls_fewer [] t h = cc
calls_fewer (x ∷ ts) t h = by (x.tid == t) h (calls_fewer ts t)
  where
    by : (b : Bool) → is_asking (cond b (Some x.state) (state_at ts t)) ≡ true → (is_asking (state_at ts t) ≡ true → waiting_calls (with_state ts t Runs) + 1 ≤ waiting_calls ts)
        → waiting_calls (cond b (record x { state = Runs } ∷ ts) (x ∷ with_state ts t Runs)) + 1 ≤ waiting_calls (x ∷ ts)
    by true h go = rw h (omega arith)
    by false h go = let k = go h in omega (arith, k)

abbrev pub others : ℕ → Task → Bool
others t x = not (x.tid == t)

calls_filter : (ts : List Task) (t : ℕ) → waiting_calls (filter (others t) ts) ≤ waiting_calls ts
calls_filter [] t = omega arith
calls_filter (x ∷ ts) t = by (others t x) (calls_filter ts t)
  where
    by : (b : Bool) → waiting_calls (filter (others t) ts) ≤ waiting_calls ts → waiting_calls (cond b (x ∷ filter (others t) ts) (filter (others t) ts)) ≤ waiting_calls (x ∷ ts)
    by true go = omega (arith, go)
    by false go = omega (arith, go)

calls_left_out : (ts : List Task) (t : ℕ) → is_asking (state_at ts t) ≡ true → waiting_calls (filter (others t) ts) + 1 ≤ waiting_calls ts
calls_left_out [] t h = cc
calls_left_out (x ∷ ts) t h = by (x.tid == t) h (calls_left_out ts t) (calls_filter ts t)
  where
    by : (b : Bool) → is_asking (cond b (Some x.state) (state_at ts t)) ≡ true → (is_asking (state_at ts t) ≡ true → waiting_calls (filter (others t) ts) + 1 ≤ waiting_calls ts)
        → waiting_calls (filter (others t) ts) ≤ waiting_calls ts → waiting_calls (cond (not b) (x ∷ filter (others t) ts) (filter (others t) ts)) + 1 ≤ waiting_calls (x ∷ ts)
    by true h go few = rw h (omega (arith, few))
    by false h go few = let k = go h in omega (arith, k)

asking_still : (ts more : List Task) (t : ℕ) → is_asking (state_at ts t) ≡ true → is_asking (state_at (ts ++ more) t) ≡ true
asking_still [] more t h = cc
asking_still (x ∷ ts) more t h = by (x.tid == t) h (asking_still ts more t)
  where
    by : (b : Bool) → is_asking (cond b (Some x.state) (state_at ts t)) ≡ true → (is_asking (state_at ts t) ≡ true → is_asking (state_at (ts ++ more) t) ≡ true)
        → is_asking (cond b (Some x.state) (state_at (ts ++ more) t)) ≡ true
    by true h go = h
    by false h go = go h

calls_child : (ts : List Task) (child : ℕ) → waiting_calls (ts ++ record { tid = child; state = Runs } ∷ []) ≡ waiting_calls ts
calls_child [] child = refl
calls_child (x ∷ ts) child = ap (λ n. cond (asks x) 1 0 + n) (calls_child ts child)

pub tids_child : (ts : List Task) (child : ℕ) → task_tids (ts ++ record { tid = child; state = Runs } ∷ []) ≡ task_tids ts ++ child ∷ []
tids_child [] child = refl
tids_child (x ∷ ts) child = ap (λ rest. x.tid ∷ rest) (tids_child ts child)

pub tids_filter : (ts : List Task) (t : ℕ) → task_tids (filter (others t) ts) ≡ filter (λ u. not (u == t)) (task_tids ts)
tids_filter [] t = refl
tids_filter (x ∷ ts) t = by (others t x) (tids_filter ts t)
  where
    by : (b : Bool) → task_tids (filter (others t) ts) ≡ filter (λ u. not (u == t)) (task_tids ts)
        → task_tids (cond b (x ∷ filter (others t) ts) (filter (others t) ts)) ≡ cond b (x.tid ∷ filter (λ u. not (u == t)) (task_tids ts)) (filter (λ u. not (u == t)) (task_tids ts))
    by true go = ap (λ rest. x.tid ∷ rest) go
    by false go = go

child_tids : (p : Proc) (t : ℕ) (m : Option ℕ) → task_tids (with_child_task p t m).tasks ≡ more_live (task_tids p.tasks) m
child_tids p t None = refl
child_tids p t (Some child) = tids_child p.tasks child

child_calls : (p : Proc) (t : ℕ) (m : Option ℕ) → is_asking (state_at p.tasks t) ≡ true → waiting_calls (with_state (with_child_task p t m).tasks t Runs) + 1 ≤ waiting_calls p.tasks
child_calls p t None h = calls_fewer p.tasks t h
child_calls p t (Some child) h =
    let few = calls_fewer (p.tasks ++ record { tid = child; state = Runs } ∷ []) t (asking_still p.tasks _ t h) in
    let same = calls_child p.tasks child in
    omega (arith, few, same)

child_left : (p : Proc) (t : ℕ) (m : Option ℕ) → (with_child_task p t m).left ≡ p.left
child_left p t None = refl
child_left p t (Some child) = refl

child_more : (p : Proc) (t : ℕ) (m : Option ℕ) → (with_child_task p t m).renewals * (with_child_task p t m).budget ≡ p.renewals * p.budget
child_more p t None = refl
child_more p t (Some child) = refl

child_turn : (p : Proc) (t : ℕ) (m : Option ℕ) → (with_child_task p t m).turn ≡ p.turn
child_turn p t None = refl
child_turn p t (Some child) = refl

answer_live : (p : Proc) (t : ℕ) (c : Request) (r : Response) (b94 b93 : Bool)
    → task_tids (cond b94 (exited p (status_of c)) (cond b93 (left_by p t (status_of c)) (goes_on (with_child_task p t (made c.nr r.ret)) t r))).tasks
    ≡ cond b94 [] (cond b93 (filter (λ u. not (u == t)) (task_tids p.tasks)) (more_live (task_tids p.tasks) (made c.nr r.ret)))
answer_live p t c r true b93 = refl
answer_live p t c r false true = tids_filter p.tasks t
answer_live p t c r false false = same_tids _ t Runs ∙ child_tids p t (made c.nr r.ret)

-- how many calls a process can still make at most
abbrev calls_by : Proc → ℕ
calls_by p = p.renewals * p.budget + p.left + waiting_calls p.tasks

answer_falls : (p : Proc) (t : ℕ) (c : Request) (r : Response) (b94 b93 : Bool) (q : Proc)
    → q ≡ cond b94 (exited p (status_of c)) (cond b93 (left_by p t (status_of c)) (goes_on (with_child_task p t (made c.nr r.ret)) t r))
    → is_asking (state_at p.tasks t) ≡ true → calls_by q < calls_by p
answer_falls p t c r true b93 q e h = rw e (omega (arith, some_call p.tasks t h))
answer_falls p t c r false true q e h = rw e (omega (arith, calls_left_out p.tasks t h))
answer_falls p t c r false false q e h = rw e (omega (arith, child_calls p t (made c.nr r.ret) h, child_left p t (made c.nr r.ret), child_more p t (made c.nr r.ret)))

answer_turn : (p : Proc) (t : ℕ) (c : Request) (r : Response) (b94 b93 : Bool)
    → (cond b94 (exited p (status_of c)) (cond b93 (left_by p t (status_of c)) (goes_on (with_child_task p t (made c.nr r.ret)) t r))).turn ≡ p.turn
answer_turn p t c r true b93 = refl
answer_turn p t c r false true = refl
answer_turn p t c r false false = child_turn p t (made c.nr r.ret)

-- ---- the count begins anew

times_less : (r b : ℕ) → (r == 0) ≡ false → (r - 1) * b + b ≡ r * b
times_less zero b h = cc
times_less (suc n) b h =
    let less : suc n - 1 ≡ n = omega arith in
    let one_more : suc n * b ≡ n * b + b = grind arith in
    ap (λ m. m * b + b) less ∙ sym one_more

-- no more calls than before
renewed_calls : (p : Proc) (b : Bool) → (p.renewals == 0) ≡ b → calls_by (cond b p (record p { left = p.budget; renewals = p.renewals - 1; earlier = count_of p })) ≤ calls_by p
renewed_calls p true h = omega arith
renewed_calls p false h = let same = times_less p.renewals p.budget h in omega (arith, same)

renewed_tasks : (p : Proc) (b : Bool) → (cond b p (record p { left = p.budget; renewals = p.renewals - 1; earlier = count_of p })).tasks ≡ p.tasks
renewed_tasks p true = refl
renewed_tasks p false = refl

renewed_turn : (p : Proc) (b : Bool) → (cond b p (record p { left = p.budget; renewals = p.renewals - 1; earlier = count_of p })).turn ≡ p.turn
renewed_turn p true = refl
renewed_turn p false = refl

same_task_tids : (p : Proc) → task_tids (renewed p).tasks ≡ task_tids p.tasks
same_task_tids p = ap task_tids (renewed_tasks p (p.renewals == 0))

-- ---- one thread alone

next_alone : (ts : List ℕ) → is_sole ts ≡ true → next_tid 100 ts ≡ 100
unfolding next_tid
next_alone [] h = refl
next_alone (t ∷ []) h = let z : t ≡ 100 = grind (arith, nat_tests) in rw z refl
next_alone (t ∷ u ∷ ts) h = cc

can_same : (ts : List Task) → is_sole (task_tids ts) ≡ true → is_asking (state_at ts 100) ≡ false → list_any (moves_task Any) ts ≡ list_any (moves_task (Only 100)) ts
can_same [] h k = refl
can_same (t ∷ []) h k = by t.state (rw h at k)
  where
    by : (s : TaskState) → is_asking (Some s) ≡ false → list_any (λ (x : Task). moves Any s) (t ∷ []) ≡ list_any (λ (x : Task). moves (Only 100) s) (t ∷ [])
    by Runs k = refl
    by (Asks call) k = cc
    by (Waits address) k = refl
can_same (t ∷ u ∷ ts) h k = cc

record IsAlone (p : Proc) : Type 0 where
  sole : is_sole (task_tids p.tasks) ≡ true
  turn : p.turn ≡ 100

both : (a b : Bool) → (a && b) ≡ true → (a ≡ true) × (b ≡ true)
both true b h = (refl, h)
both false b h = cc

alone_parts : (p : Proc) → (is_sole (task_tids p.tasks) && (p.turn == 100)) ≡ true → IsAlone p
alone_parts p h = let a = both (is_sole (task_tids p.tasks)) (p.turn == 100) h in let b = a.1 in record { sole = a.0; turn = grind (arith, nat_tests) }

alone_whole : (p : Proc) → IsAlone p → (is_sole (task_tids p.tasks) && (p.turn == 100)) ≡ true
alone_whole p a = let b : (p.turn == 100) ≡ true = (let t = a.turn in grind (arith, nat_tests)) in rw (a.sole, b) refl

abbrev rules_by : Want → ℕ → Proc → Bool → Option Came × Proc
rules_by w n p can = cond (is_asking (state_at p.tasks n)) (Some (Asked n), p)
    (cond (not can) (faulted Deadlock (unless_live p)) (cond (not (is_on p)) (None, turn_passed p) (cond (p.left == 0) (faulted Budget p) (instruction p))))

same_by : (p : Proc) (b a c : Bool) (rest : Bool → Option Came × Proc) → (b ≡ false → a ≡ c) → cond b (Some (Asked 100), p) (rest a) ≡ cond b (Some (Asked 100), p) (rest c)
same_by p true a c rest h = refl
same_by p false a c rest h = ap rest (h refl)

step_same : (p : Proc) → IsAlone p → turn_step Any p ≡ turn_step (Only 100) p
unfolding turn_step
step_same p a =
    ap (λ n. rules_by Any n p (can_move Any p)) a.turn
    ∙ same_by p (is_asking (state_at p.tasks 100)) (can_move Any p) (can_move (Only 100) p)
    (λ can. cond (not can) (faulted Deadlock (unless_live p)) (cond (not (is_on p)) (None, turn_passed p) (cond (p.left == 0) (faulted Budget p) (instruction p)))) (can_same p.tasks a.sole)

turn_alone : (p q : Proc) → IsAlone p → (q.turn ≡ p.turn) ⊎ (q.turn ≡ next_tid p.turn (task_tids p.tasks)) → q.turn ≡ 100
turn_alone p q a (inl same) = same ∙ a.turn
turn_alone p q a (inr next) = next ∙ (ap (λ n. next_tid n (task_tids p.tasks)) a.turn ∙ next_alone (task_tids p.tasks) a.sole)

step_alone : (w : Want) (p : Proc) (r : Option Came × Proc) → Step w p r → IsAlone p → IsAlone r.1
step_alone w p r s a = record { sole = ap is_sole s.live ∙ a.sole; turn = turn_alone p r.1 a s.turn }

steps_same_by : (n : ℕ) (p : Proc) (r : Option Came × Proc) → IsAlone r.1 → ((q : Proc) → IsAlone q → steps Any n q ≡ steps (Only 100) n q)
    → unless_came (steps Any n) r ≡ unless_came (steps (Only 100) n) r
steps_same_by n p (None, q) a go = go q a
steps_same_by n p (Some came, q) a go = refl

steps_same : (n : ℕ) (p : Proc) → IsAlone p → steps Any n p ≡ steps (Only 100) n p
unfolding steps
steps_same zero p a = refl
steps_same (suc n) p a =
    steps_same_by n p (turn_step Any p) (step_alone Any p (turn_step Any p) (step_is Any p) a) (steps_same n)
    ∙ ap (unless_came (steps (Only 100) n)) (step_same p a)

advanced_same : (p : Proc) → IsAlone p → advanced Any p ≡ advanced (Only 100) p
unfolding advanced
advanced_same p a = steps_same (suc (most_steps p)) p a

stays_by : (w : Want) (n : ℕ) (p : Proc) (r : Option Came × Proc) → IsAlone r.1 → ((q : Proc) → IsAlone q → IsAlone (steps w n q).1) → IsAlone (unless_came (steps w n) r).1
stays_by w n p (None, q) a go = go q a
stays_by w n p (Some came, q) a go = a

stays : (w : Want) (n : ℕ) (p : Proc) → IsAlone p → IsAlone (steps w n p).1
unfolding steps
stays w zero p a = a
stays w (suc n) p a = stays_by w n p (turn_step w p) (step_alone w p (turn_step w p) (step_is w p) a) (stays w n)

advanced_alone : (w : Want) (p : Proc) → IsAlone p → IsAlone (advanced w p).1
unfolding advanced
advanced_alone w p a = stays w (suc (most_steps p)) p a

sole_at : (ts : List ℕ) (t : ℕ) → is_sole ts ≡ true → Contains ts t → t ≡ 100
sole_at [] t h (k, i, e) = absurd (omega arith)
sole_at (x ∷ []) t h (zero, i, e) = sym e ∙ grind (arith, nat_tests)
sole_at (x ∷ []) t h (suc k, i, e) = absurd (omega arith)
sole_at (x ∷ y ∷ ts) t h c = cc

filter_sole : (ts : List ℕ) (t : ℕ) → is_sole ts ≡ true → is_sole (filter (λ u. not (u == t)) ts) ≡ true
filter_sole [] t h = refl
filter_sole (x ∷ []) t h = by (not (x == t))
  where
    by : (b : Bool) → is_sole (cond b (x ∷ []) []) ≡ true
    by true = h
    by false = refl
filter_sole (x ∷ y ∷ ts) t h = cc

answer_sole : (live : List ℕ) (t : ℕ) (m : Option ℕ) (b94 b93 : Bool) → is_sole live ≡ true → m ≡ None
    → is_sole (cond b94 [] (cond b93 (filter (λ u. not (u == t)) live) (more_live live m))) ≡ true
answer_sole live t m true b93 h k = refl
answer_sole live t m false true h k = filter_sole live t h
answer_sole live t m false false h k = rw k h

-- ---- the laws

-- how a process comes to an end
abbrev pub ended_as : List Task → ℕ → Option ℕ
ended_as tasks status = cond (length tasks == 0) (Some status) None

pub none_lives : (tasks : List Task) (status : ℕ) → task_tids tasks ≡ [] → ended_as tasks status ≡ None → ⊥
none_lives [] status h k = cc
none_lives (t ∷ ts) status h k = cc

ended_lives : (tasks : List Task) (status s : ℕ) → ended_as tasks status ≡ Some s → task_tids tasks ≡ []
ended_lives [] status s h = refl
ended_lives (t ∷ ts) status s h = let z : (length (t ∷ ts) == 0) ≡ false = grind (arith, nat_tests) in let k = rw z at h in cc

given_falls : (p : Proc) (t : ℕ) (r : Response) → is_asking (state_at p.tasks t) ≡ true → calls_by (answered_by p t (call_in (state_at p.tasks t)) r) < calls_by p
given_falls p t r h = let c = call_in (state_at p.tasks t) in answer_falls p t c r (c.nr == 94) (c.nr == 93) (after_call p t c.nr (status_of c) r) refl h

pub thread_laws : IsProcess threads
unfolding threads
thread_laws = record {
  asked = λ p w t h. ((gone_is w p).asked t h).1;
  own = λ p t. refl;
  again = λ p w t h. (let a = (gone_is w p).asked t h in
      ap (λ (r : Came × Proc). r.0) (at_once w (advanced w p).1 (subst (λ (x : ℕ). is_asking (state_at (advanced w p).1.tasks x) ≡ true) a.0 a.1)) ∙ ap Asked (sym a.0));
  rests = λ p w t h. (let a = (gone_is w p).asked t h in
      ap (λ (r : Came × Proc). r.1) (at_once w (advanced w p).1 (subst (λ (x : ℕ). is_asking (state_at (advanced w p).1.tasks x) ≡ true) a.0 a.1)));
  only = λ p t u c h. ((gone_is (Only t) p).asked u h).0;
  any = λ p t e h. (let g = gone_is Any p in subst (λ (ts : List ℕ). Contains ts t) g.live (lives_at (advanced Any p).1.tasks t (g.asked t h).1));
  keeps = λ p w. (let g = gone_is w p in omega (arith, g.calls, g.more));
  falls = λ p t r h. (let q = answered_by p t (call_in (state_at p.tasks t)) r in omega (arith, given_falls p t r h, renewed_calls q (q.renewals == 0) refl));
  live_after = λ p w. (gone_is w p).live;
  live_answer = λ p t n r h. (let c = call_in (state_at p.tasks t) in same_task_tids (answered_by p t c r) ∙ answer_live p t c r (c.nr == 94) (c.nr == 93));
  ended = λ p h e. none_lives p.tasks p.status h e;
  lives = λ p s e. ended_lives p.tasks p.status s e;
  sole = λ p t h c. sole_at (task_tids p.tasks) t (alone_parts p h).sole c;
  alone = λ p h. ap (λ (r : Came × Proc). r.0) (advanced_same p (alone_parts p h));
  alone_after = λ p h. ap (λ (r : Came × Proc). r.1) (advanced_same p (alone_parts p h));
  stays_alone = λ p w h. alone_whole (advanced w p).1 (advanced_alone w p (alone_parts p h));
  alone_answer = λ p t n r h k. (let c = call_in (state_at p.tasks t) in let a = alone_parts p h in
      let q = answered_by p t c r in
      alone_whole (renewed q) (record {
        sole = ap is_sole (same_task_tids q ∙ answer_live p t c r (c.nr == 94) (c.nr == 93)) ∙ answer_sole (task_tids p.tasks) t (made c.nr r.ret) (c.nr == 94) (c.nr == 93) a.sole k;
        turn = renewed_turn q (q.renewals == 0) ∙ (answer_turn p t c r (c.nr == 94) (c.nr == 93) ∙ a.turn);
      }));
  gives = given_falls;
  given_live = λ p t r. sym (same_task_tids (answered_by p t (call_in (state_at p.tasks t)) r));
}

-- each law of use by its name
pub threads_keeps : (p : Proc) (w : Want) → threads.calls_left (threads.after p w) ≤ threads.calls_left p
threads_keeps p w = thread_laws.keeps p w

pub threads_falls : (p : Proc) (t : ℕ) (r : Response) → threads.pending p t ≡ true
    → threads.calls_left (threads.answered p t r) < threads.calls_left p
threads_falls p t r h = thread_laws.falls p t r h

pub threads_gives : (p : Proc) (t : ℕ) (r : Response) → threads.pending p t ≡ true
    → threads.calls_left (threads.given p t r) < threads.calls_left p
threads_gives p t r h = thread_laws.gives p t r h

pub threads_asked : (p : Proc) (w : Want) (t : ℕ) → threads.came p w ≡ Asked t → threads.pending (threads.after p w) t ≡ true
threads_asked p w t h = thread_laws.asked p w t h

pub threads_live : (p : Proc) (w : Want) → threads.live (threads.after p w) ≡ threads.live p
threads_live p w = thread_laws.live_after p w

pub threads_only : (p : Proc) (t u : ℕ) → Contains (threads.live p) t → threads.came p (Only t) ≡ Asked u → u ≡ t
threads_only p t u c h = thread_laws.only p t u c h

pub threads_own : (p : Proc) (t : ℕ) → (threads.call p t).tid ≡ t
threads_own p t = thread_laws.own p t

pub threads_here : (p : Proc) (t : ℕ) → threads.pending p t ≡ true → Contains (threads.live p) t
unfolding threads
threads_here p t h = lives_at p.tasks t h

on_by : (tasks : List Task) (status t : ℕ) → Contains (task_tids tasks) t → ended_as tasks status ≡ None
on_by [] status t (k, h, e) = absurd (omega arith)
on_by (x ∷ ts) status t c = let z : (length (x ∷ ts) == 0) ≡ false = grind (arith, nat_tests) in rw z refl

-- a process with a live thread goes on
pub threads_on : (p : Proc) (t : ℕ) → Contains (threads.live p) t → threads.ended p ≡ None
unfolding threads
threads_on p t c = on_by p.tasks p.status t c
