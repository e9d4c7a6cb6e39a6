-- Turn steps come to an end within the bound, so that what a process comes to is what its next step and the process after it come to.
use Rattle.std.proofs.Common.{◌≡◌, ◌∙◌, sym, ap, subst, refl, ℕ, zero, suc, ◌+◌, ◌-◌, ◌*◌, ◌<◌, Bool, true, false, cond, ◌==◌, ◌||◌, not, length, Option, Some, None, arith}
use Rattle.std.proofs.lemmas.List.{length-map}
use Rattle.std.proofs.lemmas.Bool.Decides.{nat_tests}
use Rattle.nv_calls.specs.Numbers.{is_local}
use Rattle.nv_machine.specs.Guest.{Machine, guest_step}
use Rattle.nv_machine.specs.declared.outcome.FaultKind.TheVariants.{Budget, Deadlock}
use Rattle.nv_machine.specs.declared.outcome.Stepped.{Stepped}
use Rattle.nv_machine.specs.declared.outcome.Stepped.TheVariants.{On, Call, Fault as Faults}
use Rattle.nv_guest.specs.Calls.{call_number}
use Rattle.nv_threads.specs.Threads.{Proc, task_tid, task_tids, state_at, is_asking, turn_passed, machine, ran, ended_by, one_run, instruction, wanted, can_move, unless_live, is_on, faulted, turn_step, unless_came, steps, most_passes, most_steps, advanced}
use Rattle.nv_threads.specs.inner.Process.{are_apart}
use Rattle.nv_threads.specs.Going.{passes, height, Goes}
use Rattle.nv_threads.proofs.ThreadLaws.{step_is, called_is}
use Rattle.nv_threads.specs.declared.turns.Came.{Came}
use Rattle.nv_threads.specs.declared.turns.Came.TheVariants.{Asked}
use Rattle.nv_threads.specs.declared.turns.Want.{Want}
use Rattle.nv_threads.proofs.Nearing.{aim_is, passes_fall, passes_few}

-- as many threads
pub same_length : (p q : Proc) → task_tids q.tasks ≡ task_tids p.tasks → length q.tasks ≡ length p.tasks
same_length p q h = sym (length-map q.tasks task_tid) ∙ (ap length h ∙ length-map p.tasks task_tid)

product : (n k : ℕ) → suc n * k ≡ n * k + k
product n k = grind arith

height_less : (w : Want) (p q : Proc) → task_tids q.tasks ≡ task_tids p.tasks → p.left ≡ suc q.left → height w q < height w p
unfolding height
height_less w p q h e =
    let n = same_length p q h in
    let few : passes w q < most_passes p.tasks = subst (λ (m : ℕ). passes w q < suc (suc (suc (2 * m)))) n (passes_few w q) in
    let same : q.left * most_passes q.tasks ≡ q.left * most_passes p.tasks = ap (λ (m : ℕ). q.left * suc (suc (suc (2 * m)))) n in
    let all : p.left * most_passes p.tasks ≡ q.left * most_passes p.tasks + most_passes p.tasks = ap (λ (m : ℕ). m * most_passes p.tasks) e ∙ product q.left (most_passes p.tasks) in
    omega (arith, few, same, all)

height_passed : (w : Want) (p : Proc) → passes w (turn_passed p) < passes w p → height w (turn_passed p) < height w p
unfolding height
height_passed w p h = omega (arith, h)

pub height_few : (w : Want) (p : Proc) → height w p < suc (most_steps p)
unfolding height most_steps
height_few w p =
    let few = passes_few w p in
    let same : p.left + 1 ≡ suc p.left = omega arith in
    let all : (p.left + 1) * most_passes p.tasks ≡ p.left * most_passes p.tasks + most_passes p.tasks = ap (λ (m : ℕ). m * most_passes p.tasks) same ∙ product p.left (most_passes p.tasks) in
    omega (arith, few, all)

left_by : (p : Proc) (s : Stepped) (m : Machine) → (ended_by s (ran (one_run p) m)).1.left ≡ p.left - 1
left_by p On m = refl
left_by p Call m = let q : Proc = ran (one_run p) m in (called_is q (call_number (machine q)) (is_local (call_number (machine q)))).left
left_by p (Faults kind) m = refl

stays_not : (a b : Bool) → a ≡ false → b ≡ false → (a || b) ≡ false
stays_not a b h k = rw (h, k) refl

came_not : (came : Came) (p q : Proc) → ◌≡◌ {A = Option Came × Proc} (Some came, p) (None, q) → ⊥
came_not came p q e = let z : Some came ≡ None = ap (λ (r : Option Came × Proc). r.0) e in cc

falls_by : (w : Want) (p q : Proc) (b1 b2 b3 b4 : Bool) → is_asking (state_at p.tasks (wanted w p)) ≡ b1 → can_move w p ≡ b2 → is_on p ≡ b3 → (p.left == 0) ≡ b4
    → task_tids q.tasks ≡ task_tids p.tasks → are_apart (task_tids p.tasks) ≡ true
    → cond b1 (Some (Asked (wanted w p)), p) (cond (not b2) (faulted Deadlock (unless_live p)) (cond (not b3) (None, turn_passed p) (cond b4 (faulted Budget p) (instruction p)))) ≡ (None, q)
    → height w q < height w p
falls_by w p q true b2 b3 b4 h1 h2 h3 h4 l a e = absurd (came_not _ p q e)
falls_by w p q false false b3 b4 h1 h2 h3 h4 l a e = absurd (came_not _ (unless_live p) q e)
falls_by w p q false true false b4 h1 h2 h3 h4 l a e =
    let f = height_passed w p (passes_fall w p (stays_not _ _ h1 h3) (aim_is w p.tasks h2 a)) in
    let z : turn_passed p ≡ q = ap (λ (r : Option Came × Proc). r.1) e in
    subst (λ (x : Proc). height w x < height w p) z f
falls_by w p q false true true true h1 h2 h3 h4 l a e = absurd (came_not _ p q e)
falls_by w p q false true true false h1 h2 h3 h4 l a e =
    let some : 0 < p.left = grind (arith, nat_tests) in
    let z : (instruction p).1 ≡ q = ap (λ (r : Option Came × Proc). r.1) e in
    let n : q.left ≡ p.left - 1 = ap (λ (x : Proc). x.left) (sym z) ∙ left_by p (guest_step (machine p)).0 (guest_step (machine p)).1 in
    height_less w p q l (omega (arith, n, some))

pub falls : (w : Want) (p q : Proc) → are_apart (task_tids p.tasks) ≡ true → turn_step w p ≡ (None, q) → (height w q < height w p) × (task_tids q.tasks ≡ task_tids p.tasks)
unfolding turn_step
falls w p q a e =
    let l : task_tids q.tasks ≡ task_tids p.tasks = ap (λ (r : Option Came × Proc). task_tids r.1.tasks) (sym e) ∙ (step_is w p).live in
    (falls_by w p q (is_asking (state_at p.tasks (wanted w p))) (can_move w p) (is_on p) (p.left == 0) refl refl refl refl l a e, l)

-- ---- more steps than enough make no difference

enough_by : (w : Want) (n m : ℕ) (p : Proc) (r : Option Came × Proc) → turn_step w p ≡ r → are_apart (task_tids p.tasks) ≡ true → height w p < suc n → height w p < suc m
    → ((q : Proc) → are_apart (task_tids q.tasks) ≡ true → height w q < n → height w q < m → steps w n q ≡ steps w m q)
    → unless_came (steps w n) r ≡ unless_came (steps w m) r
enough_by w n m p (None, q) e a h k go =
    let f = falls w p q a e in
    let lower = f.0 in
    go q (ap are_apart f.1 ∙ a) (omega arith) (omega arith)
enough_by w n m p (Some came, q) e a h k go = refl

pub enough : (w : Want) (n m : ℕ) (p : Proc) → are_apart (task_tids p.tasks) ≡ true → height w p < n → height w p < m → steps w n p ≡ steps w m p
unfolding steps
enough w zero m p a h k = absurd (omega arith)
enough w (suc n) zero p a h k = absurd (omega arith)
enough w (suc n) (suc m) p a h k = enough_by w n m p (turn_step w p) refl a h k (enough w n m)

one_step : (w : Want) (p : Proc) → advanced w p ≡ unless_came (steps w (most_steps p)) (turn_step w p)
unfolding advanced steps
one_step w p = refl

whole : (w : Want) (p : Proc) → advanced w p ≡ steps w (suc (most_steps p)) p
unfolding advanced
whole w p = refl

pub goes_on_by : (w : Want) (p q : Proc) → are_apart (task_tids p.tasks) ≡ true → turn_step w p ≡ (None, q) → Goes w p None q
goes_on_by w p q a e =
    let f = falls w p q a e in
    let lower = f.0 in
    let few = height_few w p in
    (whole w q ∙ (enough w (suc (most_steps q)) (most_steps p) q (ap are_apart f.1 ∙ a) (height_few w q) (omega arith) ∙ sym (one_step w p ∙ ap (unless_came (steps w (most_steps p))) e)), lower, f.1)

pub comes_by : (w : Want) (p q : Proc) (came : Came) → turn_step w p ≡ (Some came, q) → Goes w p (Some came) q
comes_by w p q came e = one_step w p ∙ ap (unless_came (steps w (most_steps p))) e

pub goes_further : (w : Want) (p q r : Proc) (o : Option Came) → Goes w p None q → Goes w q o r → Goes w p o r
goes_further w p q r None h k = (k.0 ∙ h.0, (let a = h.1 in let b = k.1 in omega arith), k.2 ∙ h.2)
goes_further w p q r (Some came) h k = sym h.0 ∙ k

-- a turn step as a whole
pub goes : (w : Want) (p : Proc) (r : Option Came × Proc) → are_apart (task_tids p.tasks) ≡ true → turn_step w p ≡ r → Goes w p r.0 r.1
goes w p (None, q) a e = goes_on_by w p q a e
goes w p (Some came, q) a e = comes_by w p q came e

-- ---- the rules one by one

pub step_asked : (w : Want) (p : Proc) → is_asking (state_at p.tasks (wanted w p)) ≡ true → turn_step w p ≡ (Some (Asked (wanted w p)), p)
unfolding turn_step
step_asked w p h = rw h refl

pub step_stuck : (w : Want) (p : Proc) → is_asking (state_at p.tasks (wanted w p)) ≡ false → can_move w p ≡ false → turn_step w p ≡ faulted Deadlock (unless_live p)
unfolding turn_step
step_stuck w p h k = rw (h, k) refl

pub step_passes : (w : Want) (p : Proc) → is_asking (state_at p.tasks (wanted w p)) ≡ false → can_move w p ≡ true → is_on p ≡ false → turn_step w p ≡ (None, turn_passed p)
unfolding turn_step
step_passes w p h k o = rw (h, k, o) refl

pub step_budget : (w : Want) (p : Proc) → is_asking (state_at p.tasks (wanted w p)) ≡ false → can_move w p ≡ true → is_on p ≡ true → p.left ≡ 0 → turn_step w p ≡ faulted Budget p
unfolding turn_step
step_budget w p h k o l = let z : (p.left == 0) ≡ true = grind (arith, nat_tests) in rw (h, k, o, z) refl

pub step_runs : (w : Want) (p : Proc) → is_asking (state_at p.tasks (wanted w p)) ≡ false → can_move w p ≡ true → is_on p ≡ true → 0 < p.left → turn_step w p ≡ instruction p
unfolding turn_step
step_runs w p h k o l = let z : (p.left == 0) ≡ false = grind (arith, nat_tests) in rw (h, k, o, z) refl
