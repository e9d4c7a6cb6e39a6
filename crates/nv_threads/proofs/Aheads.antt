-- While no thread asks it makes no difference whose call is wanted.
use Rattle.std.proofs.Common.{◌≡◌, ◌∙◌, sym, ap, subst, refl, ℕ, Bool, true, false, cond, ◌==◌, ◌||◌, List, [], ◌∷◌, length, Some, None, arith}
use Rattle.std.specs.List.{list_any}
use Rattle.std.proofs.lemmas.Bool.Decides.{nat_tests}
use Rattle.nv_threads.specs.Threads.{Proc, TaskState, Runs, Asks, Waits, Task, task_tids, state_at, is_asking, asks, moves, moves_task, can_move, advanced, threads}
use Rattle.nv_threads.specs.Ahead.{IsUnasked, HasGone, Known}
use Rattle.nv_threads.specs.declared.turns.Ahead.{Ahead}
use Rattle.nv_threads.specs.declared.turns.Ahead.TheVariants as ahead
use Rattle.nv_threads.specs.declared.turns.Came.{Came}
use Rattle.nv_threads.specs.declared.turns.Want.{Want}
use Rattle.nv_threads.specs.declared.turns.Want.TheVariants.{Any}
use Rattle.nv_threads.proofs.Steps.{same_length, goes_further}
use Rattle.nv_threads.proofs.ThreadLaws.{threads_live}

-- ---- one step

neither : (a b : Bool) → (a || b) ≡ false → (a ≡ false) × (b ≡ false)
neither true b h = cc
neither false b h = (refl, h)

pub none_asks : (ts : List Task) (tid : ℕ) → list_any asks ts ≡ false → is_asking (state_at ts tid) ≡ false
none_asks [] tid h = refl
none_asks (t ∷ ts) tid h = let n = neither (asks t) (list_any asks ts) h in by (t.tid == tid) n.0 (none_asks ts tid n.1)
  where
    by : (b : Bool) → asks t ≡ false → is_asking (state_at ts tid) ≡ false → is_asking (cond b (Some t.state) (state_at ts tid)) ≡ false
    by true h go = h
    by false h go = go

same_move : (w : Want) (s : TaskState) → is_asking (Some s) ≡ false → moves w s ≡ moves Any s
same_move w Runs h = refl
same_move w (Asks call) h = cc
same_move w (Waits address) h = refl

same_moves : (w : Want) (ts : List Task) → list_any asks ts ≡ false → list_any (moves_task w) ts ≡ list_any (moves_task Any) ts
same_moves w [] h = refl
same_moves w (t ∷ ts) h =
    let n = neither (asks t) (list_any asks ts) h in
    ap (λ b. b || list_any (moves_task w) ts) (same_move w t.state n.0) ∙ ap (λ b. moves Any t.state || b) (same_moves w ts n.1)

pub moves_whoever : (w : Want) (p : Proc) → list_any asks p.tasks ≡ false → can_move Any p ≡ true → can_move w p ≡ true
moves_whoever w p h k = same_moves w p.tasks h ∙ k

on_by : (ts : List Task) (status : ℕ) → list_any (moves_task Any) ts ≡ true → cond (length ts == 0) (Some status) None ≡ None
on_by [] status h = cc
on_by (t ∷ ts) status h = let z : (length (t ∷ ts) == 0) ≡ false = grind (arith, nat_tests) in rw z refl

pub unasked : (p : Proc) → list_any asks p.tasks ≡ false → can_move Any p ≡ true → IsUnasked p
unfolding threads
unasked p h k = record { none = h; on = on_by p.tasks p.status k }

-- ---- as far as it has gone

abbrev pub NotThere : Ahead → Type 0
NotThere a = (came : Came) → a ≡ ahead.Comes came → ⊥

pub further : (a : Ahead) (p q r : Proc) → HasGone p a q → NotThere a → HasGone q ahead.Goes r → HasGone p ahead.Goes r
further ahead.Stays p q r h n k = subst (λ (x : Proc). HasGone x ahead.Goes r) h k
further ahead.Goes p q r h n k = (h.0, λ w. goes_further w p q r None (h.1 w) (k.1 w))
further (ahead.Comes came) p q r h n k = absurd (n came refl)

pub further_comes : (a : Ahead) (p q r : Proc) (came : Came) → HasGone p a q → NotThere a → HasGone q (ahead.Comes came) r → HasGone p (ahead.Comes came) r
further_comes ahead.Stays p q r came h n k = subst (λ (x : Proc). HasGone x (ahead.Comes came) r) h k
further_comes ahead.Goes p q r came h n k = (h.0, λ w. goes_further w p q r (Some came) (h.1 w) (k.1 w))
further_comes (ahead.Comes other) p q r came h n k = absurd (n other refl)

-- a process of which a call waits has not gone on
pub not_gone : (a : Ahead) (p q : Proc) (tid : ℕ) → HasGone p a q → threads.pending p tid ≡ true → q ≡ p
unfolding threads
not_gone ahead.Stays p q tid h k = h
not_gone ahead.Goes p q tid h k = let z = none_asks p.tasks tid h.0.none in cc
not_gone (ahead.Comes came) p q tid h k = let z = none_asks p.tasks tid h.0.none in cc

ended_by : (p q : Proc) (b : Bool) → (length p.tasks == 0) ≡ b → task_tids q.tasks ≡ task_tids p.tasks → cond b (Some p.status) None ≡ None → cond (length q.tasks == 0) (Some q.status) None ≡ None
ended_by p q true e h k = cc
ended_by p q false e h k = let z : (length q.tasks == 0) ≡ false = ap (λ n. n == 0) (same_length p q h) ∙ e in rw z refl

lives_on : (p q : Proc) → task_tids q.tasks ≡ task_tids p.tasks → threads.ended p ≡ None → threads.ended q ≡ None
unfolding threads
lives_on p q h k = ended_by p q (length p.tasks == 0) refl h k

same_tids : (w : Want) (p q : Proc) (came : Came) → advanced w p ≡ (came, q) → task_tids q.tasks ≡ task_tids p.tasks
unfolding threads
same_tids w p q came h = ap (λ (r : Came × Proc). task_tids r.1.tasks) (sym h) ∙ threads_live p w

pub same_end : (a : Ahead) (p q : Proc) → HasGone p a q → threads.ended q ≡ threads.ended p
same_end ahead.Stays p q h = ap (λ (x : Proc). threads.ended x) h
same_end ahead.Goes p q h = lives_on p q (h.1 Any).2 h.0.on ∙ sym h.0.on
same_end (ahead.Comes came) p q h = lives_on p q (same_tids Any p q came (h.1 Any)) h.0.on ∙ sym h.0.on

-- what comes next, from where it is
pub goes_to : (a : Ahead) (p q : Proc) (w : Want) → HasGone p a q → NotThere a → (threads.came q w ≡ threads.came p w) × (threads.after q w ≡ threads.after p w)
unfolding threads
goes_to ahead.Stays p q w h n = (ap (λ (x : Proc). (advanced w x).0) h, ap (λ (x : Proc). (advanced w x).1) h)
goes_to ahead.Goes p q w h n = let g = (h.1 w).0 in (ap (λ (r : Came × Proc). r.0) g, ap (λ (r : Came × Proc). r.1) g)
goes_to (ahead.Comes came) p q w h n = absurd (n came refl)

pub comes_to : (p q : Proc) (w : Want) (came : Came) → HasGone p (ahead.Comes came) q → (came ≡ threads.came p w) × (q ≡ threads.after p w)
unfolding threads
comes_to p q w came h = let g = sym (h.1 w) in (ap (λ (r : Came × Proc). r.0) g, ap (λ (r : Came × Proc). r.1) g)

-- ---- as its callers know it

pub known_as : {p q : Proc} {a b : Bool} → p ≡ q → a ≡ b → ◌≡◌ {A = Known} (record { process = p; eager = a }) (record { process = q; eager = b })
known_as h k = λ i. record { process = h i; eager = k i }
