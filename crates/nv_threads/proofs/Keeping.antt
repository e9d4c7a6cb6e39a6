-- What always holds of a process, from step to step.
use Rattle.std.proofs.Common.{◌≡◌, ◌∙◌, sym, ap, subst, refl, ℕ, zero, suc, ◌<◌, ◌≤◌, ⊎_elim, Bool, true, false, cond, ◌==◌, List, [], ◌∷◌, length, map, get_or, set, Option, Some, None, arith}
use Rattle.std.specs.Prelude.{Contains, is_some}
use Rattle.std.proofs.lemmas.Bool.Decides.{nat_tests}
use Rattle.nv_calls.specs.declared.calls.Call.{Call}
use Rattle.nv_calls.specs.Calls.{request}
use Rattle.std.proofs.lemmas.List.{length-set}
use Rattle.nv_machine.specs.Guest.{Machine}
use Rattle.nv_guest.specs.Threads as guests
use Rattle.nv_guest.proofs.ThreadLaws.{tids_stay}
use Rattle.nv_guest.proofs.Releasing.{tids_released}
use Rattle.nv_threads.specs.Threads.{TaskState, Task, Proc, task_tids, turn_passed, unless_live, state_at, with_state, is_running, is_asking}
use Rattle.nv_threads.proofs.Quiet.{same_tids}
use Rattle.nv_threads.specs.inner.Process.{are_apart, IsOwn, AreOwn, HaveCapacity, IsSoundProcess}
use Rattle.nv_threads.proofs.Orders.{at_prefix, after, either, Next, Higher, Lowest, next_is}

running_some : (s : Option TaskState) → is_running s ≡ true → is_some s ≡ true
running_some None h = cc
running_some (Some s) h = refl

asking_some : (s : Option TaskState) → is_asking s ≡ true → is_some s ≡ true
asking_some None h = cc
asking_some (Some s) h = refl

pub lives_by : (ts : List Task) (t : ℕ) → is_some (state_at ts t) ≡ true → Contains (task_tids ts) t
lives_by [] t h = cc
lives_by (x ∷ ts) t h = by (x.tid == t) refl h (lives_by ts t)
  where
    by : (b : Bool) → (x.tid == t) ≡ b → is_some (cond b (Some x.state) (state_at ts t)) ≡ true → (is_some (state_at ts t) ≡ true → Contains (task_tids ts) t) → Contains (task_tids (x ∷ ts)) t
    by true e h go = (0, omega arith, grind (arith, nat_tests))
    by false e h go = after x.tid (task_tids ts) t (go h)

pub state_by : (ts : List Task) (t : ℕ) → Contains (task_tids ts) t → is_some (state_at ts t) ≡ true
state_by [] t (k, h, e) = absurd (omega arith)
state_by (x ∷ ts) t c = ⊎_elim (λ (e : x.tid ≡ t). (let z : (x.tid == t) ≡ true = grind (arith, nat_tests) in rw z refl)) (λ (c : Contains (task_tids ts) t). by (x.tid == t) (state_by ts t c)) (either x.tid (task_tids ts) t c)
  where
    by : (b : Bool) → is_some (state_at ts t) ≡ true → is_some (cond b (Some x.state) (state_at ts t)) ≡ true
    by true h = refl
    by false h = h

pub running_lives : (ts : List Task) (t : ℕ) → is_running (state_at ts t) ≡ true → Contains (task_tids ts) t
running_lives ts t h = lives_by ts t (running_some (state_at ts t) h)

pub asking_lives : (ts : List Task) (t : ℕ) → is_asking (state_at ts t) ≡ true → Contains (task_tids ts) t
asking_lives ts t h = lives_by ts t (asking_some (state_at ts t) h)

pub some_live : (ts : List Task) (t : ℕ) → Contains (task_tids ts) t → 0 < length ts
some_live [] t (k, h, e) = absurd (omega arith)
some_live (x ∷ ts) t c = omega arith

-- a live thread is one of the guest's
pub guest_lives : (count budget renewals earlier : ℕ) (ts : List Task) (g : List ℕ) (cs : List Call) (t : ℕ) → IsSoundProcess count budget renewals earlier ts g cs → Contains (task_tids ts) t → Contains g t
guest_lives count budget renewals earlier ts g cs t k c = subst (λ (xs : List ℕ). Contains xs t) (sym (k.same (some_live ts t c))) c

-- ---- the guest goes on

pub tids_after : (g h : guests.Threaded) (t : ℕ) (m : Machine) → h ≡ guests.with_machine g t m
    → guests.tids h.threads ≡ guests.tids g.threads
tids_after g h t m e = ap (λ (x : guests.Threaded). guests.tids x.threads) e ∙ tids_stay g.threads t m.regs

pub with_guest : (count budget renewals earlier : ℕ) (ts : List Task) (g h : List ℕ) (cs : List Call) → IsSoundProcess count budget renewals earlier ts g cs → h ≡ g → IsSoundProcess count budget renewals earlier ts h cs
with_guest count budget renewals earlier ts g h cs k e = record { within = k.within; few = k.few; same = λ n. e ∙ k.same n; apart = k.apart; own = k.own; eight = k.eight; capacity = k.capacity }

pub guest_released : (count budget renewals earlier : ℕ) (ts : List Task) (g h : guests.Threaded) (cs : List Call) → IsSoundProcess count budget renewals earlier ts (guests.tids g.threads) cs → h ≡ guests.released g → IsSoundProcess count budget renewals earlier ts (guests.tids h.threads) cs
guest_released count budget renewals earlier ts g h cs k e = with_guest _ _ _ _ _ _ _ _ k (ap (λ (x : guests.Threaded). guests.tids x.threads) e ∙ tids_released g.threads)

pub with_count : (count more budget renewals earlier : ℕ) (ts : List Task) (g : List ℕ) (cs : List Call) → IsSoundProcess count budget renewals earlier ts g cs → more ≤ budget → IsSoundProcess more budget renewals earlier ts g cs
with_count count more budget renewals earlier ts g cs k e = record { within = e; few = k.few; same = k.same; apart = k.apart; own = k.own; eight = k.eight; capacity = k.capacity }

-- ---- a thread's state changes

own_with : (ts : List Task) (t : ℕ) (s : TaskState) → AreOwn ts → IsOwn t s → AreOwn (with_state ts t s)
own_with [] t s a o = a
own_with (x ∷ ts) t s a o = by (x.tid == t) refl (own_with ts t s a.1 o)
  where
    by : (b : Bool) → (x.tid == t) ≡ b → AreOwn (with_state ts t s) → AreOwn (cond b (record x { state = s } ∷ ts) (x ∷ with_state ts t s))
    by true e go = (let z : x.tid ≡ t = grind (arith, nat_tests) in subst (λ (n : ℕ). IsOwn n s) (sym z) o, a.1)
    by false e go = (a.0, go)

length_with : (ts : List Task) (t : ℕ) (s : TaskState) → length (with_state ts t s) ≡ length ts
length_with [] t s = refl
length_with (x ∷ ts) t s = by (x.tid == t) (length_with ts t s)
  where
    by : (b : Bool) → length (with_state ts t s) ≡ length ts → length (cond b (record x { state = s } ∷ ts) (x ∷ with_state ts t s)) ≡ suc (length ts)
    by true go = refl
    by false go = ap suc go

pub with_task : (count budget renewals earlier : ℕ) (ts : List Task) (g : List ℕ) (cs : List Call) (t : ℕ) (s : TaskState) → IsSoundProcess count budget renewals earlier ts g cs → IsOwn t s → IsSoundProcess count budget renewals earlier (with_state ts t s) g cs
with_task count budget renewals earlier ts g cs t s k o = record {
  within = k.within;
  few = k.few;
  same = λ n. k.same (subst (λ m. 0 < m) (length_with ts t s) n) ∙ sym (same_tids ts t s);
  apart = ap are_apart (same_tids ts t s) ∙ k.apart;
  own = own_with ts t s k.own o;
  eight = k.eight;
  capacity = k.capacity;
}

-- ---- calls

capacity_with : (cs : List Call) (i : ℕ) (c : Call) → HaveCapacity cs → 4096 ≤ c.payload.capacity → HaveCapacity (set cs i c)
capacity_with [] i c h r = h
capacity_with (x ∷ cs) zero c h r = (r, h.1)
capacity_with (x ∷ cs) (suc i) c h r = (h.0, capacity_with cs i c h.1 r)

pub capacity_at : (cs : List Call) (i : ℕ) (d : Call) → HaveCapacity cs → i < length cs → 4096 ≤ (get_or cs i d).payload.capacity
capacity_at [] i d h l = absurd (omega arith)
capacity_at (x ∷ cs) zero d h l = h.0
capacity_at (x ∷ cs) (suc i) d h l = capacity_at cs i d h.1 (omega arith)

pub with_call : (count budget renewals earlier : ℕ) (ts : List Task) (g : List ℕ) (cs : List Call) (i : ℕ) (c : Call) → IsSoundProcess count budget renewals earlier ts g cs → 4096 ≤ c.payload.capacity → IsSoundProcess count budget renewals earlier ts g (set cs i c)
with_call count budget renewals earlier ts g cs i c k r = record { within = k.within; few = k.few; same = k.same; apart = k.apart; own = k.own; eight = length-set cs i c ∙ k.eight; capacity = capacity_with cs i c k.capacity r }

pub map_set : (cs : List Call) (i : ℕ) (c : Call) → map request (set cs i c) ≡ set (map request cs) i (request c)
map_set [] i c = refl
map_set (x ∷ cs) zero c = refl
map_set (x ∷ cs) (suc i) c = ap (λ rest. request x ∷ rest) (map_set cs i c)

-- ---- the turn

next_lives : (k : ℕ) (ts : List ℕ) (y : ℕ) → Next k ts y → Contains ts y
next_lives k ts y (Higher up inside all) = inside
next_lives k ts y (Lowest all inside low) = inside

someone : (ts : List Task) → (task_tids ts ≡ [] → ⊥) → (r : ℕ) × Contains (task_tids ts) r
someone [] h = absurd (h refl)
someone (t ∷ ts) h = (t.tid, at_prefix t.tid (task_tids ts))

turn_lives_by : (p : Proc) (b : Bool) → is_some (state_at p.tasks p.turn) ≡ b → (task_tids p.tasks ≡ [] → ⊥)
    → is_some (state_at (cond b p (turn_passed p)).tasks (cond b p (turn_passed p)).turn) ≡ true
turn_lives_by p true e h = e
turn_lives_by p false e h =
    let r = someone p.tasks h in
    state_by p.tasks (turn_passed p).turn (next_lives p.turn (task_tids p.tasks) (turn_passed p).turn (next_is p.turn (task_tids p.tasks) r.0 r.1))

pub turn_lives : (p : Proc) → (task_tids p.tasks ≡ [] → ⊥) → is_some (state_at (unless_live p).tasks (unless_live p).turn) ≡ true
turn_lives p h = turn_lives_by p (is_some (state_at p.tasks p.turn)) refl h
