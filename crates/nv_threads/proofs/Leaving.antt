-- Threads that come and go.
use Rattle.std.proofs.Common.{◌≡◌, ◌∙◌, sym, ap, subst, refl, ℕ, zero, suc, ◌+◌, ◌<◌, ◌≤◌, Bool, true, false, cond, ◌==◌, ◌||◌, ◌&&◌, not, List, [], ◌∷◌, ◌++◌, length, map, get_or, Some, arith}
use Rattle.std.specs.Prelude.{Contains, filter, remove}
use Rattle.std.specs.List.{list_any}
use Rattle.std.proofs.lemmas.Bool.Decides.{nat_tests}
use Rattle.nv_calls.specs.declared.calls.Call.{Call}
use Rattle.nv_calls.specs.Calls.{Request, request}
use Rattle.nv_calls.specs.Shapes.{IsShaped}
use Rattle.nv_guest.specs.Threads as guests
use Rattle.nv_guest.specs.declared.guest.Thread.{Thread as GuestThread}
use Rattle.nv_threads.specs.Threads.{TaskState, Runs, Asks, Waits, Task as Thread, task_tids, state_at, is_asking, call_in}
use Rattle.nv_threads.specs.inner.Process.{are_apart, IsOwn, AreOwn, HaveCapacity, IsSoundProcess}
use Rattle.nv_threads.specs.Tasks.{state_by, thread_by, threads_of}
use Rattle.nv_threads.specs.inner.Tasks.{task_place}
use Rattle.nv_threads.proofs.ThreadLaws.{others, tids_filter, tids_child}
use Rattle.nv_threads.specs.declared.tasks.Doing.{Doing}
use Rattle.nv_threads.specs.declared.tasks.Doing.TheVariants as doing
use Rattle.nv_threads.specs.declared.tasks.Task.{Task}
use Rattle.nv_threads.proofs.Orders.{after}
use Rattle.nv_threads.proofs.Keeping.{some_live}

and_both : (a b : Bool) → (a && b) ≡ true → (a ≡ true) × (b ≡ true)
and_both true b h = (refl, h)
and_both false b h = cc

not_true : (b : Bool) → not b ≡ true → b ≡ false
not_true true h = cc
not_true false h = refl

or_none : (a b : Bool) → (a || b) ≡ false → (a ≡ false) × (b ≡ false)
or_none true b h = cc
or_none false b h = (refl, h)

-- ---- numbers of their own

is_new : (x y : ℕ) (xs : List ℕ) → list_any (λ u. u == x) xs ≡ false → (x ≡ y → ⊥) → list_any (λ u. u == x) (xs ++ y ∷ []) ≡ false
is_new x y [] h n = by (y == x) refl
  where
    by : (b : Bool) → (y == x) ≡ b → (b || false) ≡ false
    by true e = absurd (n (let z : y ≡ x = grind (arith, nat_tests) in sym z))
    by false e = refl
is_new x y (z ∷ xs) h n = let p = or_none (z == x) (list_any (λ u. u == x) xs) h in rw (p.0, is_new x y xs p.1 n) refl

pub apart_more : (xs : List ℕ) (y : ℕ) → are_apart xs ≡ true → (Contains xs y → ⊥) → are_apart (xs ++ y ∷ []) ≡ true
apart_more [] y h n = refl
apart_more (x ∷ xs) y h n =
    let p = and_both (not (list_any (λ u. u == x) xs)) (are_apart xs) h in
    let a : list_any (λ u. u == x) (xs ++ y ∷ []) ≡ false = is_new x y xs (not_true _ p.0) (λ (e : x ≡ y). n (0, omega arith, e)) in
    rw (a, apart_more xs y p.1 (λ (c : Contains xs y). n (after x xs y c))) refl

any_filter : (x t : ℕ) (xs : List ℕ) → list_any (λ u. u == x) xs ≡ false → list_any (λ u. u == x) (filter (λ u. not (u == t)) xs) ≡ false
any_filter x t [] h = refl
any_filter x t (y ∷ ys) h = by (not (y == t)) (or_none (y == x) (list_any (λ u. u == x) ys) h).0 (any_filter x t ys (or_none (y == x) (list_any (λ u. u == x) ys) h).1)
  where
    by : (b : Bool) → (y == x) ≡ false → list_any (λ u. u == x) (filter (λ u. not (u == t)) ys) ≡ false
        → list_any (λ u. u == x) (cond b (y ∷ filter (λ u. not (u == t)) ys) (filter (λ u. not (u == t)) ys)) ≡ false
    by true e go = rw (e, go) refl
    by false e go = go

pub apart_filter : (t : ℕ) (xs : List ℕ) → are_apart xs ≡ true → are_apart (filter (λ u. not (u == t)) xs) ≡ true
apart_filter t [] h = refl
apart_filter t (x ∷ xs) h = by (not (x == t)) (not_true _ (and_both (not (list_any (λ u. u == x) xs)) (are_apart xs) h).0) (apart_filter t xs (and_both (not (list_any (λ u. u == x) xs)) (are_apart xs) h).1)
  where
    by : (b : Bool) → list_any (λ u. u == x) xs ≡ false → are_apart (filter (λ u. not (u == t)) xs) ≡ true
        → are_apart (cond b (x ∷ filter (λ u. not (u == t)) xs) (filter (λ u. not (u == t)) xs)) ≡ true
    by true e go = rw (any_filter x t xs e, go) refl
    by false e go = go

pub own_filter : (t : ℕ) (ts : List Thread) → AreOwn ts → AreOwn (filter (others t) ts)
own_filter t [] a = a
own_filter t (x ∷ ts) a = by (others t x) (own_filter t ts a.1)
  where
    by : (b : Bool) → AreOwn (filter (others t) ts) → AreOwn (cond b (x ∷ filter (others t) ts) (filter (others t) ts))
    by true go = (a.0, go)
    by false go = go

pub own_more : (ts : List Thread) (child : ℕ) → AreOwn ts → AreOwn (ts ++ record { tid = child; state = Runs } ∷ [])
own_more [] child a = (tt, tt)
own_more (x ∷ ts) child a = (a.0, own_more ts child a.1)

-- ---- one thread leaves

keep_all : (t : ℕ) (ts : List Thread) → list_any (λ u. u == t) (task_tids ts) ≡ false → filter (others t) ts ≡ ts
keep_all t [] h = refl
keep_all t (x ∷ ts) h = let p = or_none (x.tid == t) (list_any (λ u. u == t) (task_tids ts)) h in rw p.0 (ap (λ rest. x ∷ rest) (keep_all t ts p.1))

same_any : (t s : ℕ) (xs : List ℕ) → t ≡ s → list_any (λ u. u == t) xs ≡ false → list_any (λ u. u == s) xs ≡ false
same_any t s xs e h = subst (λ (n : ℕ). list_any (λ u. u == n) xs ≡ false) e h

removed_by : (ts : List Task) (cs : List Request) (t : Task) (c : Request) (tid : ℕ) (b : Bool) → (t.tid == tid) ≡ b → are_apart (task_tids (threads_of (t ∷ ts) (c ∷ cs))) ≡ true
    → (are_apart (task_tids (threads_of ts cs)) ≡ true → remove (threads_of ts cs) (task_place ts tid) ≡ filter (others tid) (threads_of ts cs))
    → remove (threads_of (t ∷ ts) (c ∷ cs)) (cond b 0 (suc (task_place ts tid))) ≡ cond (not b) (thread_by t c ∷ filter (others tid) (threads_of ts cs)) (filter (others tid) (threads_of ts cs))
removed_by ts cs t c tid true e a go =
    let p = and_both (not (list_any (λ u. u == t.tid) (task_tids (threads_of ts cs)))) (are_apart (task_tids (threads_of ts cs))) a in
    let z : t.tid ≡ tid = grind (arith, nat_tests) in
    sym (keep_all tid (threads_of ts cs) (same_any t.tid tid (task_tids (threads_of ts cs)) z (not_true _ p.0)))
removed_by ts cs t c tid false e a go =
    let p = and_both (not (list_any (λ u. u == t.tid) (task_tids (threads_of ts cs)))) (are_apart (task_tids (threads_of ts cs))) a in
    ap (λ rest. thread_by t c ∷ rest) (go p.1)

pub removed_is : (ts : List Task) (cs : List Request) (tid : ℕ) → length ts ≤ length cs → are_apart (task_tids (threads_of ts cs)) ≡ true
    → remove (threads_of ts cs) (task_place ts tid) ≡ filter (others tid) (threads_of ts cs)
removed_is [] cs tid h a = refl
removed_is (t ∷ ts) [] tid h a = absurd (omega arith)
removed_is (t ∷ ts) (c ∷ cs) tid h a = removed_by ts cs t c tid (t.tid == tid) refl a (removed_is ts cs tid (omega arith))

longer : (ts : List Task) (cs : List Request) (x : Request) → length ts ≤ length cs → threads_of ts (cs ++ x ∷ []) ≡ threads_of ts cs
longer [] cs x h = refl
longer (t ∷ ts) [] x h = absurd (omega arith)
longer (t ∷ ts) (c ∷ cs) x h = ap (λ rest. thread_by t c ∷ rest) (longer ts cs x (omega arith))

pub removed_of : (ts : List Task) (cs : List Request) (i : ℕ) (x : Request) → i < length ts → length ts ≤ length cs → threads_of (remove ts i) (remove cs i ++ x ∷ []) ≡ remove (threads_of ts cs) i
removed_of [] cs i x h l = absurd (omega arith)
removed_of (t ∷ ts) [] i x h l = absurd (omega arith)
removed_of (t ∷ ts) (c ∷ cs) zero x h l = longer ts cs x (omega arith)
removed_of (t ∷ ts) (c ∷ cs) (suc i) x h l = ap (λ rest. thread_by t c ∷ rest) (removed_of ts cs i x (omega arith) (omega arith))

-- ---- the guest's threads

none_dropped : (t : ℕ) (xs : List ℕ) → list_any (λ u. u == t) xs ≡ false → filter (λ u. not (u == t)) xs ≡ xs
none_dropped t [] h = refl
none_dropped t (x ∷ xs) h = let p = or_none (x == t) (list_any (λ u. u == t) xs) h in rw p.0 (ap (λ rest. x ∷ rest) (none_dropped t xs p.1))

dropped_by : (g : GuestThread) (gs : List GuestThread) (t : ℕ) (b : Bool) → (g.tid == t) ≡ b → are_apart (guests.tids (g ∷ gs)) ≡ true
    → (are_apart (guests.tids gs) ≡ true → guests.tids (guests.dropped gs t) ≡ filter (λ u. not (u == t)) (guests.tids gs))
    → guests.tids (cond b gs (g ∷ guests.dropped gs t)) ≡ cond (not b) (g.tid ∷ filter (λ u. not (u == t)) (guests.tids gs)) (filter (λ u. not (u == t)) (guests.tids gs))
dropped_by g gs t true e a go =
    let p = and_both (not (list_any (λ u. u == g.tid) (guests.tids gs))) (are_apart (guests.tids gs)) a in
    let z : g.tid ≡ t = grind (arith, nat_tests) in
    sym (none_dropped t (guests.tids gs) (same_any g.tid t (guests.tids gs) z (not_true _ p.0)))
dropped_by g gs t false e a go =
    let p = and_both (not (list_any (λ u. u == g.tid) (guests.tids gs))) (are_apart (guests.tids gs)) a in
    ap (λ rest. g.tid ∷ rest) (go p.1)

pub dropped_tids : (gs : List GuestThread) (t : ℕ) → are_apart (guests.tids gs) ≡ true → guests.tids (guests.dropped gs t) ≡ filter (λ u. not (u == t)) (guests.tids gs)
dropped_tids [] t a = refl
dropped_tids (g ∷ gs) t a = dropped_by g gs t (g.tid == t) refl a (dropped_tids gs t)

pub more_tids : (gs : List GuestThread) (g : GuestThread) → guests.tids (gs ++ g ∷ []) ≡ guests.tids gs ++ g.tid ∷ []
more_tids [] g = refl
more_tids (x ∷ gs) g = ap (λ rest. x.tid ∷ rest) (more_tids gs g)

-- ---- what is kept

pub with_more : (count budget renewals earlier : ℕ) (ts : List Thread) (g h : List ℕ) (cs : List Call) (t child : ℕ) → IsSoundProcess count budget renewals earlier ts g cs → Contains (task_tids ts) t → (Contains (task_tids ts) child → ⊥) → h ≡ g ++ child ∷ []
    → IsSoundProcess count budget renewals earlier (ts ++ record { tid = child; state = Runs } ∷ []) h cs
with_more count budget renewals earlier ts g h cs t child k l n e = record {
  within = k.within;
  few = k.few;
  same = λ _. e ∙ (ap (λ xs. xs ++ child ∷ []) (k.same (some_live ts t l)) ∙ sym (tids_child ts child));
  apart = ap are_apart (tids_child ts child) ∙ apart_more (task_tids ts) child k.apart n;
  own = own_more ts child k.own;
  eight = k.eight;
  capacity = k.capacity;
}

pub with_less : (count budget renewals earlier : ℕ) (ts : List Thread) (gs : List GuestThread) (h : List ℕ) (cs ds : List Call) (t : ℕ) → IsSoundProcess count budget renewals earlier ts (guests.tids gs) cs → Contains (task_tids ts) t
    → h ≡ guests.tids (guests.dropped gs t) → length ds ≡ 8 → HaveCapacity ds → IsSoundProcess count budget renewals earlier (filter (others t) ts) h ds
with_less count budget renewals earlier ts gs h cs ds t k l e n r =
    let same = k.same (some_live ts t l) in
    record {
      within = k.within;
      few = k.few;
      same = λ _. e ∙ (dropped_tids gs t (ap are_apart same ∙ k.apart) ∙ (ap (λ xs. filter (λ u. not (u == t)) xs) same ∙ sym (tids_filter ts t)));
      apart = ap are_apart (tids_filter ts t) ∙ apart_filter t (task_tids ts) k.apart;
      own = own_filter t ts k.own;
      eight = n;
      capacity = r;
    }

-- ---- calls

pub capacity_more : (cs : List Call) (c : Call) → HaveCapacity cs → 4096 ≤ c.payload.capacity → HaveCapacity (cs ++ c ∷ [])
capacity_more [] c h r = (r, tt)
capacity_more (x ∷ cs) c h r = (h.0, capacity_more cs c h.1 r)

pub capacity_less : (cs : List Call) (i : ℕ) → HaveCapacity cs → HaveCapacity (remove cs i)
capacity_less [] zero h = h
capacity_less [] (suc i) h = h
capacity_less (x ∷ cs) zero h = h.1
capacity_less (x ∷ cs) (suc i) h = (h.0, capacity_less cs i h.1)

pub map_more : (cs : List Call) (c : Call) → map request (cs ++ c ∷ []) ≡ map request cs ++ request c ∷ []
map_more [] c = refl
map_more (x ∷ cs) c = ap (λ rest. request x ∷ rest) (map_more cs c)

pub map_less : (cs : List Call) (i : ℕ) → map request (remove cs i) ≡ remove (map request cs) i
map_less [] zero = refl
map_less [] (suc i) = refl
map_less (x ∷ cs) zero = refl
map_less (x ∷ cs) (suc i) = ap (λ rest. request x ∷ rest) (map_less cs i)

pub map_at : (cs : List Call) (i : ℕ) (d : Call) → get_or (map request cs) i (request d) ≡ request (get_or cs i d)
map_at [] i d = refl
map_at (x ∷ cs) zero d = refl
map_at (x ∷ cs) (suc i) d = map_at cs i d

asked_as : (t : Task) (c : Request) → is_asking (Some (state_by t.doing c)) ≡ true → call_in (Some (state_by t.doing c)) ≡ c
asked_as t c h = by t.doing h
  where
    by : (d : Doing) → is_asking (Some (state_by d c)) ≡ true → call_in (Some (state_by d c)) ≡ c
    by doing.Runs h = cc
    by doing.Asks h = refl
    by (doing.Waits a) h = cc

asked_by : (t : Task) (ts : List Task) (c d : Request) (cs : List Request) (tid : ℕ) (b : Bool)
    → is_asking (cond b (Some (state_by t.doing c)) (state_at (threads_of ts cs) tid)) ≡ true
    → (is_asking (state_at (threads_of ts cs) tid) ≡ true → call_in (state_at (threads_of ts cs) tid) ≡ get_or cs (task_place ts tid) d)
    → call_in (cond b (Some (state_by t.doing c)) (state_at (threads_of ts cs) tid)) ≡ get_or (c ∷ cs) (cond b 0 (suc (task_place ts tid))) d
asked_by t ts c d cs tid true h go = asked_as t c h
asked_by t ts c d cs tid false h go = go h

-- the call that a thread waits for is the one at its place
pub asked_call : (ts : List Task) (cs : List Request) (tid : ℕ) (d : Request) → length ts ≤ length cs → is_asking (state_at (threads_of ts cs) tid) ≡ true
    → call_in (state_at (threads_of ts cs) tid) ≡ get_or cs (task_place ts tid) d
asked_call [] cs tid d l h = cc
asked_call (t ∷ ts) [] tid d l h = absurd (omega arith)
asked_call (t ∷ ts) (c ∷ cs) tid d l h = asked_by t ts c d cs tid (t.tid == tid) h (asked_call ts cs tid d (omega arith))

pub length_more : {A : Type 0} (xs : List A) (x : A) → length (xs ++ x ∷ []) ≡ length xs + 1
length_more [] x = refl
length_more (y ∷ ys) x = let h = length_more ys x in omega arith

own_as : (t : ℕ) (s : TaskState) → IsOwn t s → is_asking (Some s) ≡ true → ((call_in (Some s)).tid ≡ t) × IsShaped (call_in (Some s))
own_as t Runs o h = cc
own_as t (Asks c) o h = o
own_as t (Waits a) o h = cc

own_by : (x : Thread) (ts : List Thread) (t : ℕ) (b : Bool) → (x.tid == t) ≡ b → IsOwn x.tid x.state → is_asking (cond b (Some x.state) (state_at ts t)) ≡ true
    → (is_asking (state_at ts t) ≡ true → ((call_in (state_at ts t)).tid ≡ t) × IsShaped (call_in (state_at ts t)))
    → ((call_in (cond b (Some x.state) (state_at ts t))).tid ≡ t) × IsShaped (call_in (cond b (Some x.state) (state_at ts t)))
own_by x ts t true e o h go = let z : x.tid ≡ t = grind (arith, nat_tests) in own_as t x.state (subst (λ (n : ℕ). IsOwn n x.state) z o) h
own_by x ts t false e o h go = go h

-- a call that waits is its thread's, and one that a guest makes
pub own_call : (ts : List Thread) (t : ℕ) → AreOwn ts → is_asking (state_at ts t) ≡ true → ((call_in (state_at ts t)).tid ≡ t) × IsShaped (call_in (state_at ts t))
own_call [] t a h = cc
own_call (x ∷ ts) t a h = own_by x ts t (x.tid == t) refl a.0 h (own_call ts t a.1)
