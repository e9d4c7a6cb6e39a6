-- In a lawful log each thread that lives has a lane.
use Rattle.std.proofs.Common.{◌≡◌, ℕ, zero, suc, ◌+◌, ◌<◌, ◌≤◌, ◌≢◌, ◌⊎◌, inl, inr, ⊎_elim, Bool, true, false, cond, not, List, [], ◌∷◌, ◌++◌, length, take, get_or, set, sym, ap, subst, ◌∙◌, refl, arith, length-append, length-set}
use Rattle.std.specs.Prelude.{Option, Some, None, is_some, is_none, count_by, filter, Contains, unwrap_or, ◌==◌, ◌||◌}
use Rattle.std.specs.List.{position_from}
use mathlib.Core.Option.{some, some-ne-none, some-injective}
use lib.ListN.{get_elem?}
use Rattle.std.proofs.lemmas.Bool.{eqb-true, eq-eqb, ne_eqb}
use Rattle.std.proofs.lemmas.List.Sums.{sum_by-cons, sum_by-set, sum_by_push, length-filter}
use Rattle.std.proofs.lemmas.List.Filters.{length-filter_both}
use Rattle.std.proofs.lemmas.Option.{same_Some}
use Rattle.nv_calls.specs.Calls.{Entry}
use Rattle.nv_calls.specs.Logs.{child_of, live_next, live_after, IsNew, MayFollow, IsLawful, with_child as with_new}
use Rattle.nv_room.specs.Lanes.{Holders, is_of, lane_of, free_lane, with_holder, with_child_lane, holders_by, holders_next, start, lives, taken_after, lane_at}
use Rattle.nv_room.proofs.LaneLaws.{next_keeps, holders_after, holders_of_taken, holders_push, lane_at_is}
use Rattle.nv_calls.proofs.LogLaws.{live_more, slice_some}

-- Finding a lane

is_of_true : (tid : ℕ) (holder : Option ℕ) → is_of tid holder ≡ true → holder ≡ Some tid
is_of_true tid None h = cc
is_of_true tid (Some t) h = ap (λ (x : ℕ). Some x) (eqb-true t tid h)

-- a test by cases, with what it was
by_test : {A : Type 0} (b : Bool) → (b ≡ true → A) → (b ≡ false → A) → A
by_test true hit miss = hit refl
by_test false hit miss = miss refl

found_at : (holders : Holders) (tid k lane : ℕ) → position_from (is_of tid) k holders ≡ Some lane → (i : ℕ) × (lane ≡ k + i) × (get_elem? holders i ≡ some (Some tid))
found_at [] tid k lane h = cc
found_at (x ∷ xs) tid k lane h = by_test (is_of tid x)
    (λ t. let e : k ≡ lane = same_Some k lane (sym (ap (λ (b : Bool). cond b (Some k) (position_from (is_of tid) (k + 1) xs)) t) ∙ h) in (0, omega arith, ap some (is_of_true tid x t)))
    (λ f. let r = found_at xs tid (k + 1) lane (sym (ap (λ (b : Bool). cond b (Some k) (position_from (is_of tid) (k + 1) xs)) f) ∙ h) in (suc r.0, (let q = r.1 in omega arith), r.2))

found_some : (holders : Holders) (tid k i : ℕ) → get_elem? holders i ≡ some (Some tid) → (lane : ℕ) × (position_from (is_of tid) k holders ≡ Some lane)
found_some [] tid k i h = absurd (some-ne-none (Some tid) (sym h))
found_some (x ∷ xs) tid k zero h = (k, ap (λ (b : Bool). cond b (Some k) (position_from (is_of tid) (k + 1) xs)) (ap (is_of tid) (some-injective x (Some tid) h) ∙ eq-eqb tid tid refl))
found_some (x ∷ xs) tid k (suc i) h = by_test (is_of tid x)
    (λ t. (k, ap (λ (b : Bool). cond b (Some k) (position_from (is_of tid) (k + 1) xs)) t))
    (λ f. let r = found_some xs tid (k + 1) i h in (r.0, ap (λ (b : Bool). cond b (Some k) (position_from (is_of tid) (k + 1) xs)) f ∙ r.1))

free_at : (holders : Holders) (k lane : ℕ) → position_from is_none k holders ≡ Some lane → (i : ℕ) × (lane ≡ k + i) × (get_elem? holders i ≡ some None)
free_at [] k lane h = cc
free_at (None ∷ xs) k lane h = let e = same_Some k lane h in (0, omega arith, refl)
free_at (Some t ∷ xs) k lane h = let r = free_at xs (k + 1) lane h in (suc r.0, (let q = r.1 in omega arith), r.2)

abbrev pub taken : Holders → ℕ
taken holders = count_by is_some holders

free_some : (holders : Holders) (k : ℕ) → taken holders < length holders → (lane : ℕ) × (position_from is_none k holders ≡ Some lane)
free_some [] k h = absurd (omega arith)
free_some (None ∷ xs) k h = (k, refl)
free_some (Some t ∷ xs) k h = free_some xs (k + 1) (let c = sum_by-cons (λ (x : Option ℕ). cond (is_some x) 1 0) (Some t) xs in omega arith)

-- Setting a lane

module _ {A : Type 0} where
  set_here : (xs : List A) (i : ℕ) (a b : A) → get_elem? xs i ≡ some b → get_elem? (set xs i a) i ≡ some a
  set_here [] i a b h = absurd (some-ne-none b (sym h))
  set_here (x ∷ xs) zero a b h = refl
  set_here (x ∷ xs) (suc i) a b h = set_here xs i a b h

  set_away : (xs : List A) (i j : ℕ) (a : A) → j ≢ i → get_elem? (set xs i a) j ≡ get_elem? xs j
  set_away [] i j a ne = refl
  set_away (x ∷ xs) zero zero a ne = absurd (ne refl)
  set_away (x ∷ xs) zero (suc j) a ne = refl
  set_away (x ∷ xs) (suc i) zero a ne = refl
  set_away (x ∷ xs) (suc i) (suc j) a ne = set_away xs i j a (λ e. ne (ap suc e))

  pub at_get : (xs : List A) (i : ℕ) (a d : A) → get_elem? xs i ≡ some a → (i < length xs) × (get_or xs i d ≡ a)
  at_get [] i a d h = absurd (some-ne-none a (sym h))
  at_get (x ∷ xs) zero a d h = (omega arith, some-injective x a h)
  at_get (x ∷ xs) (suc i) a d h = let r = at_get xs i a d h in ((let q = r.0 in omega arith), r.1)

taken_set : (holders : Holders) (i : ℕ) (a b : Option ℕ) → get_elem? holders i ≡ some b → taken (set holders i a) + cond (is_some b) 1 0 ≡ taken holders + cond (is_some a) 1 0
taken_set holders i a b h = let r = at_get holders i b None h in subst (λ (z : Option ℕ). taken (set holders i a) + cond (is_some z) 1 0 ≡ taken holders + cond (is_some a) 1 0) r.1 (sum_by-set (λ (x : Option ℕ). cond (is_some x) 1 0) holders i a None r.0)

-- Counting threads

abbrev bit : Bool → ℕ
bit b = cond b 1 0

abbrev pub times : ℕ → List ℕ → ℕ
times t live = count_by (λ x. x == t) live

contains_none : (t : ℕ) → Contains [] t → ⊥
contains_none t c = let l = c.1 in omega arith

contains_more : (x : ℕ) (xs : List ℕ) (t : ℕ) → Contains xs t → Contains (x ∷ xs) t
contains_more x xs t c = (suc c.0, (let l = c.1 in omega arith), c.2)

times_none : (t : ℕ) (live : List ℕ) → (Contains live t → ⊥) → times t live ≡ 0
times_none t [] away = refl
times_none t (x ∷ xs) away =
    let rest = times_none t xs (λ c. away (contains_more x xs t c)) in
    let parts = sum_by-cons (λ (y : ℕ). cond (y == t) 1 0) x xs in
    let here : cond (x == t) 1 0 ≡ 0 = ap (λ (b : Bool). cond b 1 0) (ne_eqb x t (λ e. away (0, omega arith, e))) in
    parts ∙ (λ k. here k + rest k)

times_filter : (t : ℕ) (p : ℕ → Bool) (xs : List ℕ) → times t (filter p xs) ≤ times t xs
times_filter t p [] = omega arith
times_filter t p (x ∷ xs) =
    let rest = times_filter t p xs in
    let parts = sum_by-cons (λ (y : ℕ). cond (y == t) 1 0) x xs in
    let kept = sum_by-cons (λ (y : ℕ). cond (y == t) 1 0) x (filter p xs) in
    elim (p x) as (λ (b : Bool). times t (cond b (x ∷ filter p xs) (filter p xs)) ≤ times t (x ∷ xs)) [ true ↦ omega arith | false ↦ omega arith ]

not_not : (b : Bool) → b ≡ not (not b)
not_not true = refl
not_not false = refl

others : (t : ℕ) (live : List ℕ) → length (filter (λ x. not (x == t)) live) + times t live ≡ length live
others t live = ap (λ (k : ℕ). length (filter (λ x. not (x == t)) live) + k) (sym (length-filter (λ x. x == t) live)) ∙ length-filter_both (λ x. not (x == t)) (λ x. x == t) (λ x. not_not (x == t)) live

contains_kept : (p : ℕ → Bool) (x : ℕ) (xs : List ℕ) (t : ℕ) → p x ≡ true → (Contains (filter p xs) t → Contains xs t × (p t ≡ true)) → Contains (x ∷ filter p xs) t → Contains (x ∷ xs) t × (p t ≡ true)
contains_kept p x xs t h later (zero, l, e) = ((0, omega arith, e), ap p (sym e) ∙ h)
contains_kept p x xs t h later (suc k, l, e) = let r = later (k, omega arith, e) in (contains_more x xs t r.0, r.1)

contains_filter : (p : ℕ → Bool) (xs : List ℕ) (t : ℕ) → Contains (filter p xs) t → Contains xs t × (p t ≡ true)
contains_filter p [] t c = absurd (contains_none t c)
contains_filter p (x ∷ xs) t c = by_test (p x)
    (λ h. let c' : Contains (x ∷ filter p xs) t = subst (λ (b : Bool). Contains (cond b (x ∷ filter p xs) (filter p xs)) t) h c in contains_kept p x xs t h (contains_filter p xs t) c')
    (λ h. let c' : Contains (filter p xs) t = subst (λ (b : Bool). Contains (cond b (x ∷ filter p xs) (filter p xs)) t) h c in let r = contains_filter p xs t c' in (contains_more x xs t r.0, r.1))

contains_push : (live : List ℕ) (child t : ℕ) → Contains (live ++ child ∷ []) t → Contains live t ⊎ (child ≡ t)
contains_push [] child t (zero, l, e) = inr e
contains_push [] child t (suc k, l, e) = absurd (omega arith)
contains_push (x ∷ xs) child t (zero, l, e) = inl (0, omega arith, e)
contains_push (x ∷ xs) child t (suc k, l, e) = ⊎_elim (λ c. inl (contains_more x xs t c)) (λ q. inr q) (contains_push xs child t (k, omega arith, e))

-- Threads that live have lanes

abbrev pub Has : Holders → ℕ → Type 0
Has holders t = (i : ℕ) × (get_elem? holders i ≡ some (Some t))

pub record Seated (live : List ℕ) (holders : Holders) : Type 0 where
  pub eight : length holders ≡ 8
  pub once : (t : ℕ) → times t live ≤ 1
  pub each_has : (t : ℕ) → Contains live t → Has holders t
  pub few : (live ≡ []) ⊎ (taken holders ≤ length live)

seated_none : (holders : Holders) → length holders ≡ 8 → Seated [] holders
seated_none holders n = record { eight = n; once = λ t. omega arith; each_has = λ t c. absurd (contains_none t c); few = inl refl }

few_live : (live : List ℕ) (holders : Holders) (t : ℕ) → Seated live holders → Contains live t → taken holders ≤ length live
few_live live holders t s c = ⊎_elim (λ e. absurd (contains_none t (subst (λ (z : List ℕ). Contains z t) e c))) (λ q. q) s.few

seated_exit : (live : List ℕ) (holders : Holders) (tid : ℕ) → Seated live holders → Contains live tid → Seated (filter (λ x. not (x == tid)) live) (with_holder holders (lane_of holders tid) None)
unfolding lane_of
seated_exit live holders tid s c =
    let had = s.each_has tid c in
    let found = found_some holders tid 0 had.0 had.1 in
    let at = found_at holders tid 0 found.0 found.1 in
    let lane : ℕ = at.0 in
    let is : position_from (is_of tid) 0 holders ≡ Some lane = found.1 ∙ ap (λ (k : ℕ). Some k) (let q = at.1 in let z : found.0 ≡ lane = omega arith in z) in
    subst (λ (o : Option ℕ). Seated (filter (λ x. not (x == tid)) live) (with_holder holders o None)) (sym is) record {
      eight = length-set holders lane None ∙ s.eight;
      once = λ t. let a = times_filter t (λ x. not (x == tid)) live in let b = s.once t in omega arith;
      each_has = λ t d. let r = contains_filter (λ x. not (x == tid)) live t d in let h = s.each_has t r.0 in
          (h.0, set_away holders lane h.0 None (λ e. let same : t ≡ tid = same_Some t tid (some-injective (Some t) (Some tid) (sym h.1 ∙ ap (λ (k : ℕ). get_elem? holders k) e ∙ at.2)) in let no_longer : true ≡ not true = sym r.1 ∙ ap not (eq-eqb t tid same) in cc) ∙ h.1);
      few = inr (let a = taken_set holders lane None (Some tid) at.2 in let b = others tid live in let d = s.once tid in let f = few_live live holders tid s c in omega arith);
    }

some_of : (o : Option ℕ) → is_some o ≡ true → (k : ℕ) × (o ≡ Some k)
some_of None h = cc
some_of (Some k) h = (k, refl)

seated_child : (live : List ℕ) (holders : Holders) (child : ℕ) → Seated live holders → taken holders ≤ length live → length live < 8 → (Contains live child → ⊥) → Seated (live ++ child ∷ []) (with_child_lane holders (Some child))
unfolding lane_of free_lane
seated_child live holders child s few less new =
    let longer = length-append live (child ∷ []) in
    let once : (t : ℕ) → times t (live ++ child ∷ []) ≤ 1 = λ t. (let p = sum_by_push (λ (y : ℕ). cond (y == t) 1 0) live child in
    by_test (child == t)
    (λ h. let e = eqb-true child t h in let z = times_none t live (λ c. new (subst (Contains live) (sym e) c)) in let b : bit (child == t) ≡ 1 = ap bit h in omega arith)
    (λ h. let b : bit (child == t) ≡ 0 = ap bit h in let o = s.once t in omega arith)) in
    let free = free_some holders 0 (let n = s.eight in omega arith) in
    let at = free_at holders 0 free.0 free.1 in
    let lane : ℕ = at.0 in
    let is : position_from is_none 0 holders ≡ Some lane = free.1 ∙ ap (λ (k : ℕ). Some k) (let q = at.1 in let z : free.0 ≡ lane = omega arith in z) in
    let old : Option ℕ = position_from (is_of child) 0 holders in
    by_test (is_some old)
    (λ h. let o = some_of old h in let f = found_at holders child 0 o.0 o.1 in
    subst (λ (b : Bool). Seated (live ++ child ∷ []) (cond b holders (with_holder holders (position_from is_none 0 holders) (Some child)))) (sym h) record {
      eight = s.eight;
      once = once;
      each_has = λ t c. ⊎_elim (λ d. s.each_has t d) (λ e. (f.0, f.2 ∙ ap (λ (k : ℕ). some (Some k)) e)) (contains_push live child t c);
      few = inr (omega arith);
    })
    (λ h. subst (λ (b : Bool). Seated (live ++ child ∷ []) (cond b holders (with_holder holders (position_from is_none 0 holders) (Some child)))) (sym h)
    (subst (λ (o : Option ℕ). Seated (live ++ child ∷ []) (with_holder holders o (Some child))) (sym is) record {
      eight = length-set holders lane (Some child) ∙ s.eight;
      once = once;
      each_has = λ t c. ⊎_elim
          (λ d. let h = s.each_has t d in (h.0, set_away holders lane h.0 (Some child) (λ e. let q : Some t ≡ None = some-injective (Some t) None (sym h.1 ∙ ap (λ (k : ℕ). get_elem? holders k) e ∙ at.2) in cc) ∙ h.1))
          (λ e. (lane, set_here holders lane (Some child) None at.2 ∙ ap (λ (k : ℕ). some (Some k)) e))
          (contains_push live child t c);
      few = inr (let a = taken_set holders lane (Some child) None at.2 in omega arith);
    }))

seated_new : (live : List ℕ) (holders : Holders) (child : Option ℕ) → Seated live holders → taken holders ≤ length live → IsNew live child → Seated (with_new live child) (with_child_lane holders child)
seated_new live holders None s less new = s
seated_new live holders (Some child) s less new = seated_child live holders child s less new.0 new.1

-- one event on
seated_next : (n : ℕ) (live : List ℕ) (holders : Holders) (e : Entry) → Seated live holders → MayFollow n live e → Seated (live_next live e) (holders_next holders e)
unfolding holders_by
seated_next n live holders e s m =
    let tid : ℕ = e.call.tid in
    let less = few_live live holders tid s m.lives in
    by_test (e.call.nr == 94)
    (λ h. subst (λ (b : Bool). Seated (cond b [] (cond (e.call.nr == 93) (filter (λ t. not (t == tid)) live) (with_new live (child_of e)))) (holders_next holders e)) (sym h) (seated_none (holders_next holders e) (next_keeps holders e ∙ s.eight)))
    (λ h. subst (λ (b : Bool). Seated (cond b [] (cond (e.call.nr == 93) (filter (λ t. not (t == tid)) live) (with_new live (child_of e)))) (holders_next holders e)) (sym h)
    (by_test (e.call.nr == 93)
    (λ x. subst (λ (b : Bool). Seated (cond b (filter (λ t. not (t == tid)) live) (with_new live (child_of e))) (cond b (with_holder holders (lane_of holders tid) None) (with_child_lane holders (child_of e)))) (sym x) (seated_exit live holders tid s m.lives))
    (λ x. subst (λ (b : Bool). Seated (cond b (filter (λ t. not (t == tid)) live) (with_new live (child_of e))) (cond b (with_holder holders (lane_of holders tid) None) (with_child_lane holders (child_of e)))) (sym x) (seated_new live holders (child_of e) s less m.new))))

-- along a log

module _ {A : Type 0} where
  pub there : (xs : List A) (i : ℕ) → i < length xs → (x : A) × (get_elem? xs i ≡ some x)
  there [] i h = absurd (omega arith)
  there (x ∷ xs) zero h = (x, refl)
  there (x ∷ xs) (suc i) h = there xs i (omega arith)

  pub take_one_more : (xs : List A) (i : ℕ) (x : A) → get_elem? xs i ≡ some x → take (suc i) xs ≡ take i xs ++ x ∷ []
  take_one_more [] i x h = absurd (some-ne-none x (sym h))
  take_one_more (y ∷ ys) zero x h = ap (λ z. z ∷ []) (some-injective y x h)
  take_one_more (y ∷ ys) (suc i) x h = ap (λ z. y ∷ z) (take_one_more ys i x h)

module _ {A : Type 0} where
  pub get_take : (xs : List A) (k i : ℕ) → i < k → get_elem? (take k xs) i ≡ get_elem? xs i
  get_take xs zero i h = absurd (omega arith)
  get_take [] (suc k) i h = refl
  get_take (x ∷ xs) (suc k) zero h = refl
  get_take (x ∷ xs) (suc k) (suc i) h = get_take xs k i (omega arith)

only_first : (t : ℕ) → Contains (100 ∷ []) t → 100 ≡ t
only_first t (zero, l, e) = e
only_first t (suc k, l, e) = absurd (omega arith)

seated_start : Seated (100 ∷ []) start.holders
unfolding start
seated_start = record {
  eight = refl;
  once = λ t. by_test (100 == t)
      (λ h. let a = sum_by-cons (λ (y : ℕ). cond (y == t) 1 0) 100 [] in let b : bit (100 == t) ≡ 1 = ap bit h in omega arith)
      (λ h. let a = sum_by-cons (λ (y : ℕ). cond (y == t) 1 0) 100 [] in let b : bit (100 == t) ≡ 0 = ap bit h in omega arith);
  each_has = λ t c. (0, ap (λ (k : ℕ). some (Some k)) (only_first t c));
  few = inr (omega arith);
}

seated_before : (log : List Entry) → IsLawful log → (i : ℕ) → i ≤ length log → Seated (live_after (take i log)) (holders_after (take i log))
seated_before log h zero l = seated_start
seated_before log h (suc i) l =
    let e = there log i (omega arith) in
    let one : take (suc i) log ≡ take i log ++ e.0 ∷ [] = take_one_more log i e.0 e.1 in
    let before = seated_before log h i (omega arith) in
    subst (λ (z : List Entry). Seated (live_after z) (holders_after z)) (sym one)
    (subst (λ (live : List ℕ). Seated live (holders_after (take i log ++ e.0 ∷ []))) (sym (live_more (take i log) e.0))
    (subst (Seated (live_next (live_after (take i log)) e.0)) (sym (holders_push (take i log) e.0))
    (seated_next i (live_after (take i log)) (holders_after (take i log)) e.0 before (h i e.0 (slice_some log i e.0 e.1)))))

found_lives : (b : Bool) (o : Option ℕ) → is_some o ≡ true → (b || is_some o) ≡ true
found_lives true o h = refl
found_lives false o h = h

-- the lane of an event is one that lives before it
pub lane_lives : (log : List Entry) (i : ℕ) (e : Entry) → IsLawful log → get_elem? log i ≡ some e → lives (taken_after (take i log)) (lane_at log i) ≡ true
unfolding lane_of
lane_lives log i e h at =
    let holders : Holders = holders_after (take i log) in
    let tid : ℕ = e.call.tid in
    let seated = seated_before log h i (let b = (at_get log i e e at).0 in omega arith) in
    let had = seated.each_has tid (h i e (slice_some log i e at)).lives in
    let found = found_some holders tid 0 had.0 had.1 in
    let f = found_at holders tid 0 found.0 found.1 in
    let lane : ℕ = f.0 in
    let is : lane_at log i ≡ lane = lane_at_is log i e at ∙ ap (λ (o : Option ℕ). unwrap_or o 0) found.1 ∙ (let q = f.1 in let z : found.0 ≡ lane = omega arith in z) in
    let same : (taken_after (take i log)).holders ≡ holders = holders_of_taken start (take i log) in
    let there : get_or (taken_after (take i log)).holders lane None ≡ Some tid = ap (λ (hs : Holders). get_or hs lane None) same ∙ (at_get holders lane (Some tid) None f.2).1 in
    ap (λ (k : ℕ). lives (taken_after (take i log)) k) is ∙ found_lives (lane == 0) (get_or (taken_after (take i log)).holders lane None) (ap is_some there)
