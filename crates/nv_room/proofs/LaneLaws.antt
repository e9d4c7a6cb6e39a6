-- The lanes of a longer log.
use Rattle.std.proofs.Common.{◌≡◌, ℕ, zero, suc, ◌+◌, ◌%◌, ◌<◌, ◌≤◌, ◌≢◌, Bool, true, false, cond, List, [], ◌∷◌, ◌++◌, length, take, get_or, sym, ap, ◌∙◌, refl, arith, length-set, get_or-set_other, get_or-set_same, zero-add}
use Rattle.std.specs.Prelude.{Option, Some, None, is_some, unwrap_or, sum, ◌==◌}
use Rattle.std.specs.List.{position_from}
use mathlib.Core.Option.{some, some-ne-none, some-injective}
use lib.ListN.{get_elem?}
use mathlib.Core.Logic.{dite}
use native.Mathlib.Decide.{ℕ_discrete}
use Rattle.std.proofs.lemmas.Bool.{eq-eqb, ne_eqb}
use Rattle.std.proofs.lemmas.List.{get_or-replicate, get_or-take, get_or_push, take-append-le}
use Rattle.std.proofs.Math.Seq.{take-length}
use Rattle.std.proofs.Math.Nat.{le_of_lt, le_refl}
use Rattle.std.proofs.lemmas.List.Sums.{sum_by-cons, sum_by-set}
use Rattle.std.proofs.lemmas.Option.{same_Some}
use Rattle.nv_calls.specs.Calls.{Entry}
use Rattle.nv_calls.specs.Logs.{child_of}
use Rattle.nv_room.specs.Lanes.{Holders, Taken, is_of, lane_of, free_lane, lane_in, with_holder, with_child_lane, holders_by, holders_next, one_counted, noted_by, noted, start, taken_from, taken_after, lanes_from, lanes_of, events_in, lane_at, earlier_at}
use Rattle.nv_room.proofs.Windows.{counts_apart}

-- the threads that have lanes after a log
abbrev pub holders_from : Holders → List Entry → Holders
holders_from holders [] = holders
holders_from holders (e ∷ es) = holders_from (holders_next holders e) es

abbrev pub holders_after : List Entry → Holders
holders_after log = holders_from start.holders log

pub holders_of_taken : (s : Taken) (log : List Entry) → (taken_from s log).holders ≡ holders_from s.holders log
unfolding noted_by
holders_of_taken s [] = refl
holders_of_taken s (e ∷ es) = holders_of_taken (noted s e) es

taken_push_from : (s : Taken) (log : List Entry) (e : Entry) → taken_from s (log ++ e ∷ []) ≡ noted (taken_from s log) e
taken_push_from s [] e = refl
taken_push_from s (x ∷ xs) e = taken_push_from (noted s x) xs e

pub taken_push : (log : List Entry) (e : Entry) → taken_after (log ++ e ∷ []) ≡ noted (taken_after log) e
taken_push log e = taken_push_from start log e

lanes_push_from : (holders : Holders) (log : List Entry) (e : Entry) → lanes_from holders (log ++ e ∷ []) ≡ lanes_from holders log ++ lane_in (holders_from holders log) e.call.tid ∷ []
lanes_push_from holders [] e = refl
lanes_push_from holders (x ∷ xs) e = ap (λ (z : List ℕ). lane_in holders x.call.tid ∷ z) (lanes_push_from (holders_next holders x) xs e)

pub lanes_push : (log : List Entry) (e : Entry) → lanes_of (log ++ e ∷ []) ≡ lanes_of log ++ lane_in (holders_after log) e.call.tid ∷ []
lanes_push log e = lanes_push_from start.holders log e

lanes_length_from : (holders : Holders) (log : List Entry) → length (lanes_from holders log) ≡ length log
lanes_length_from holders [] = refl
lanes_length_from holders (x ∷ xs) = ap suc (lanes_length_from (holders_next holders x) xs)

pub lanes_length : (log : List Entry) → length (lanes_of log) ≡ length log
lanes_length log = lanes_length_from start.holders log

lanes_take_from : (holders : Holders) (log : List Entry) (i : ℕ) → lanes_from holders (take i log) ≡ take i (lanes_from holders log)
lanes_take_from holders log zero = refl
lanes_take_from holders [] (suc i) = refl
lanes_take_from holders (x ∷ xs) (suc i) = ap (λ (z : List ℕ). lane_in holders x.call.tid ∷ z) (lanes_take_from (holders_next holders x) xs i)

pub lanes_take : (log : List Entry) (i : ℕ) → lanes_of (take i log) ≡ take i (lanes_of log)
lanes_take log i = lanes_take_from start.holders log i

-- the lane of the event i is the lane of its thread after the events before it
lane_at_from : (holders : Holders) (log : List Entry) (i : ℕ) (e : Entry) → get_elem? log i ≡ some e → get_or (lanes_from holders log) i 0 ≡ lane_in (holders_from holders (take i log)) e.call.tid
lane_at_from holders [] i e h = absurd (some-ne-none e (sym h))
lane_at_from holders (x ∷ xs) zero e h = ap (λ (z : Entry). lane_in holders z.call.tid) (some-injective x e h)
lane_at_from holders (x ∷ xs) (suc i) e h = lane_at_from (holders_next holders x) xs i e h

pub lane_at_is : (log : List Entry) (i : ℕ) (e : Entry) → get_elem? log i ≡ some e → lane_at log i ≡ lane_in (holders_after (take i log)) e.call.tid
lane_at_is log i e h = lane_at_from start.holders log i e h

-- there are eight lanes
found_below : (holders : Holders) (tid k lane : ℕ) → position_from (is_of tid) k holders ≡ Some lane → lane < k + length holders
found_below [] tid k lane h = cc
found_below (x ∷ xs) tid k lane h = elim (is_of tid x) as (λ (b : Bool). cond b (Some k) (position_from (is_of tid) (k + 1) xs) ≡ Some lane → lane < k + length (x ∷ xs)) [ true ↦ (λ q. let e : k ≡ lane = same_Some k lane q in omega arith) | false ↦ (λ q. let l = found_below xs tid (k + 1) lane q in omega arith) ] h

lane_below_by : (holders : Holders) (tid : ℕ) (found : Option ℕ) → position_from (is_of tid) 0 holders ≡ found → 0 < length holders → unwrap_or found 0 < length holders
lane_below_by holders tid None h pos = pos
lane_below_by holders tid (Some lane) h pos = let l = found_below holders tid 0 lane h in omega arith

pub lane_below : (holders : Holders) (tid : ℕ) → 0 < length holders → lane_in holders tid < length holders
unfolding lane_of
lane_below holders tid pos = lane_below_by holders tid (position_from (is_of tid) 0 holders) refl pos

below_set : (holders : Holders) (found : Option ℕ) (holder : Option ℕ) → length (with_holder holders found holder) ≡ length holders
below_set holders None holder = refl
below_set holders (Some lane) holder = length-set holders lane holder

child_keeps : (holders : Holders) (child : Option ℕ) → length (with_child_lane holders child) ≡ length holders
child_keeps holders None = refl
child_keeps holders (Some child) = elim (is_some (lane_of holders child)) as (λ (b : Bool). length (cond b holders (with_holder holders (free_lane holders) (Some child))) ≡ length holders) [ true ↦ refl | false ↦ below_set holders (free_lane holders) (Some child) ]

pub next_keeps : (holders : Holders) (e : Entry) → length (holders_next holders e) ≡ length holders
unfolding holders_by
next_keeps holders e = elim (e.call.nr == 93) as (λ (b : Bool). length (cond b (with_holder holders (lane_of holders e.call.tid) None) (with_child_lane holders (child_of e))) ≡ length holders) [ true ↦ below_set holders (lane_of holders e.call.tid) None | false ↦ child_keeps holders (child_of e) ]

eight_from : (holders : Holders) (log : List Entry) → length (holders_from holders log) ≡ length holders
eight_from holders [] = refl
eight_from holders (e ∷ es) = eight_from (holders_next holders e) es ∙ next_keeps holders e

pub eight_lanes : (log : List Entry) → length (holders_after log) ≡ 8
unfolding start
eight_lanes log = eight_from start.holders log

pub lane_after_below : (log : List Entry) (tid : ℕ) → lane_in (holders_after log) tid < 8
lane_after_below log tid = let n = eight_lanes log in let l = lane_below (holders_after log) tid (omega arith) in omega arith

lanes_below_from : (holders : Holders) (log : List Entry) → length holders ≡ 8 → (i : ℕ) → get_or (lanes_from holders log) i 0 < 8
lanes_below_from holders [] n i = omega arith
lanes_below_from holders (e ∷ es) n zero = let l = lane_below holders e.call.tid (omega arith) in omega arith
lanes_below_from holders (e ∷ es) n (suc i) = lanes_below_from (holders_next holders e) es (next_keeps holders e ∙ n) i

pub lane_at_below : (log : List Entry) (i : ℕ) → lane_at log i < 8
unfolding start
lane_at_below log i = lanes_below_from start.holders log refl i

-- the counts are those of the lanes
abbrev bit_of : Bool → ℕ
bit_of b = cond b 1 0

abbrev seen_in : ℕ → ℕ → ℕ
seen_in lane l = cond (lane == l) 1 0

one_more_at : (counts : List ℕ) (lane l : ℕ) → l < length counts → get_or (one_counted counts lane) l 0 ≡ get_or counts l 0 + seen_in lane l
one_more_at counts lane l within = dite (ℕ_discrete lane l)
    (λ e. let c : seen_in lane l ≡ 1 = ap bit_of (eq-eqb lane l e) in
    let here : get_or (one_counted counts lane) l 0 ≡ get_or counts lane 0 + 1 = ap (λ (k : ℕ). get_or (one_counted counts lane) k 0) (sym e) ∙ get_or-set_same counts lane (get_or counts lane 0 + 1) 0 (omega arith) in
    let same : get_or counts lane 0 ≡ get_or counts l 0 = ap (λ (k : ℕ). get_or counts k 0) e in omega arith)
    (λ ne. let c : seen_in lane l ≡ 0 = ap bit_of (ne_eqb lane l ne) in
    let away = get_or-set_other counts lane l (get_or counts lane 0 + 1) 0 (λ q. ne (sym q)) in omega arith)

counts_from : (s : Taken) (log : List Entry) (l : ℕ) → l < length s.counts → get_or (taken_from s log).counts l 0 ≡ get_or s.counts l 0 + events_in l (lanes_from s.holders log)
unfolding noted_by
counts_from s [] l within = omega arith
counts_from s (e ∷ es) l within =
    let lane : ℕ = lane_in s.holders e.call.tid in
    let on = counts_from (noted s e) es l (let w = length-set s.counts lane (get_or s.counts lane 0 + 1) in omega arith) in
    let one = one_more_at s.counts lane l within in
    let parts = sum_by-cons (λ (x : ℕ). cond (x == l) 1 0) lane (lanes_from (holders_next s.holders e) es) in
    omega arith

pub counts_are : (log : List Entry) (lane : ℕ) → lane < 8 → get_or (taken_after log).counts lane 0 ≡ events_in lane (lanes_of log)
unfolding start
counts_are log lane l = counts_from start log lane l ∙ ap (λ (k : ℕ). k + events_in lane (lanes_of log)) (get_or-replicate 8 lane 0 0 l) ∙ zero-add (events_in lane (lanes_of log))

sum_from : (s : Taken) (log : List Entry) → length s.holders ≡ 8 → length s.counts ≡ 8 → sum (taken_from s log).counts ≡ sum s.counts + length log
unfolding noted_by
sum_from s [] a b = omega arith
sum_from s (e ∷ es) a b =
    let lane : ℕ = lane_in s.holders e.call.tid in
    let below = lane_below s.holders e.call.tid (omega arith) in
    let on = sum_from (noted s e) es (next_keeps s.holders e ∙ a) (length-set s.counts lane (get_or s.counts lane 0 + 1) ∙ b) in
    let one = sum_by-set (λ (x : ℕ). x) s.counts lane (get_or s.counts lane 0 + 1) 0 (omega arith) in
    omega arith

-- as many events as were noted
pub noted_all : (log : List Entry) → sum (taken_after log).counts ≡ length log
unfolding start
noted_all log = let h = sum_from start log refl refl in omega arith

-- two events of one lane that stand less than c apart have different places
pub lanes_apart : (log : List Entry) (c a b : ℕ) → a < b → b < a + c → a < length log → lane_at log a ≡ lane_at log b → earlier_at log a % c ≢ earlier_at log b % c
lanes_apart log c a b lt near within same e =
    let lane : ℕ = lane_at log b in
    counts_apart (λ (l : ℕ). l == lane) (lanes_of log) c a b lt near (let n = lanes_length log in omega arith) (eq-eqb (lane_at log a) lane same)
    (ap (λ (k : ℕ). events_in k (take a (lanes_of log)) % c) (sym same) ∙ e)

-- a longer log moves no event
prefix_same : (log more : List Entry) (i : ℕ) → i ≤ length log → take i (lanes_of (log ++ more)) ≡ take i (lanes_of log)
prefix_same log more i h = sym (lanes_take (log ++ more) i) ∙ ap lanes_of (take-append-le i log more h) ∙ lanes_take log i

pub lane_at_stays : (log more : List Entry) (i : ℕ) → i < length log → lane_at (log ++ more) i ≡ lane_at log i
lane_at_stays log more i h =
    sym (get_or-take (length log) (lanes_of (log ++ more)) i 0 h)
    ∙ ap (λ (z : List ℕ). get_or z i 0) (prefix_same log more (length log) (le_refl (length log)))
    ∙ get_or-take (length log) (lanes_of log) i 0 h

pub earlier_at_stays : (log more : List Entry) (i : ℕ) → i < length log → earlier_at (log ++ more) i ≡ earlier_at log i
earlier_at_stays log more i h = λ k. events_in (lane_at_stays log more i h k) (prefix_same log more i (le_of_lt h) k)

-- an event after a log
pub lane_at_last : (log : List Entry) (e : Entry) → lane_at (log ++ e ∷ []) (length log) ≡ lane_in (holders_after log) e.call.tid
lane_at_last log e =
    ap (λ (z : List ℕ). get_or z (length log) 0) (lanes_push log e)
    ∙ get_or_push (lanes_of log) (lane_in (holders_after log) e.call.tid) 0 (length log) (lanes_length log)

pub earlier_at_last : (log : List Entry) (e : Entry) → earlier_at (log ++ e ∷ []) (length log) ≡ events_in (lane_in (holders_after log) e.call.tid) (lanes_of log)
earlier_at_last log e = λ k. events_in (lane_at_last log e k) ((prefix_same log (e ∷ []) (length log) (le_refl (length log)) ∙ ap (λ (n : ℕ). take n (lanes_of log)) (sym (lanes_length log)) ∙ take-length (lanes_of log)) k)

holders_push_from : (holders : Holders) (log : List Entry) (e : Entry) → holders_from holders (log ++ e ∷ []) ≡ holders_next (holders_from holders log) e
holders_push_from holders [] e = refl
holders_push_from holders (x ∷ xs) e = holders_push_from (holders_next holders x) xs e

pub holders_push : (log : List Entry) (e : Entry) → holders_after (log ++ e ∷ []) ≡ holders_next (holders_after log) e
holders_push log e = holders_push_from start.holders log e
