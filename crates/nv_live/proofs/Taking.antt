-- How what is taken goes on: one more read, and one more piece.
use Rattle.std.proofs.Common.{◌≡◌, ℕ, ◌+◌, ◌-◌, ◌≤◌, ◌==◌, Bool, true, false, cond, List, [], ◌∷◌, ◌++◌, Option, None, Some, IsSome, Result, Ok, Err, length, map, flat_map, take, drop, append-nil, append_assoc, length-take, drop-drop, refl, sym, ap, subst, ◌∙◌, arith}
use Rattle.std.specs.List.{list_all}
use Rattle.std.specs.Result.{is_ok}
use Rattle.std.proofs.lemmas.Bool.{and_parts, and_from}
use Rattle.std.proofs.lemmas.Bool.Decides.{nat_tests}
use Rattle.std.proofs.lemmas.List.{drop-take, map-append, nil_from_length}
use Rattle.std.proofs.lemmas.List.Concat.{flat_map-append}
use Rattle.std.proofs.lemmas.List.Folds.{list_all-append}
use Rattle.nv_script.specs.declared.arrival.ArrivalCause.{ArrivalCause}
use Rattle.nv_script.specs.Arrivals.{Arrival, Input, InputEnd, is_arrival}
use Rattle.nv_script.specs.Order.{Came, most_clients, nothing_came, onward, after, are_orderly, are_arrivals}
use Rattle.nv_script.specs.Pieces.{cut_after, pieces, input_of}
use Rattle.nv_script.proofs.Orderly.{after-append}
use Rattle.nv_script.proofs.Plain.{plain_limits, plain_order}
use Rattle.nv_outside.specs.Counts.{raised}
use Rattle.nv_live.specs.declared.source.Read.{Read}
use Rattle.nv_live.specs.declared.source.Read.TheVariants.{Count, Failed}
use Rattle.nv_live.specs.declared.incoming.Stopped.{Stopped}
use Rattle.nv_live.specs.declared.incoming.Stopped.TheVariants.{Ended}
use Rattle.nv_live.specs.Source.{Gave, faults_by_read}
use Rattle.nv_live.specs.Buffer.{Refills}
use Rattle.nv_live.specs.Taking.{Took, stop_by, is_plain_stop, faults_by_stop, IsFirst}

-- ---- the buffer

pub held_drop : (bytes : List ℕ) (start end count : ℕ) → count ≤ length (take (end - start) (drop start bytes))
    → take (end - (start + count)) (drop (start + count) bytes) ≡ drop count (take (end - start) (drop start bytes))
held_drop bytes start end count fits =
    let few : count ≤ end - start = omega (arith, length-take (end - start) (drop start bytes)) in
    let size : end - start ≡ count + (end - (start + count)) = omega arith in
    sym (ap (λ n. drop count (take n (drop start bytes))) size ∙ drop-take count (end - (start + count)) (drop start bytes) ∙ ap (take (end - (start + count))) (drop-drop count start bytes))

-- ---- what reads gave

pub gave-none : {X : Type 0} (a : Option (List X)) → Gave a [] a
gave-none None = tt
gave-none (Some a) = sym (append-nil a)

pub gave-then : {X : Type 0} (a b c : Option (List X)) (x y : List X) → Gave a x b → Gave b y c → Gave a (x ++ y) c
gave-then a b None x y p q = tt
gave-then None None (Some c) x y p q = q
gave-then None (Some b) (Some c) x y p q = p
gave-then (Some a) None (Some c) x y p q = absurd q
gave-then (Some a) (Some b) (Some c) x y p q = q ∙ ap (λ t. t ++ y) p ∙ append_assoc a x y

pieces-none : (most : ℕ) → pieces most [] ≡ []
unfolding cut_after
pieces-none most = refl

cut-more : (most : ℕ) (reads : List (List ℕ)) (bytes : List ℕ) → input_of most (reads ++ bytes ∷ []) ≡ input_of most reads ++ map Input (pieces most bytes)
cut-more most reads bytes =
    ap (map Input) (flat_map-append (pieces most) reads (bytes ∷ []) ∙ ap (λ t. flat_map (pieces most) reads ++ t) (append-nil (pieces most bytes)))
    ∙ map-append Input (flat_map (pieces most) reads) (pieces most bytes)

-- ---- their order

front-orderly : (xs ys : List Arrival) (came : Came) → is_ok (after (xs ++ ys) came) ≡ true → is_ok (after xs came) ≡ true
front-orderly xs ys came h = step (after xs came) (ap is_ok (sym (after-append xs ys came)) ∙ h) where
  step : (r : Result Came ArrivalCause) → is_ok (onward r (λ c. after ys c)) ≡ true → is_ok r ≡ true
  step (Ok c) e = refl
  step (Err x) e = e

may-come : (reads : List (List ℕ)) (xs ys : List Arrival) → input_of 2000 reads ≡ xs ++ ys → are_arrivals (most_clients true) xs ≡ true
unfolding are_arrivals
may-come reads xs ys e =
    let sound : list_all is_arrival (xs ++ ys) ≡ true = ap (list_all is_arrival) (sym e) ∙ plain_limits reads in
    let both = and_parts (list_all is_arrival xs) (list_all is_arrival ys) (sym (list_all-append is_arrival xs ys) ∙ sound) in
    let all : are_orderly (most_clients true) (xs ++ ys) ≡ true = ap (are_orderly (most_clients true)) (sym e) ∙ front-orderly (input_of 2000 reads) (InputEnd ∷ []) (nothing_came (most_clients true)) (plain_order (most_clients true) 2000 reads) in
    and_from (list_all is_arrival xs) (are_orderly (most_clients true) xs) both.0 (front-orderly xs ys (nothing_came (most_clients true)) all)

-- ---- what was taken

took_none : (before : Option (List (List ℕ))) (faults : ℕ) → Took before before faults faults None [] []
took_none before faults = record {
  reads = [];
  gave = gave-none before;
  cut = ap (map Input) (sym (pieces-none 2000));
  may_come = may-come [] [] [] refl;
  stops = refl;
  ended = λ e. cc;
  all = λ e. refl;
  counted = refl;
}

-- a run that begins, by what its parts are
pub took_start : (before now : Option (List (List ℕ))) (faults count : ℕ) (stopped : Option Stopped) (held : List ℕ) → now ≡ before → count ≡ faults → stopped ≡ None → held ≡ []
    → Took before now faults count stopped held []
took_start before now faults count stopped held same counted going empty =
    subst (λ x. Took before x faults count stopped held []) (sym same)
    (subst (λ n. Took before before faults n stopped held []) (sym counted)
    (subst (λ s. Took before before faults faults s held []) (sym going)
    (subst (λ h. Took before before faults faults None h []) (sym empty) (took_none before faults))))

stop-ended : (n : ℕ) → stop_by (Count n) ≡ Some Ended → n ≡ 0
stop-ended n e = step (n == 0) refl e where
  step : (x : Bool) → (n == 0) ≡ x → cond x (Some Ended) None ≡ Some Ended → n ≡ 0
  step true h e = grind (arith, nat_tests)
  step false h e = cc

stop-none : (n : ℕ) → IsSome (stop_by (Count n)) → n ≡ 0
stop-none n e = step (n == 0) refl e where
  step : (x : Bool) → (n == 0) ≡ x → IsSome (cond x (Some Ended) None) → n ≡ 0
  step true h e = grind (arith, nat_tests)
  step false h e = cc

stop-faults : (n faults : ℕ) → faults_by_stop (stop_by (Count n)) faults ≡ faults
stop-faults n faults = step (n == 0) where
  step : (x : Bool) → faults_by_stop (cond x (Some Ended) None) faults ≡ faults
  step true = refl
  step false = refl

stop-plain : (n : ℕ) → is_plain_stop (stop_by (Count n)) ≡ true
stop-plain n = step (n == 0) where
  step : (x : Bool) → is_plain_stop (cond x (Some Ended) None) ≡ true
  step true = refl
  step false = refl

-- nothing was held, and one more read was made
took_refill : (before now later : Option (List (List ℕ))) (faults count later_count : ℕ) (held : List ℕ) (read : Read) (arrivals : List Arrival)
    → Refills now later held read → later_count ≡ faults_by_read read count → Took before now faults count None [] arrivals → Took before later faults later_count (stop_by read) held arrivals
took_refill before now later faults count later_count held (Count n) arrivals r same t = record {
  reads = t.reads ++ held ∷ [];
  gave = gave-then before now later t.reads (held ∷ []) t.gave r.1;
  cut = cut-more 2000 t.reads held ∙ ap (λ xs. xs ++ map Input (pieces 2000 held)) (t.cut ∙ ap (λ ps. arrivals ++ map Input ps) (pieces-none 2000) ∙ append-nil arrivals);
  may_come = t.may_come;
  stops = stop-plain n;
  ended = λ e. (t.reads, ap (λ b. t.reads ++ b ∷ []) (nil_from_length held (sym r.0 ∙ stop-ended n e)));
  all = λ e. nil_from_length held (sym r.0 ∙ stop-none n e);
  counted = same ∙ t.counted ∙ sym (stop-faults n faults);
}
took_refill before now later faults count later_count held Failed arrivals r same t = record {
  reads = t.reads;
  gave = subst (λ x. Gave before t.reads x) (sym r.0) t.gave;
  cut = subst (λ h. input_of 2000 t.reads ≡ arrivals ++ map Input (pieces 2000 h)) (sym r.1) t.cut;
  may_come = t.may_come;
  stops = refl;
  ended = λ e. cc;
  all = λ e. r.1;
  counted = same ∙ ap (λ n. raised n 1) t.counted;
}

-- the same, by what its parts are
pub took_more : (before now later : Option (List (List ℕ))) (faults count later_count : ℕ) (stopped next : Option Stopped) (was held : List ℕ) (read : Read) (arrivals : List Arrival)
    → Refills now later held read → later_count ≡ faults_by_read read count → stopped ≡ None → was ≡ [] → next ≡ stop_by read
    → Took before now faults count stopped was arrivals → Took before later faults later_count next held arrivals
took_more before now later faults count later_count stopped next was held read arrivals r same going empty stop t =
    subst (λ s. Took before later faults later_count s held arrivals) (sym stop)
    (took_refill before now later faults count later_count held read arrivals r same
    (subst (λ s. Took before now faults count s [] arrivals) going (subst (λ h. Took before now faults count stopped h arrivals) empty t)))

-- the first piece is taken
pub took_piece : (before now : Option (List (List ℕ))) (faults count n : ℕ) (stopped : Option Stopped) (held later bytes : List ℕ) (arrivals : List Arrival)
    → pieces 2000 held ≡ take n held ∷ pieces 2000 (drop n held) → later ≡ drop n held → IsFirst bytes held
    → Took before now faults count stopped held arrivals → Took before now faults count stopped later (arrivals ++ Input bytes ∷ [])
took_piece before now faults count n stopped held later bytes arrivals cut same first t =
    let pair : bytes ∷ drop 1 (pieces 2000 held) ≡ take n held ∷ pieces 2000 (drop n held) = sym first ∙ cut in
    let head : bytes ≡ take n held = cc in
    let whole : pieces 2000 held ≡ bytes ∷ pieces 2000 later = cut ∙ ap (λ b. b ∷ pieces 2000 (drop n held)) (sym head) ∙ ap (λ h. bytes ∷ pieces 2000 h) (sym same) in
    let joined : input_of 2000 t.reads ≡ (arrivals ++ Input bytes ∷ []) ++ map Input (pieces 2000 later) =
    t.cut ∙ ap (λ ps. arrivals ++ map Input ps) whole ∙ sym (append_assoc arrivals (Input bytes ∷ []) (map Input (pieces 2000 later))) in
    record {
      reads = t.reads;
      gave = t.gave;
      cut = joined;
      may_come = may-come t.reads (arrivals ++ Input bytes ∷ []) (map Input (pieces 2000 later)) joined;
      stops = t.stops;
      ended = t.ended;
      all = λ e. let none : take n held ∷ pieces 2000 (drop n held) ≡ [] = sym cut ∙ ap (pieces 2000) (t.all e) ∙ pieces-none 2000 in cc;
      counted = t.counted;
    }
