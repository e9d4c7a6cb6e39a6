-- What a worker's version keeps from turn to turn.
use Rattle.std.proofs.Common.{◌≡◌, ◌∙◌, sym, ap, subst, refl, inl, inr, arith, append-nil, append_assoc, length-append}
use Rattle.std.specs.Prelude.{ℕ, ◌+◌, ◌<◌, ◌≤◌, ◌⊎◌, Bool, true, false, List, [], ◌∷◌, ◌++◌, length, take, Option, Some, None, slice_get, nat_le, ◌==◌, not, ◌&&◌, ◌||◌, if◌then◌else◌}
use Rattle.std.proofs.lemmas.Bool.Decides.{nat_tests}
use Rattle.nv_calls.specs.Calls.{Entry}
use Rattle.nv_calls.specs.Logs.{Start, IsLawful, live_after, served}
use Rattle.nv_threads.specs.Behaviours.{Behaviour, IsProcess}
use Rattle.nv_threads.specs.declared.turns.Want.TheVariants.{Any}
use Rattle.nv_threads.specs.declared.turns.Came.{Came}
use Rattle.nv_threads.specs.declared.turns.Came.TheVariants.{Asked, Fault}
use Rattle.nv_replay.specs.declared.fate.Fate.{Fate}
use Rattle.nv_replay.specs.declared.fate.Fate.TheVariants.{Memory}
use Rattle.nv_replay.specs.Follow.{Follower, Judge, decided, fresh, IsInStep}
use Rattle.nv_replay.specs.Lead.{Leader}
use Rattle.nv_replay.specs.Tracks.{track_next}
use Rattle.nv_calls.specs.Hands.{has}
use Rattle.nv_replay.specs.Hands.{count_above, is_handed, next_or_hand, lead_to_hand}
use Rattle.nv_replay.specs.Sequence.{is_going}
use Rattle.nv_replay.specs.Spans.{EndBy}
use Rattle.nv_replay.specs.Version.{Running, IsLiveLeader, asking_next, asking_by, became_event, leader_of}
use Rattle.nv_replay.specs.Turns.{TookTurn, Suits}
use Rattle.nv_replay.specs.Account.{with_span}
use Rattle.nv_replay.proofs.Settled.{Reaches, reach_here, reach_on}
use Rattle.nv_replay.proofs.Extending.{in_step_on, take_prefix_of}
use Rattle.nv_replay.proofs.Stepping.{decided_in_step}
use Rattle.nv_replay.proofs.Wholes.{next_is, rests}
use Rattle.nv_replay.proofs.Tracking.{track_extended, next_after, ends_later, track_is, track_reached}
use Rattle.nv_replay.proofs.Stretches.{stage_leads, next_unless, handed_rests, hand_is}
use Rattle.nv_replay.proofs.Handing.{hands_over}
use Rattle.nv_replay.proofs.Spanning.{span_end}
use Rattle.nv_replay.proofs.Numbers.{above_all, above_later, above_less}
use Rattle.nv_replay.proofs.Surviving.{length_take}
use Rattle.nv_replay.proofs.Turning.{get_last, take_all, turn_dropped, turn_refused, turn_served}
use Rattle.nv_replay.proofs.Wholly.{suits_now}
use Rattle.nv_workers.specs.Ends.{IsStage, IsCutOf, version_tracked, leader_begun, TakesLead, HandedOver, AreHanded, Gap, AreGivenUp, AreHandedBy, HasLedFrom}
use Rattle.nv_workers.specs.Turns.{held_list, IsReaders, IsServing, IsAsking}

pub reaches : {S : Type 0} (step : S → S) (s t : S) → IsStage step s t → Reaches step s t
reaches step s t r = record { steps = r.steps; is = r.is }

is_stage : {S : Type 0} (step : S → S) (s t : S) → Reaches step s t → IsStage step s t
is_stage step s t r = record { steps = r.steps; is = r.is }

-- a fresh version's process
pub record IsFirst {P : Type 0} (g : Behaviour P) (p : P) : Type 0 where
  pub live : g.live p ≡ 100 ∷ []
  pub on : g.ended p ≡ None

-- an element of a list with one more at its end
pub split_last : {X : Type 0} (xs prefix back : List X) (x y : X) → xs ++ x ∷ [] ≡ prefix ++ y ∷ back
    → ((xs ≡ prefix) × (x ≡ y)) ⊎ ((more : List X) × (xs ≡ prefix ++ y ∷ more))
split_last [] [] back x y h = let k : x ≡ y = cc in inl (refl, k)
split_last [] (z ∷ prefix) back x y h = absurd (omega (arith, ap length h, length-append prefix (y ∷ back)))
split_last (w ∷ xs) [] back x y h = let k : w ≡ y = cc in inr (xs, ap (λ z. z ∷ xs) k)
split_last (w ∷ xs) (z ∷ prefix) back x y h =
    let k : w ≡ z = cc in
    let t : xs ++ x ∷ [] ≡ prefix ++ y ∷ back = cc in
    elim (split_last xs prefix back x y t) [
      | inl (e, f) ↦ inl ((λ i. k i ∷ e i), f)
      | inr (m, e) ↦ inr (m, (λ i. k i ∷ e i))
    ]

pub and_no : (b : Bool) → (b && false) ≡ false
and_no true = refl
and_no false = refl

-- a leader goes on where no length is planned
pub stays_unplanned : {P : Type 0} (hands : List ℕ) (from : ℕ) (l : Leader P) → has hands (length l.log) ≡ false → is_handed hands from l ≡ false
stays_unplanned hands from l h = rw (h, and_no (not (nat_le (length l.log) from))) (and_no (is_going l.fate))

-- and where it has served no call
pub stays_here : {P : Type 0} (hands : List ℕ) (l : Leader P) → is_handed hands (length l.log) l ≡ false
stays_here hands l =
    let k : nat_le (length l.log) (length l.log) ≡ true = grind (arith, nat_tests) in
    rw k (and_no (is_going l.fate))

-- it gives up the lead where it has served one and this length is planned
pub hands_planned : {P : Type 0} (hands : List ℕ) (from : ℕ) (l : Leader P) → l.fate ≡ None → from < length l.log → has hands (length l.log) ≡ true → is_handed hands from l ≡ true
hands_planned hands from l n m h =
    let k : nat_le (length l.log) from ≡ false = grind (arith, nat_tests) in
    rw (n, k, h) refl

-- one of the planned lengths, or of those that were asked for
pub has_both : (xs ys : List ℕ) (n : ℕ) → has (xs ++ ys) n ≡ (has xs n || has ys n)
has_both [] ys n = refl
has_both (x ∷ xs) ys n = ap (λ (b : Bool). (x == n) || b) (has_both xs ys n) ∙ step (x == n) (has xs n) (has ys n) where
  step : (a b c : Bool) → (a || (b || c)) ≡ ((a || b) || c)
  step true b c = refl
  step false b c = refl

no_either : (a b : Bool) → a ≡ false → b ≡ false → (a || b) ≡ false
no_either a b h k = rw (h, k) refl

none_in : (n : ℕ) → has [] n ≡ false
none_in n = refl

goes_by : (a b c d : Bool) → (a && (not b && c)) ≡ false → (b ≡ false → d ≡ false) → (a && (not b && (c || d))) ≡ false
goes_by false b c d h n = refl
goes_by true true c d h n = refl
goes_by true false c d h n = no_either c d h (n refl)

above_by : (n from : ℕ) → nat_le n from ≡ false → from < n
above_by n from e = grind (arith, nat_tests)

-- a leader that goes on by the planned lengths does so by the others as well, where its length is none of them
goes_both : {P : Type 0} (planned asked : List ℕ) (from : ℕ) (l : Leader P) → is_handed planned from l ≡ false → (from < length l.log → has asked (length l.log) ≡ false) → is_handed (planned ++ asked) from l ≡ false
goes_both planned asked from l h none =
    ap (λ (x : Bool). is_going l.fate && (not (nat_le (length l.log) from) && x)) (has_both planned asked (length l.log))
    ∙ goes_by (is_going l.fate) (nat_le (length l.log) from) (has planned (length l.log)) (has asked (length l.log)) h (λ e. none (above_by (length l.log) from e))

-- of the parts before the last one
given_before : (planned asked : List ℕ) (led : List (ℕ × ℕ)) (x : ℕ × ℕ) → AreGivenUp planned asked (led ++ x ∷ []) → AreGivenUp planned asked led
given_before planned asked led x u prefix back from to e more = u prefix (back ++ x ∷ []) from to (ap (λ (z : List (ℕ × ℕ)). z ++ x ∷ []) e ∙ append_assoc prefix ((from, to) ∷ back) (x ∷ [])) more

module _ {P : Type 0} (g : Behaviour P) (laws : IsProcess g) (judges : ℕ → Judge) (replies : Start) (most : ℕ) (hands : List ℕ) where
  abbrev Handed : ℕ → P → List (ℕ × ℕ) → List Entry → Type 0
  Handed i p led log = AreHanded g judges replies most hands i p led log

  -- the log has become longer
  pub handed_longer : (i : ℕ) (p : P) (led : List (ℕ × ℕ)) (log more : List Entry) → Handed i p led log → Handed i p led (log ++ more)
  handed_longer i p led log more a prefix back from to e =
      let h = a prefix back from to e in
      let w = h.within in
      let gr = h.grew in
      let a : take from (log ++ more) ≡ take from log = take_prefix_of log more from (omega arith) in
      let b : take to (log ++ more) ≡ take to log = take_prefix_of log more to (omega arith) in
      record {
        within = omega (arith, length-append log more);
        grew = h.grew;
        planned = h.planned;
        takes = subst (λ (x : List Entry). TakesLead g judges i p prefix x) (sym a) h.takes;
        process = h.process;
        lead = λ c u. ap (λ (x : List Entry). lead_to_hand g replies most c hands from (leader_begun g judges i p prefix x)) a
            ∙ (h.lead c u ∙ ap (λ (x : List Entry). record { process = h.process; log = x; fate = None }) (sym b));
      }

  handed_none : (i : ℕ) (p : P) (led : List (ℕ × ℕ)) (log : List Entry) → led ≡ [] → Handed i p led log
  handed_none i p led log e prefix back from to q =
      absurd (omega (arith, ap length (sym e ∙ q), length-append prefix ((from, to) ∷ back)))

  -- after its last part, which ends where the log does, the version gives up the lead
  gave_up : (i : ℕ) (p : P) (v : Running P) (led : List (ℕ × ℕ)) (from : ℕ) (log : List Entry) → TakesLead g judges i p led (take from log)
      → ((c : Option ℕ) → IsCutOf c v.at.fate (length log) → IsStage (next_or_hand g replies most c hands from) (leader_begun g judges i p led (take from log)) (leader_of v log))
      → v.at.fate ≡ None → from < length log → has hands (length log) ≡ true → HandedOver g judges replies most hands i p led from (length log) log
  gave_up i p v led from log took stage n m h =
      let all : take (length log) log ≡ log = take_all log in
      let l : Leader P = leader_of v log in
      let hd : is_handed hands from l ≡ true = hands_planned hands from l n m h in
      let l0 : l ≡ record { process = v.at.process; log = take (length log) log; fate = None } = λ j. record { process = v.at.process; log = sym all j; fate = n j } in
      record {
        within = omega arith;
        grew = m;
        planned = h;
        takes = took;
        process = v.at.process;
        lead = λ c u.
            let u' : IsCutOf c v.at.fate (length log) = subst (λ (x : Option Fate). IsCutOf c x (length log)) (sym n) u in
            let r = reaches (next_or_hand g replies most c hands from) (leader_begun g judges i p led (take from log)) l (stage c u') in
            sym (hand_is g replies most c hands from laws (leader_begun g judges i p led (take from log)) l r (handed_rests g replies most c hands from l hd)) ∙ l0;
      }

module _ {P : Type 0} (g : Behaviour P) (laws : IsProcess g) (judges : ℕ → Judge) (replies : Start) (most : ℕ) (planned : List ℕ) where
  abbrev Reading : ℕ → P → Running P → List Entry → Option Entry → Type 0
  Reading i p v log held = IsReaders g judges replies most planned i p v log held

  abbrev HandedBy : ℕ → P → List (ℕ × ℕ) → List Entry → Type 0
  HandedBy i p led log = AreHandedBy g judges replies most planned i p led log

  by_longer : (i : ℕ) (p : P) (led : List (ℕ × ℕ)) (log more : List Entry) → HandedBy i p led log → HandedBy i p led (log ++ more)
  by_longer i p led log more h = λ asked u. handed_longer g laws judges replies most (planned ++ asked) i p led log more (h asked u)

  handed_same : (i : ℕ) (p : P) (led new : List (ℕ × ℕ)) (log : List Entry) → new ≡ led → HandedBy i p led log → HandedBy i p new log
  handed_same i p led new log e h = subst (λ (x : List (ℕ × ℕ)). HandedBy i p x log) (sym e) h

  by_none : (i : ℕ) (p : P) (led : List (ℕ × ℕ)) (log : List Entry) → led ≡ [] → HandedBy i p led log
  by_none i p led log e = λ asked u. handed_none g laws judges replies most (planned ++ asked) i p led log e

  -- a fresh version after an empty list
  pub reads_first : (i : ℕ) (p : P) (v : Running P) → length planned ≤ 8 → v.index ≡ i → IsFirst g p → v.at ≡ fresh p → v.led ≡ [] → v.leading ≡ false → v.asked ≡ None
      → Reading i p v [] None
  reads_first i p v short n f a l d k = record {
    index = n;
    on = ap (λ (x : Follower P). x.fate) a;
    idle = d;
    none_asked = k;
    seen = ap (λ (x : Follower P). x.seen) a;
    in_step = subst (λ (x : Follower P). IsInStep g [] x) (sym a) (record { within = omega arith; live = λ z. f.live; on = λ z. f.on; exited = λ z. cc });
    handed = by_none i p v.led [] l;
    past = subst (λ (x : List (ℕ × ℕ)). EndBy v.at.seen x) (sym l) (record { each = λ j x y. cc });
    few = omega (arith, short, ap length l, above_all planned v.at.seen);
    stage = subst (λ (x : Follower P). IsStage (track_next g (judges i) v.led []) (fresh p) x) (sym a)
        (is_stage (track_next g (judges i) v.led []) (fresh p) (fresh p) (reach_here (track_next g (judges i) v.led []) (fresh p)));
  }

  -- the event that is held, or comes now
  with_held : (i : ℕ) (p : P) (led : List (ℕ × ℕ)) (at : Follower P) (log : List Entry) (e : Entry) (held : Option Entry) → (held ≡ None) ⊎ (held ≡ Some e)
      → Reaches (track_next g (judges i) led (log ++ held_list held)) (fresh p) at → Reaches (track_next g (judges i) led (log ++ e ∷ [])) (fresh p) at
  with_held i p led at log e None h r =
      let r' : Reaches (track_next g (judges i) led log) (fresh p) at = subst (λ (x : List Entry). Reaches (track_next g (judges i) led x) (fresh p) at) (append-nil log) r in
      track_extended g (judges i) led log (e ∷ []) r'.steps (fresh p) at r'.is
  with_held i p led at log e (Some d) (inl h) r = cc
  with_held i p led at log e (Some d) (inr h) r =
      let k : d ≡ e = cc in
      subst (λ (x : Entry). Reaches (track_next g (judges i) led (log ++ x ∷ [])) (fresh p) at) k r

  -- the next event comes
  pub with_next_held : {i : ℕ} {p : P} {v : Running P} {log : List Entry} (e : Entry) → Reading i p v log None → Reading i p v log (Some e)
  with_next_held {i} {p} {v} {log} e r =
      let q = with_held i p v.led v.at log e None (inl refl) (reaches (track_next g (judges i) v.led (log ++ held_list None)) (fresh p) v.at r.stage) in
      record {
        index = r.index;
        on = r.on;
        idle = r.idle;
        none_asked = r.none_asked;
        seen = r.seen;
        in_step = r.in_step;
        handed = r.handed;
        past = r.past;
        few = r.few;
        stage = is_stage (track_next g (judges i) v.led (log ++ e ∷ [])) (fresh p) v.at q;
      }

  -- one decision on it
  pub decides : {i : ℕ} {p : P} {v new : Running P} {log : List Entry} (e : Entry) {held : Option Entry} → Reading i p v log held → (held ≡ None) ⊎ (held ≡ Some e)
      → IsLawful (log ++ e ∷ []) → new ≡ record v { at = decided g (judges i) e v.at }
      → IsStage (track_next g (judges i) new.led (log ++ e ∷ [])) (fresh p) new.at × IsInStep g (log ++ e ∷ []) new.at
  decides {i} {p} {v} {new} {log} e {held} r h law k =
      let at : slice_get (log ++ e ∷ []) v.at.seen ≡ Some e = ap (slice_get (log ++ e ∷ [])) r.seen ∙ get_last log e in
      let a : new.at ≡ decided g (judges i) e v.at = ap (λ (x : Running P). x.at) k in
      let b : new.led ≡ v.led = ap (λ (x : Running P). x.led) k in
      let q = with_held i p v.led v.at log e held h (reaches (track_next g (judges i) v.led (log ++ held_list held)) (fresh p) v.at r.stage) in
      let one : track_next g (judges i) v.led (log ++ e ∷ []) v.at ≡ new.at = next_after g (judges i) v.led (log ++ e ∷ []) v.at r.past
      ∙ (next_is g laws (judges i) (log ++ e ∷ []) e v.at at r.on ∙ sym a) in
      let st = subst (λ (x : Follower P). Reaches (track_next g (judges i) v.led (log ++ e ∷ [])) (fresh p) x) one
      (reach_on (track_next g (judges i) v.led (log ++ e ∷ [])) (fresh p) v.at q) in
      let s : IsInStep g (log ++ e ∷ []) (decided g (judges i) e v.at) = decided_in_step g laws (judges i) (log ++ e ∷ []) e v.at law at
      (in_step_on g log (e ∷ []) v.at r.in_step) r.on in (
        subst (λ (x : List (ℕ × ℕ)). IsStage (track_next g (judges i) x (log ++ e ∷ [])) (fresh p) new.at) (sym b)
            (is_stage (track_next g (judges i) v.led (log ++ e ∷ [])) (fresh p) new.at st),
        subst (λ (x : Follower P). IsInStep g (log ++ e ∷ []) x) (sym a) s,
      )

  module _ {i : ℕ} {p : P} {v new : Running P} {log : List Entry} (e : Entry) {held : Option Entry} (r : Reading i p v log held) (h : (held ≡ None) ⊎ (held ≡ Some e))
      (law : IsLawful (log ++ e ∷ [])) (k : new ≡ record v { at = decided g (judges i) e v.at }) where
    led_same : new.led ≡ v.led
    led_same = ap (λ (x : Running P). x.led) k

    few_on : v.at.seen ≤ new.at.seen → length new.led + count_above planned new.at.seen ≤ 8
    few_on l = let f = r.few in omega (arith, f, ap length led_same, above_later planned v.at.seen new.at.seen l)

    after_on : v.at.seen ≤ new.at.seen → EndBy new.at.seen new.led
    after_on l = subst (λ (x : List (ℕ × ℕ)). EndBy new.at.seen x) (sym led_same) (ends_later v.led v.at.seen new.at.seen r.past l)

    -- the parts that it led stand after it, whatever has come of the event
    pub parts_on : HandedBy i p new.led (log ++ e ∷ [])
    parts_on = handed_same i p v.led new.led (log ++ e ∷ []) led_same (by_longer i p v.led log (e ∷ []) r.handed)

    pub parts_still : HandedBy i p new.led log
    parts_still = handed_same i p v.led new.led log led_same r.handed

    -- Matched, Skipped: the seen list grows
    pub reads_on : new.at.seen ≡ v.at.seen + 1 → new.at.fate ≡ None → Reading i p new (log ++ e ∷ []) None
    reads_on s n =
        let d = decides e r h law k in
        let l : v.at.seen ≤ new.at.seen = omega (arith, s) in record {
          index = ap (λ (x : Running P). x.index) k ∙ r.index;
          on = n;
          idle = ap (λ (x : Running P). x.leading) k ∙ r.idle;
          none_asked = ap (λ (x : Running P). x.asked) k ∙ r.none_asked;
          seen = omega (arith, s, r.seen, length-append log (e ∷ []));
          in_step = d.1;
          handed = parts_on;
          past = after_on l;
          few = few_on l;
          stage = subst (λ (x : List Entry). IsStage (track_next g (judges i) new.led x) (fresh p) new.at) (sym (append-nil (log ++ e ∷ []))) d.0;
        }

    -- Rewrote: the event is held
    pub reads_held : new.at.seen ≡ v.at.seen → new.at.fate ≡ None → Reading i p new log (Some e)
    reads_held s n =
        let d = decides e r h law k in
        let l : v.at.seen ≤ new.at.seen = omega (arith, s) in
        let w : new.at.seen ≤ length log = omega (arith, s, r.seen) in
        let t : take new.at.seen (log ++ e ∷ []) ≡ take new.at.seen log = take_prefix_of log (e ∷ []) new.at.seen w in record {
          index = ap (λ (x : Running P). x.index) k ∙ r.index;
          on = n;
          idle = ap (λ (x : Running P). x.leading) k ∙ r.idle;
          none_asked = ap (λ (x : Running P). x.asked) k ∙ r.none_asked;
          seen = s ∙ r.seen;
          in_step = record { within = w; live = λ z. d.1.live z ∙ ap live_after t; on = d.1.on; exited = λ z. ap live_after (sym t) ∙ d.1.exited z };
          handed = parts_still;
          past = after_on l;
          few = few_on l;
          stage = d.0;
        }

  abbrev Serving : ℕ → P → Running P → List (ℕ × ℕ) → ℕ → List Entry → Type 0
  Serving i p v led from log = IsServing g judges replies most planned false i p v led from log

  abbrev Led : ℕ → P → Running P → List (ℕ × ℕ) → ℕ → List Entry → Type 0
  Led i p v led from log = HasLedFrom g judges replies most planned i p v led from log

  -- the reader takes the lead
  pub takes : {i : ℕ} {p : P} {v : Running P} {log : List Entry} → Reading i p v log None → Serving i p (with_span v (length log)) v.led (length log) log
  takes {i} {p} {v} {log} r =
      let q : Reaches (track_next g (judges i) v.led log) (fresh p) v.at = subst (λ (x : List Entry). Reaches (track_next g (judges i) v.led x) (fresh p) v.at) (append-nil log)
      (reaches (track_next g (judges i) v.led (log ++ [])) (fresh p) v.at r.stage) in
      let rest : track_next g (judges i) v.led log v.at ≡ v.at = next_after g (judges i) v.led log v.at r.past ∙ rests g laws (judges i) log v.at (inl (omega (arith, r.seen))) in
      let f : v.at ≡ version_tracked g judges i p v.led log = track_is g laws (judges i) v.led log (fresh p) v.at q rest in
      let all : take (length log) log ≡ log = take_all log in
      let f' : v.at ≡ version_tracked g judges i p v.led (take (length log) log) = f ∙ ap (λ (x : List Entry). version_tracked g judges i p v.led x) (sym all) in
      let T : List Entry → Type 0 = λ x. TakesLead g judges i p v.led x in
      let t : T log = record {
        on = ap (λ (x : Follower P). x.fate) (sym f) ∙ r.on;
        seen = ap (λ (x : Follower P). x.seen) (sym f) ∙ r.seen;
        in_step = subst (λ (x : Follower P). IsInStep g log x) f r.in_step;
      } in
      let b : leader_begun g judges i p v.led (take (length log) log) ≡ leader_of (with_span v (length log)) log = λ j. record { process = ((sym f') j).process; log = all j; fate = (sym r.on) j } in record {
        on = r.on;
        none_asked = r.none_asked;
        goes = stays_here planned (leader_of (with_span v (length log)) log);
        led_from = record {
          index = r.index;
          handed = r.handed;
          past = subst (λ (n : ℕ). EndBy n v.led) r.seen r.past;
          few = subst (λ (n : ℕ). length v.led + count_above planned n ≤ 8) r.seen r.few;
          within = omega arith;
          takes = subst T (sym all) t;
          stage = λ asked gap end c u.
              subst (λ (x : Leader P). IsStage (next_or_hand g replies most c (planned ++ asked) (length log)) (leader_begun g judges i p v.led (take (length log) log)) x) b
              (is_stage (next_or_hand g replies most c (planned ++ asked) (length log)) (leader_begun g judges i p v.led (take (length log) log)) (leader_begun g judges i p v.led (take (length log) log))
              (reach_here (next_or_hand g replies most c (planned ++ asked) (length log)) (leader_begun g judges i p v.led (take (length log) log))));
          rewrites = ap (λ (x : Follower P). x.rewrites) f';
          seen = r.seen;
          span = refl;
          leading = refl;
          in_step = r.in_step;
        };
      }

  suits : (c : Option ℕ) (f : Option Fate) (n : ℕ) → IsCutOf c f n → Suits c f n
  suits c f n u = record { below = u.below; end = u.end }

  is_cut_of : (c : Option ℕ) (f : Option Fate) (n : ℕ) → Suits c f n → IsCutOf c f n
  is_cut_of c f n u = record { below = u.below; end = u.end }

  going : (f : Option Fate) → f ≡ None → is_going f ≡ false → ⊥
  going f n z = let y : true ≡ false = ap is_going (sym n) ∙ z in cc

  -- none was asked for where it stood, by what holds where it stands now
  none_here : (asked : List ℕ) (from : ℕ) (f : Option Fate) (log more : List Entry) → (0 < length more) ⊎ ((more ≡ []) × (is_going f ≡ false)) → Gap asked from (length (log ++ more))
      → (is_going f ≡ false → from < length (log ++ more) → has asked (length (log ++ more)) ≡ false) → from < length log → has asked (length log) ≡ false
  none_here asked from f log more (inl some) gap end below = gap (length log) below (omega (arith, some, length-append log more))
  none_here asked from f log more (inr (none, over)) gap end below =
      let same : log ++ more ≡ log = ap (λ (x : List Entry). log ++ x) none ∙ append-nil log in
      subst (λ (x : List Entry). has asked (length x) ≡ false) same (end over (subst (λ (x : List Entry). from < length x) (sym same) below))

  -- a leader's turn
  leads_on : {i : ℕ} {p : P} {v new : Running P} {led : List (ℕ × ℕ)} {from : ℕ} {log : List Entry} (more : List Entry) → (0 < length more) ⊎ ((more ≡ []) × (is_going new.at.fate ≡ false))
      → Serving i p v led from log → TookTurn g replies most v new log (log ++ more) → Led i p new led from (log ++ more)
  leads_on {i} {p} {v} {new} {led} {from} {log} more moves s t =
      let o = s.led_from in
      let prefix : take from (log ++ more) ≡ take from log = take_prefix_of log more from o.within in
      let start : Leader P = leader_begun g judges i p led (take from log) in record {
        index = t.on.index ∙ o.index;
        handed = by_longer i p led log more o.handed;
        past = o.past;
        few = o.few;
        within = omega (arith, o.within, length-append log more);
        takes = subst (λ (x : List Entry). TakesLead g judges i p led x) (sym prefix) o.takes;
        stage = λ asked gap end c u.
            let step = next_or_hand g replies most c (planned ++ asked) from in
            let short : Gap asked from (length log) = λ n a b. gap n a (omega (arith, b, length-append log more)) in
            let a = suits_now g laws replies most c v.at.fate new.at.fate (length log) (length (log ++ more)) s.on t.grew t.same (suits c new.at.fate (length (log ++ more)) u) in
            let r = reaches step start (leader_of v log) (o.stage asked short (λ z _. absurd (going v.at.fate s.on z)) c (is_cut_of c v.at.fate (length log) a.0)) in
            let goes : is_handed (planned ++ asked) from (leader_of v log) ≡ false = goes_both planned asked from (leader_of v log) s.goes (none_here asked from new.at.fate log more moves gap end) in
            let one : step (leader_of v log) ≡ leader_of new (log ++ more) = next_unless g replies most c (planned ++ asked) from (leader_of v log) goes ∙ sym (t.step c a.1) in
            let r' = subst (λ (x : Leader P). Reaches step start x) one (reach_on step start (leader_of v log) r) in
            subst (λ (x : List Entry). IsStage step (leader_begun g judges i p led x) (leader_of new (log ++ more))) (sym prefix) (is_stage step start (leader_of new (log ++ more)) r');
        rewrites = t.on.rewrites ∙ (o.rewrites ∙ ap (λ (x : List Entry). (version_tracked g judges i p led x).rewrites) (sym prefix));
        seen = t.on.seen;
        span = t.on.span led from (o.span ∙ ap (λ (m : ℕ). led ++ (from, m) ∷ []) (sym o.seen)) ∙ ap (λ (m : ℕ). led ++ (from, m) ∷ []) t.on.seen;
        leading = t.on.leading ∙ o.leading;
        in_step = t.on.in_step;
      }

  pub leading : {i : ℕ} {p : P} {v : Running P} {led : List (ℕ × ℕ)} {from : ℕ} {log : List Entry} → Serving i p v led from log → IsLiveLeader v
  leading s = record { on = s.on; leading = s.led_from.leading; none_asked = s.none_asked }

  same_log : {i : ℕ} {p : P} {new : Running P} {led : List (ℕ × ℕ)} {from : ℕ} {log : List Entry} → Led i p new led from (log ++ []) → Led i p new led from log
  same_log {i} {p} {new} {led} {from} {log} h = subst (λ (x : List Entry). Led i p new led from x) (append-nil log) h

  -- it was dropped at its advance
  pub drops : {i : ℕ} {p : P} {v new : Running P} {led : List (ℕ × ℕ)} {from : ℕ} {log : List Entry} → Serving i p v led from log → new ≡ asking_next g most v → new.asked ≡ None
      → is_going new.at.fate ≡ false → Led i p new led from log
  drops {v = v} {new = new} {log = log} s k a over =
      let t = turn_dropped g laws replies most v log new (leading s) s.led_from.seen s.led_from.in_step k a in
      same_log (leads_on [] (inr (refl, over)) s (subst (λ (x : List Entry). TookTurn g replies most v new log x) (sym (append-nil log)) t))

  abbrev Asking : ℕ → P → Running P → List (ℕ × ℕ) → ℕ → List Entry → Type 0
  Asking i p v led from log = IsAsking g judges replies most planned i p v led from log

  -- memory was refused
  pub refuses : {i : ℕ} {p : P} {v new : Running P} {t : ℕ} {led : List (ℕ × ℕ)} {from : ℕ} {log : List Entry} → Asking i p v led from log → v.asked ≡ Some t
      → new ≡ record v { at = record v.at { fate = Some Memory } } → Led i p new led from log
  refuses {v = v} {new = new} {t = t} {log = log} s a k =
      let u = turn_refused g laws replies most s.before log v new t (leading s.serving) s.serving.led_from.seen s.serving.led_from.in_step s.asking a k in
      same_log (leads_on [] (inr (refl, ap (λ (x : Running P). is_going x.at.fate) k)) s.serving (subst (λ (x : List Entry). TookTurn g replies most s.before new log x) (sym (append-nil log)) u))

  -- the call was served, published and answered
  pub publishes : {i : ℕ} {p : P} {v new : Running P} {t : ℕ} {led : List (ℕ × ℕ)} {from : ℕ} {log : List Entry} → Asking i p v led from log → v.asked ≡ Some t
      → new ≡ became_event g (served replies log (g.call v.at.process t)) v → IsLawful (log ++ served replies log (g.call v.at.process t) ∷ [])
      → Led i p new led from (log ++ served replies log (g.call v.at.process t) ∷ [])
  publishes {v = v} {new = new} {t = t} {log = log} s a k law =
      let e = served replies log (g.call v.at.process t) in
      let u = turn_served g laws replies most s.before log v new t (log ++ e ∷ []) (leading s.serving) s.serving.led_from.seen s.serving.led_from.in_step
      s.asking a refl k law in
      leads_on (e ∷ []) (inl (omega arith)) s.serving u

  pub gives_up : {i : ℕ} {p : P} {v : Running P} {led : List (ℕ × ℕ)} {from : ℕ} {log : List Entry} → IsServing g judges replies most planned true i p v led from log
      → Reading i p (record v { leading = false }) log None
  gives_up {i} {p} {v} {led} {from} {log} sv =
      let s = sv.led_from in
      let n = sv.on in
      let m = sv.goes.0 in
      let free : IsCutOf None v.at.fate (length log) = record { below = λ j l. refl; end = λ z. let y : true ≡ false = ap is_going (sym n) ∙ z in cc } in
      let l0 : Leader P = leader_begun g judges i p led (take from log) in
      let st = s.stage [] (λ k a b. none_in k) (λ z _. absurd (going v.at.fate n z)) None free in
      let r = stage_leads g replies most None (planned ++ []) from st.steps l0 (leader_of v log) st.is in
      let x = hands_over g (judges i) replies most None led (take from log) p (version_tracked g judges i p led (take from log)) r.steps (leader_of v log)
      (track_reached g laws (judges i) led (take from log) (fresh p)) s.takes.seen s.takes.on r.is n in
      let at : record { process = v.at.process; seen = length log; rewrites = (version_tracked g judges i p led (take from log)).rewrites; fate = None } ≡ v.at = λ j. record
      { process = v.at.process; seen = sym s.seen j; rewrites = sym s.rewrites j; fate = sym n j } in
      let long : length (take from log) ≡ from = length_take log from s.within in
      let sp : led ++ (length (take from log), length log) ∷ [] ≡ v.led = ap (λ (y : ℕ). led ++ (y, length log) ∷ []) long ∙ sym s.span in
      let T : List (ℕ × ℕ) → Follower P → Type 0 = λ y f. Reaches (track_next g (judges i) y log) (fresh p) f in
      let x' : T v.led v.at = subst (λ (y : List (ℕ × ℕ)). T y v.at) sp (subst (λ (f : Follower P). T (led ++ (length (take from log), length log) ∷ []) f) at x) in
      let over : HandedBy i p (led ++ (from, length log) ∷ []) log = λ asked given prefix back a b e. elim (split_last led prefix back (from, length log) (a, b) e) [
        | inl (q, y) ↦
            let ya : from ≡ a = ap (λ (z : ℕ × ℕ). z.0) y in
            let yb : length log ≡ b = ap (λ (z : ℕ × ℕ). z.1) y in
            let end = given led [] from (length log) refl m in
            let last = gave_up g laws judges replies most (planned ++ asked) i p v led from log s.takes (λ c u. s.stage asked end.0 (λ z _. absurd (going v.at.fate n z)) c u) n m end.1 in
            let H : List (ℕ × ℕ) → ℕ → ℕ → Type 0 = λ f c d. HandedOver g judges replies most (planned ++ asked) i p f c d log in
            subst (λ (f : List (ℕ × ℕ)). H f a b) q (subst (λ (c : ℕ). H led c b) ya (subst (λ (d : ℕ). H led from d) yb last))
        | inr (more, q) ↦ s.handed asked (given_before planned asked led (from, length log) given) prefix more a b q
      ] in record {
        index = s.index;
        on = n;
        idle = refl;
        none_asked = sv.none_asked;
        seen = s.seen;
        in_step = s.in_step;
        handed = handed_same i p (led ++ (from, length log) ∷ []) v.led log s.span over;
        past = subst (λ (y : ℕ). EndBy y v.led) (sym s.seen) (subst (λ (y : List (ℕ × ℕ)). EndBy (length log) y) (sym s.span) (span_end led from from (length log) s.past s.within));
        few = (let f = sv.goes.1 in omega (arith, f, s.seen, ap (count_above planned) s.seen, ap length s.span, length-append led ((from, length log) ∷ [])));
        stage = subst (λ (y : List Entry). IsStage (track_next g (judges i) v.led y) (fresh p) v.at) (sym (append-nil log)) (is_stage (track_next g (judges i) v.led log) (fresh p) v.at x');
      }

  -- whether it leads on
  pub serves_on : {i : ℕ} {p : P} {v : Running P} {led : List (ℕ × ℕ)} {from : ℕ} {log : List Entry} → Led i p v led from log → v.at.fate ≡ None → v.asked ≡ None
      → has planned (length log) ≡ false → Serving i p v led from log
  serves_on {v = v} {from = from} {log = log} s n a h = record { on = n; none_asked = a; goes = stays_unplanned planned from (leader_of v log) h; led_from = s }

  -- at a planned length there is room for one part more
  pub planned_few : {i : ℕ} {p : P} {v : Running P} {led : List (ℕ × ℕ)} {from : ℕ} {log : List Entry} → Led i p v led from log → from < length log → has planned (length log) ≡ true
      → length led + 1 + count_above planned (length log) ≤ 8
  planned_few {led = led} {from = from} {log = log} s m h = let f = s.few in omega (arith, f, above_less planned from (length log) m h)

  pub serves_to : {i : ℕ} {p : P} {v : Running P} {led : List (ℕ × ℕ)} {from : ℕ} {log : List Entry} → Led i p v led from log → v.at.fate ≡ None → v.asked ≡ None
      → from < length log → length led + 1 + count_above planned (length log) ≤ 8 → IsServing g judges replies most planned true i p v led from log
  serves_to s n a m few = record { on = n; none_asked = a; goes = (m, few); led_from = s }

  by_test : (b : Bool) (r s : Running P) (t : ℕ) → r.asked ≡ None → s.at.fate ≡ None → (if b then r else s).asked ≡ Some t → (if b then r else s).at.fate ≡ None
  by_test true r s t a f h = let e = sym a ∙ h in cc
  by_test false r s t a f h = f

  asked_by : (r : Running P) (q : P) (m : Came) (t : ℕ) → r.at.fate ≡ None → r.asked ≡ None → (asking_by g most r q m).asked ≡ Some t → (asking_by g most r q m).at.fate ≡ None
  unfolding asking_by
  asked_by r q (Fault kind tid pc) t f a h = let e = sym a ∙ h in cc
  asked_by r q (Asked u) t f a h = by_test (nat_le most r.at.seen) _ _ t a f h

  -- a version that asks has no fate
  pub asking_on : {i : ℕ} {p : P} {v : Running P} {led : List (ℕ × ℕ)} {from : ℕ} {log : List Entry} {t : ℕ} → Asking i p v led from log → v.asked ≡ Some t → v.at.fate ≡ None
  unfolding asking_next
  asking_on {t = t} a k =
      let b = a.before in
      let h : (asking_next g most b).asked ≡ Some t = ap (λ (x : Running P). x.asked) (sym a.asking) ∙ k in
      ap (λ (x : Running P). x.at.fate) a.asking ∙ asked_by b (g.after b.at.process Any) (g.came b.at.process Any) t a.serving.on a.serving.none_asked h
