-- From what finish and run_all promise to the account.
use Rattle.std.proofs.Common.{◌≡◌, ◌∙◌, sym, ap, subst, refl, inl, inr, arith, append_assoc, append-nil, length-append, take-append-drop}
use Rattle.std.specs.Prelude.{ℕ, zero, suc, ◌+◌, ◌<◌, ◌≤◌, Bool, true, false, List, [], ◌∷◌, ◌++◌, map, length, take, drop, Option, Some, None, slice_get, nat_le, ◌==◌}
use Rattle.std.proofs.lemmas.Bool.{cases_lt}
use Rattle.std.proofs.lemmas.Bool.Decides.{nat_tests}
use Rattle.std.proofs.lemmas.Option.{same_Some}
use mathlib.Core.Option.{some, some-injective, some-ne-none}
use lib.ListN.{get_elem?}
use Rattle.nv_calls.specs.Calls.{Entry}
use Rattle.nv_calls.specs.Logs.{Start, IsLawful, IsLegal, live_after}
use Rattle.nv_threads.specs.Behaviours.{Behaviour, IsProcess}
use Rattle.nv_replay.specs.declared.standing.Standing.{Standing}
use Rattle.nv_replay.specs.Follow.{Follower, Judge, fresh, IsInStep, is_exited}
use Rattle.nv_replay.specs.Lead.{Leader, is_cut, cut_of}
use Rattle.nv_replay.specs.LettingGo.{stop_of, front, let_go}
use Rattle.nv_replay.proofs.LettingGo.{uncut, ended_is, let_go_is}
use Rattle.nv_replay.proofs.Stops.{stop_same, stop_at, stop_below, track_tells}
use Rattle.nv_replay.specs.Tracks.{track_next}
use Rattle.nv_calls.specs.Hands.{has}
use Rattle.nv_replay.specs.Hands.{is_handed, next_or_hand, lead_to_hand}
use Rattle.nv_replay.specs.Sequence.{Account, is_going, cuts_of}
use Rattle.nv_replay.specs.Monitor.{Part, led_line, tracked_by, leads_on, told_standing, lines_of, sequence}
use Rattle.nv_replay.specs.Covers.{AreEnded, Covers}
use Rattle.nv_replay.specs.Version.{Running, leader_of, standing_of, process_of}
use Rattle.nv_replay.specs.Account.{AreFresh}
use Rattle.nv_replay.proofs.Settled.{Reaches}
use Rattle.nv_replay.proofs.Numbers.{some_at, map_at, ended_not_handed, eq_same}
use Rattle.nv_replay.proofs.Falling.{within}
use Rattle.nv_replay.proofs.Stretches.{ended_rests, hand_is}
use Rattle.nv_replay.proofs.Turning.{take_all}
use Rattle.nv_replay.proofs.Wholly.{suits_end}
use Rattle.nv_replay.proofs.Surviving.{length_take}
use Rattle.nv_replay.proofs.Covering.{covers}
use Rattle.nv_replay.proofs.Agreeing.{survivors}
use Rattle.nv_room.specs.Planned.{asked_in}
use Rattle.nv_room.specs.declared.view.Span.{Span}
use Rattle.nv_room.specs.Spans.{Rising, of_station, of_version, Opened, Opens as Opens'}
use Rattle.nv_words.specs.Spelling.{flag_bit}
use Rattle.nv_workers.specs.Ends.{IsCutOf, ends_of, AreHandedOn, Leaving, IsSpelling, spelt, IsFinished, version_tracked, leader_begun, TakesLead, HandedOver, Gap, AreGivenUp, HasLedFrom, IsDroppedAt, IsLetGoAt, HasFollowed, LeftWith, HasRunAll, IsAccount}
use Rattle.nv_workers.proofs.Prefixes.{with_next, take_within}
use Rattle.nv_workers.proofs.LettingGo.{lead_kept}
use Rattle.nv_workers.proofs.Keeping.{reaches, split_last, hands_planned}
use Rattle.nv_workers.proofs.Asked.{given_up, gap_within, kept_end, at_front}
use Rattle.nv_workers.proofs.Stations.{WentBy, LedBy}
use Rattle.nv_workers.proofs.Spanned.{AreBelow, below_more, below_last, after_below, place_below, after_at, later_at, rising_at, pair_at, map_append, tile_by}
use Rattle.nv_workers.proofs.Spanned.{none_below, none_there, none_opened, none_later, one_there, only_first, handed_prefix}
use Rattle.nv_workers.proofs.Spanned.{who_of, who_is, who_at, who_below, version_append, version_own, version_none, from_version}
use Rattle.nv_workers.proofs.Opening.{led_below, seat, TellsOn, told_by, own_led, other_led, same_led, Opens}
use Rattle.nv_workers.proofs.Accounting.{workers}

last_same : {X : Type 0} (xs : List X) (a b : X) → xs ++ a ∷ [] ≡ xs ++ b ∷ [] → a ≡ b
last_same [] a b h = cc
last_same (x ∷ xs) a b h = let t : xs ++ a ∷ [] ≡ xs ++ b ∷ [] = cc in last_same xs a b t

module _ (fits : Entry → Type 0) (spell : Entry → List ℕ) (sp : IsSpelling fits spell) where
  -- whoever has all words of an event has the log's next
  next_is_by : (o : Option Entry) (e : Entry) (words more : List ℕ) → words ≡ spell e → spelt spell o ≡ words ++ more → fits e → ((d : Entry) → o ≡ Some d → fits d) → o ≡ Some e
  next_is_by None e words more w h f k =
      let some = sp.some e in
      absurd (omega (arith, length-append words more, ap length w, ap (length {A = ℕ}) h))
  next_is_by (Some d) e words more w h f k = ap Some (sym (sp.own e d more f (k d refl) (h ∙ ap (λ (y : List ℕ). y ++ more) w)))

-- what is told of a version that ended as the leader, after its last station
abbrev told_if : {P : Type 0} → Running P → Bool → Bool → Option Standing
told_if v true false = Some (standing_of v)
told_if v true true = None
told_if v false b = None

abbrev told_of : {P : Type 0} → Option (Running P) → Bool → Option Standing
told_of None b = None
told_of (Some v) b = told_if v v.leading b

untold : {P : Type 0} (o : Option (Running P)) → told_of o true ≡ None
untold None = refl
untold (Some v) = untold_by v.leading where
  untold_by : (b : Bool) → told_if v b true ≡ None
  untold_by true = refl
  untold_by false = refl

module _ {P : Type 0} (g : Behaviour P) (laws : IsProcess g) (judges : ℕ → Judge) (start : Start) (most : ℕ) (planned : List ℕ) (fits : Entry → Type 0) (spell : Entry → List ℕ)
    (sp : IsSpelling fits spell) (olds news : List (Running P)) (h : List Entry) (left : ℕ → Leaving) (fin : IsFinished spell h (length news) left)
    (long : length news ≡ length olds) (fit : (k : ℕ) (e : Entry) → slice_get h k ≡ Some e → fits e)
    (done : (k : ℕ) (old new : Running P) → slice_get olds k ≡ Some old → slice_get news k ≡ Some new → HasRunAll g judges start most planned fits spell k old.at.process new (left k)) where
  abbrev cuts : ℕ → Option ℕ
  cuts = cuts_of (map standing_of news)

  -- the planned lengths, and where the lead was given up beside them
  abbrev asked : List ℕ
  asked = asked_in planned fin.spans

  abbrev hands : List ℕ
  hands = planned ++ asked

  abbrev ps : List P
  ps = map process_of olds

  abbrev total : ℕ
  total = length fin.seating

  abbrev who : ℕ → ℕ
  who k = who_of fin.seating k

  abbrev own : ℕ → List (ℕ × ℕ)
  own k = map ends_of (of_station k fin.spans)

  abbrev tells : ℕ → ℕ → Option Standing
  tells k i = told_of (slice_get news i) (nat_le k (left i).station)

  abbrev Went : ℕ → ℕ → Part P → Type 0
  Went k i v = WentBy g judges start most cuts hands h own total k i v

  abbrev Led : ℕ → ℕ → Part P → Type 0
  Led k i v = LedBy g judges start most cuts hands h own total k i v

  abbrev below : ℕ → ℕ → List (ℕ × ℕ)
  below k i = led_below own who k i

  -- version i: before, after, and what it is done with
  record Ran (i : ℕ) : Type 0 where
    old : Running P
    new : Running P
    at_old : slice_get olds i ≡ Some old
    at_new : slice_get news i ≡ Some new
    is : HasRunAll g judges start most planned fits spell i old.at.process new (left i)

  ran : (i : ℕ) → i < length news → Ran i
  ran i l =
      let o = some_at olds i (omega arith) in
      let n = some_at news i l in
      record { old = o.0; new = n.0; at_old = o.1; at_new = n.1; is = done i o.0 n.0 o.1 n.1 }

  cuts_at : (lines : List Standing) (k : ℕ) (line : Standing) → slice_get lines k ≡ Some line → cuts_of lines k ≡ stop_of line.fate line.seen
  cuts_at [] k line q = cc
  cuts_at (l ∷ lines) zero line q = ap (λ (x : Standing). stop_of x.fate x.seen) (same_Some l line q)
  cuts_at (l ∷ lines) (suc k) line q = cuts_at lines k line q

  cut_is : (i : ℕ) (v : Running P) → slice_get news i ≡ Some v → cuts i ≡ stop_of v.at.fate v.at.seen
  cut_is i v q = cuts_at (map standing_of news) i (standing_of v) (map_at standing_of news i v q)

  -- the cut of a version is above the parts that it has led to their end
  cut_above : (i to : ℕ) (v : Running P) → slice_get news i ≡ Some v → to ≤ v.at.seen → IsCutOf (cuts i) None to
  cut_above i to v q l =
      let e = cut_is i v q in record {
        below = λ k m. ap (λ (c : Option ℕ). is_cut c k) e ∙ stop_below v.at.fate v.at.seen k (omega arith);
        end = λ z. let y : true ≡ false = z in cc;
      }

  -- and so it follows the log up to there whole
  follows_to : (i to : ℕ) (v : Running P) → slice_get news i ≡ Some v → to ≤ v.at.seen → (p : P) (led : List (ℕ × ℕ)) (log : List Entry) → length log ≡ to
      → tracked_by g judges start most cuts hands log i (record { process = p; led = led; told = None }) ≡ version_tracked g judges i p led log
  follows_to i to v q l p led log long =
      uncut (cuts i) log (λ (x : List Entry). version_tracked g judges i p led x) (λ n e. let same = stop_at v.at.fate v.at.seen n (sym (cut_is i v q) ∙ e) in omega arith)

  -- Stations

  station_of : (k : ℕ) → k < total → get_elem? fin.seating k ≡ some (who k)
  station_of k l = who_at fin.seating k l

  is_version : (k : ℕ) → k < total → who k < length news
  is_version k l = who_below fin.seating (length news) fin.spans fin.first fin.opened k l

  -- no later span of the version than its last station's
  not_later : (i : ℕ) → i < length news → (j : ℕ) (x : Span) → get_elem? fin.spans j ≡ some x → x.version ≡ i → x.station ≤ (left i).station
  not_later i l j x q e = elim (cases_lt (left i).station x.station) [
    | inl m ↦ absurd ((fin.last i l).none_later x.station m (fin.made j x q ∙ ap (λ (z : ℕ). some z) e))
    | inr m ↦ m
  ]

  -- a station without a span is the last one of its version
  is_last : (k : ℕ) → k < total → of_station k fin.spans ≡ [] → (left (who k)).station ≡ k
  is_last k l none =
      let i = who k in
      let s = (left i).station in
      let il = is_version k l in
      elim (cases_lt k s) [
        | inl m ↦ absurd (none_later fin.seating (length news) fin.spans fin.first fin.opened s k i m (station_of k l) (fin.last i il).has (none_there k fin.spans none))
        | inr m ↦ elim (cases_lt s k) [
          | inl n ↦ absurd ((fin.last i il).none_later k n (station_of k l))
          | inr n ↦ omega arith
        ]
      ]

  -- what a version that ended as a follower has come to within the log
  record Fell (i : ℕ) (p : P) (v : Running P) : Type 0 where
    read : List Entry
    rest : List Entry
    prefix : h ≡ read ++ rest
    one : length read ≤ length (left i).seen + 1
    more : length (left i).seen < length read → 0 < length (left i).words
    -- however the log goes on
    is : (log : List Entry) → tracked_by g judges start most cuts hands (read ++ log) i (record { process = p; led = v.led; told = None }) ≡ v.at

  -- who ended by itself within these events has no cut
  ended_within : (i : ℕ) (p : P) (v : Running P) → slice_get news i ≡ Some v → is_going v.at.fate ≡ false → (read log : List Entry) → Reaches (track_next g (judges i) v.led read) (fresh p) v.at
      → tracked_by g judges start most cuts hands (read ++ log) i (record { process = p; led = v.led; told = None }) ≡ v.at
  ended_within i p v q e read log r =
      let none : cuts i ≡ None = cut_is i v q ∙ (ap (λ (x : Follower P). stop_of x.fate v.at.seen) (sym r.is)
      ∙ track_tells g (judges i) v.at.seen v.led read r.steps (fresh p) refl) in
      ended_is g laws (judges i) v.led p (cuts i) read log v.at none r e

  -- the event all of whose words the seat has read is the log's next
  next_is : (i : ℕ) (l : i < length news) (event : Entry) → fits event → (left i).words ≡ spell event
      → (rest : List Entry) × (h ≡ ((left i).seen ++ event ∷ []) ++ rest)
  next_is i l event fit' words =
      let w = fin.words i l in
      let f = fin.prefix i l in
      let seen : List Entry = (left i).seen in
      let at : slice_get h (length seen) ≡ Some event = next_is_by fits spell sp (slice_get h (length seen)) event (left i).words w.0 words w.1 fit' (λ e q. fit (length seen) e q) in
      let at' : slice_get (seen ++ f.0) (length seen) ≡ Some event = subst (λ (y : List Entry). slice_get y (length seen) ≡ Some event) f.1 at in
      let m = with_next seen f.0 event at' in
      (m.0, f.1 ∙ m.1)

  dropped : (i : ℕ) (l : i < length news) (p : P) (v : Running P) → slice_get news i ≡ Some v → is_going v.at.fate ≡ false
      → IsDroppedAt g judges start most planned fits spell i p v (left i) → Fell i p v
  dropped i l p v q e d =
      let seen : List Entry = (left i).seen in
      let m = next_is i l d.event d.fit d.words in
      record {
        read = seen ++ d.event ∷ [];
        rest = m.0;
        prefix = m.1;
        one = omega (arith, length-append seen (d.event ∷ []));
        more = λ z. subst (λ (y : List ℕ). 0 < length y) (sym d.words) (sp.some d.event);
        is = λ log. ended_within i p v q e (seen ++ d.event ∷ []) log (reaches (track_next g (judges i) v.led (seen ++ d.event ∷ [])) (fresh p) v.at d.stage);
      }

  was_let_go : (i : ℕ) (l : i < length news) (p : P) (v : Running P) → slice_get news i ≡ Some v → IsLetGoAt g judges start most planned fits spell i p v (left i) → Fell i p v
  was_let_go i l p v q d =
      let seen : List Entry = (left i).seen in
      let m = next_is i l d.event d.fit d.words in
      let cut : cuts i ≡ Some (length seen) = cut_is i v q ∙ (ap (λ (x : Follower P). stop_of x.fate x.seen) d.left ∙ ap Some d.seen) in
      record {
        read = seen ++ d.event ∷ [];
        rest = m.0;
        prefix = m.1;
        one = omega (arith, length-append seen (d.event ∷ []));
        more = λ z. subst (λ (y : List ℕ). 0 < length y) (sym d.words) (sp.some d.event);
        is = λ log. ap (λ (c : Option ℕ). let_go c ((seen ++ d.event ∷ []) ++ log) (version_tracked g judges i p v.led (front c ((seen ++ d.event ∷ []) ++ log)))) cut
            ∙ (let_go_is g laws (judges i) v.led p seen d.event log d.before (reaches (track_next g (judges i) v.led seen) (fresh p) d.before d.stage) d.on d.seen ∙ sym d.left);
      }

  fell : (i : ℕ) (l : i < length news) (p : P) (v : Running P) → slice_get news i ≡ Some v → is_going v.at.fate ≡ false
      → HasFollowed g judges start most planned fits spell i p v (left i) → Fell i p v
  fell i l p v q e d = elim d.stage [
    | inl st ↦ (let f = fin.prefix i l in record {
      read = (left i).seen;
      rest = f.0;
      prefix = f.1;
      one = omega arith;
      more = λ z. absurd (omega arith);
      is = λ log. ended_within i p v q e (left i).seen log (reaches (track_next g (judges i) v.led (left i).seen) (fresh p) v.at st);
    })
    | inr (inl st) ↦ dropped i l p v q e st
    | inr (inr st) ↦ was_let_go i l p v q st
  ]

  -- A station that went by

  module _ (k : ℕ) (l : k < total) (none : of_station k fin.spans ≡ []) where
    abbrev i : ℕ
    i = who k

    abbrev r : Ran i
    r = ran i (is_version k l)

    abbrev p : P
    p = r.old.at.process

    no_leader : LeftWith g judges start most planned fits spell i p r.new (left i) → ⊥
    no_leader d =
        let e : of_version i fin.spans ≡ d.prefix ++ d.last ∷ [] = sym (fin.led i (is_version k l)) ∙ d.spans in
        let a : get_elem? (of_version i fin.spans) (length d.prefix) ≡ some d.last = ap (λ (z : List Span). get_elem? z (length d.prefix)) e ∙ after_at d.prefix [] d.last in
        let b = from_version i fin.spans (length d.prefix) d.last a in
        none_there k fin.spans none b.0 d.last b.1 (d.station ∙ is_last k l none)

    own_none : own k ≡ []
    own_none = ap (map ends_of) none

    before_by : (read : List Entry) → length read ≤ length (left i).seen + 1 → (length (left i).seen < length read → 0 < length (left i).words)
        → (j a b : ℕ) → k < j → j < total → own j ≡ (a, b) ∷ [] → length read ≤ a
    before_by read one more j a b m n q =
        let x = pair_at fin.spans j a b q in
        let at : (left i).station ≡ k = is_last k l none in
        let xs = x.3 in
        let xf = x.4 in
        let f = fin.before i (is_version k l) x.0 x.1 x.2 (omega arith) in
        let f0 = f.0 in
        elim (cases_lt (length (left i).seen) (length read)) [
          | inl y ↦ (let z = f.1 (more y) in omega arith)
          | inr y ↦ omega arith
        ]

    went_out : below k i ≡ r.new.led → Went k i (seat own who p k)
    went_out e =
        let d : HasFollowed g judges start most planned fits spell i p r.new (left i) = elim r.is.told [ inl d ↦ d | inr d ↦ absurd (no_leader d) ] in
        let f = fell i (is_version k l) p r.new r.at_new r.is.ended d in
        subst (λ (y : List (ℕ × ℕ)). Went k i (record { process = p; led = y; told = None })) (sym e) (record {
          read = f.read;
          rest = f.rest;
          prefix = f.prefix;
          none = own_none;
          below = before_by f.read f.one f.more;
          at = r.new.at;
          is = f.is;
          ended = r.is.ended;
        })

  -- A station that led

  module _ (k : ℕ) (l : k < total) (ys xs : List Span) (x : Span) (all : fin.spans ≡ ys ++ x ∷ xs) (at : x.station ≡ k) (one : of_station k fin.spans ≡ x ∷ []) where
    abbrev iv : ℕ
    iv = who k

    abbrev rv : Ran iv
    rv = ran iv (is_version k l)

    abbrev pv : P
    pv = rv.old.at.process

    here : get_elem? fin.spans (length ys) ≡ some x
    here = ap (λ (z : List Span). get_elem? z (length ys)) all ∙ after_at ys xs x

    version : x.version ≡ iv
    version = sym (who_is fin.seating k x.version (ap (get_elem? fin.seating) (sym at) ∙ fin.made (length ys) x here))

    abbrev before : List Span
    before = of_version iv ys

    abbrev later : List Span
    later = of_version iv xs

    split : (left iv).spans ≡ before ++ x ∷ later
    split = fin.led iv (is_version k l) ∙ (ap (of_version iv) all ∙ (version_append iv ys (x ∷ xs) ∙ ap (λ (z : List Span). before ++ z) (version_own iv x xs version)))

    abbrev parts : List (ℕ × ℕ)
    parts = map ends_of before

    led_split : map ends_of (left iv).spans ≡ parts ++ (x.from, x.to) ∷ map ends_of later
    led_split = ap (map ends_of) split ∙ map_append ends_of before (x ∷ later)

    own_one : own k ≡ (x.from, x.to) ∷ []
    own_one = ap (map ends_of) one

    abbrev Goal : List (ℕ × ℕ) → Type 0
    Goal led = Led k iv (record { process = pv; led = led; told = None })

    -- what its end tells
    record Out (led : List (ℕ × ℕ)) : Type 0 where
      out : Goal led
      over : is_handed hands out.from out.end ≡ x.handed
      line : tells (suc k) iv ≡ told_by (record { process = pv; led = led; told = None })
          (tracked_by g judges start most cuts hands (take out.from out.log) iv (record { process = pv; led = led; told = None })) out.end out.from x.handed

    seen_to : (to : ℕ) → to ≤ length (left iv).seen → to ≤ rv.new.at.seen
    seen_to to m = let c = rv.is.count in omega arith

    handed_out : HandedOver g judges start most hands iv pv parts x.from x.to (left iv).seen → x.handed ≡ true → tells (suc k) iv ≡ None → Out parts
    handed_out d hd none =
        let f = fin.prefix iv (is_version k l) in
        let seen : List Entry = (left iv).seen in
        let log : List Entry = take x.to seen in
        let grew = d.grew in
        let w = d.within in
        let long_log : length log ≡ x.to = length_take seen x.to w in
        let halves : log ++ drop x.to seen ≡ seen = take-append-drop x.to seen in
        let tk : take x.from log ≡ take x.from seen = sym (sym (ap (take x.from) halves) ∙ take_within x.from log (drop x.to seen) (omega arith)) ∙ refl in
        let long_from : length (take x.from log) ≡ x.from = length_take log x.from (omega arith) in
        let T : List Entry → Type 0 = λ y. TakesLead g judges iv pv parts y in
        let t : T (take x.from log) = subst T (sym tk) d.takes in
        let by : tracked_by g judges start most cuts hands (take x.from log) iv (record { process = pv; led = parts; told = None }) ≡ version_tracked g judges iv pv parts (take x.from log) =
        follows_to iv x.from rv.new rv.at_new (seen_to x.from (omega arith)) pv parts (take x.from log) long_from in
        let end : Leader P = record { process = d.process; log = log; fate = None } in
        let lead : lead_to_hand g start most (cuts iv) hands (length (take x.from log)) (leader_begun g judges iv pv parts (take x.from log)) ≡ end =
        (λ j. lead_to_hand g start most (cuts iv) hands (long_from j) (leader_begun g judges iv pv parts (tk j))) ∙ d.lead (cuts iv) (cut_above iv x.to rv.new rv.at_new (seen_to x.to w)) in
        let over : is_handed hands x.from end ≡ true = hands_planned hands x.from end refl (omega arith) (ap (has hands) long_log ∙ d.planned) in
        let o : Goal parts = record {
          from = x.from;
          log = log;
          rest = drop x.to seen ++ f.0;
          prefix = f.1 ∙ (ap (λ (y : List Entry). y ++ f.0) (sym halves) ∙ append_assoc log (drop x.to seen) f.0);
          span = own_one ∙ ap (λ (y : ℕ). (x.from, y) ∷ []) (sym long_log);
          within = omega arith;
          on = ap (λ (y : Follower P). y.fate) by ∙ t.on;
          seen = ap (λ (y : Follower P). y.seen) by ∙ (t.seen ∙ long_from);
          in_step = subst (λ (y : Follower P). IsInStep g (take x.from log) y) (sym by) t.in_step;
          end = end;
          lead = ap (λ (y : Follower P). leads_on g judges start most cuts hands (take x.from log) iv y) by ∙ lead;
          end_log = refl;
          exited = λ z. cc;
        } in
        record {
          out = o;
          over = over ∙ sym hd;
          line = none ∙ ap (told_by (record { process = pv; led = parts; told = None })
              (tracked_by g judges start most cuts hands (take x.from log) iv (record { process = pv; led = parts; told = None })) end x.from) (sym hd);
        }

    gap_here : x.to ≡ length (left iv).seen → Gap asked x.from (length (left iv).seen)
    gap_here to = subst (λ (n : ℕ). Gap asked x.from n) to (gap_within planned (length h) fin.spans fin.tile (length ys) x here)

    kept_here : x.handed ≡ false → x.to ≡ length (left iv).seen → is_going rv.new.at.fate ≡ false → x.from < length (left iv).seen → has asked (length (left iv).seen) ≡ false
    kept_here kept to over more = subst (λ (n : ℕ). has asked n ≡ false) to (kept_end planned (length h) fin.spans fin.tile (length ys) x here kept (omega (arith, more, to)))

    -- it ended as the leader here
    ended_out : (d : LeftWith g judges start most planned fits spell iv pv rv.new (left iv)) → d.prefix ≡ before → d.last ≡ x → tells (suc k) iv ≡ Some (standing_of rv.new) → Out parts
    ended_out d fe le told =
        let f = fin.prefix iv (is_version k l) in
        let seen : List Entry = (left iv).seen in
        let v = rv.new in
        let H : List Span → ℕ → Type 0 = λ y n. HasLedFrom g judges start most planned iv pv v (map ends_of y) n seen in
        let s : H before x.from = subst (λ (y : List Span). H y x.from) fe (subst (λ (y : Span). H d.prefix y.from) le d.led) in
        let hd : x.handed ≡ false = subst (λ (y : Span). y.handed ≡ false) le d.kept in
        let whole : (left iv).spans ≡ before ++ x ∷ [] = d.spans ∙ (λ j. fe j ++ le j ∷ []) in
        let to : x.to ≡ length seen = ap (λ (y : ℕ × ℕ). y.1) (last_same parts (x.from, x.to) (x.from, length seen)
        (sym (map_append ends_of before (x ∷ [])) ∙ (sym (ap (map ends_of) whole) ∙ (sym rv.is.spans ∙ s.span)))) in
        let t = s.takes in
        let long_from : length (take x.from seen) ≡ x.from = length_take seen x.from s.within in
        let by : tracked_by g judges start most cuts hands (take x.from seen) iv (record { process = pv; led = parts; told = None }) ≡ version_tracked g judges iv pv parts (take x.from seen) =
        follows_to iv x.from v rv.at_new (seen_to x.from s.within) pv parts (take x.from seen) long_from in
        let end : Leader P = leader_of v seen in
        let ended : is_going v.at.fate ≡ false = rv.is.ended in
        let su = suits_end v.at.fate v.at.seen in
        let c : IsCutOf (cuts iv) v.at.fate (length seen) = (let e = cut_is iv v rv.at_new ∙ stop_same v.at.fate v.at.seen (lead_kept g judges start most planned s) in record {
          below = λ j m. ap (λ (y : Option ℕ). is_cut y j) e ∙ su.below j (let n = s.seen in omega arith);
          end = λ z. e ∙ ap (cut_of v.at.fate) s.seen;
        }) in
        let rc = reaches (next_or_hand g start most (cuts iv) hands x.from) (leader_begun g judges iv pv parts (take x.from seen)) end (s.stage asked (gap_here to) (kept_here hd to) (cuts iv) c) in
        let lead : lead_to_hand g start most (cuts iv) hands (length (take x.from seen)) (leader_begun g judges iv pv parts (take x.from seen)) ≡ end =
        ap (λ (n : ℕ). lead_to_hand g start most (cuts iv) hands n (leader_begun g judges iv pv parts (take x.from seen))) long_from
        ∙ sym (hand_is g start most (cuts iv) hands x.from laws (leader_begun g judges iv pv parts (take x.from seen)) end rc (ended_rests g start most (cuts iv) hands x.from end ended)) in
        let dead : is_exited v.at.fate ≡ true → live_after seen ≡ [] = λ z. ap live_after (sym (ap (λ (m : ℕ). take m seen) s.seen ∙ take_all seen)) ∙ s.in_step.exited z in
        let o : Goal parts = record {
          from = x.from;
          log = seen;
          rest = f.0;
          prefix = f.1;
          span = own_one ∙ ap (λ (y : ℕ). (x.from, y) ∷ []) to;
          within = s.within;
          on = ap (λ (y : Follower P). y.fate) by ∙ t.on;
          seen = ap (λ (y : Follower P). y.seen) by ∙ (t.seen ∙ long_from);
          in_step = subst (λ (y : Follower P). IsInStep g (take x.from seen) y) (sym by) t.in_step;
          end = end;
          lead = ap (λ (y : Follower P). leads_on g judges start most cuts hands (take x.from seen) iv y) by ∙ lead;
          end_log = refl;
          exited = dead;
        } in
        let line : standing_of v ≡ led_line (record { process = pv; led = parts; told = None })
        (tracked_by g judges start most cuts hands (take x.from seen) iv (record { process = pv; led = parts; told = None })) x.from end =
        λ j. record { fate = v.at.fate; seen = s.seen j; led = s.span j; rewrites = (s.rewrites ∙ ap (λ (y : Follower P). y.rewrites) (sym by)) j } in
        record {
          out = o;
          over = ended_not_handed hands x.from end ended ∙ sym hd;
          line = told ∙ (ap Some line ∙ ap (told_by (record { process = pv; led = parts; told = None })
              (tracked_by g judges start most cuts hands (take x.from seen) iv (record { process = pv; led = parts; told = None })) end x.from) (sym hd));
        }

    -- what is told after the station
    told_none : (b : Bool) → rv.new.leading ≡ false → told_if rv.new rv.new.leading b ≡ None
    told_none b e = ap (λ (y : Bool). told_if rv.new y b) e

    tells_is : (b : Bool) → nat_le (suc k) (left iv).station ≡ b → tells (suc k) iv ≡ told_if rv.new rv.new.leading b
    tells_is b e = ap (λ (y : Option (Running P)). told_of y (nat_le (suc k) (left iv).station)) rv.at_new ∙ ap (told_if rv.new rv.new.leading) e

    followed_led : HasFollowed g judges start most planned fits spell iv pv rv.new (left iv) → Out parts
    followed_led d =
        let hd : x.handed ≡ true = handed_prefix before x later (subst AreHandedOn split d.handed_on) in
        let inside : (j : ℕ) (y : Span) → get_elem? (left iv).spans j ≡ some y → (m : ℕ) × (get_elem? fin.spans m ≡ some y) =
        λ j y e. from_version iv fin.spans j y (subst (λ (z : List Span). get_elem? z j ≡ some y) (fin.led iv (is_version k l)) e) in
        let given : AreGivenUp planned asked rv.new.led = subst (AreGivenUp planned asked) (sym rv.is.spans) (given_up planned (length h) fin.spans fin.tile (left iv).spans inside d.handed_on) in
        let over = d.handed asked given parts (map ends_of later) x.from x.to (rv.is.spans ∙ led_split) in
        handed_out over hd (tells_is (nat_le (suc k) (left iv).station) refl ∙ told_none (nat_le (suc k) (left iv).station) d.idle)

    -- the span that it ended with as the leader
    last_at : (d : LeftWith g judges start most planned fits spell iv pv rv.new (left iv)) → (j : ℕ) × (get_elem? fin.spans j ≡ some d.last)
    last_at d =
        let e : of_version iv fin.spans ≡ d.prefix ++ d.last ∷ [] = sym (fin.led iv (is_version k l)) ∙ d.spans in
        from_version iv fin.spans (length d.prefix) d.last (ap (λ (z : List Span). get_elem? z (length d.prefix)) e ∙ after_at d.prefix [] d.last)

    left_led : LeftWith g judges start most planned fits spell iv pv rv.new (left iv) → Out parts
    left_led d = elim (split_last d.prefix before later d.last x (sym d.spans ∙ split)) [
      | inl (fe, le) ↦ (
          let s : (left iv).station ≡ k = sym d.station ∙ (ap (λ (y : Span). y.station) le ∙ at) in
          let b : nat_le (suc k) (left iv).station ≡ false = grind (arith, nat_tests) in
          ended_out d fe le (tells_is false b ∙ ap (λ (y : Bool). told_if rv.new y false) d.led.leading))
      | inr (more, fe) ↦ (
          let hd : x.handed ≡ true = handed_prefix before x more (subst AreHandedOn fe d.handed_on) in
          let at_last = last_at d in
          let apart : d.last.station ≡ k → ⊥ = λ e.
          let same : x ≡ d.last = one_there k fin.spans x one at_last.0 d.last at_last.1 e in
          let z : true ≡ false = sym hd ∙ (ap (λ (y : Span). y.handed) same ∙ d.kept) in cc in
          let low : k ≤ (left iv).station = (let n = not_later iv (is_version k l) (length ys) x here version in omega arith) in
          let high : (left iv).station ≡ k → ⊥ = λ e. apart (d.station ∙ e) in
          let b : nat_le (suc k) (left iv).station ≡ true = elim (cases_lt k (left iv).station) [
            | inl y ↦ grind (arith, nat_tests)
            | inr y ↦ absurd (high (omega arith))
          ] in
          let whole : of_version iv fin.spans ≡ d.prefix ++ d.last ∷ [] = sym (fin.led iv (is_version k l)) ∙ d.spans in
          let inside : (j : ℕ) (y : Span) → get_elem? d.prefix j ≡ some y → (m : ℕ) × (get_elem? fin.spans m ≡ some y) =
          λ j y e. from_version iv fin.spans j y (subst (λ (z : List Span). get_elem? z j ≡ some y) (sym whole) (at_front d.prefix (d.last ∷ []) j y e)) in
          let given : AreGivenUp planned asked (map ends_of d.prefix) = given_up planned (length h) fin.spans fin.tile d.prefix inside d.handed_on in
          let over = d.led.handed asked given parts (map ends_of more) x.from x.to (ap (map ends_of) fe ∙ map_append ends_of before (x ∷ more)) in
          handed_out over hd (tells_is true b ∙ ap (λ (y : Bool). told_if rv.new y true) d.led.leading))
    ]

    led_out : Out parts
    led_out = elim rv.is.told [ inl d ↦ followed_led d | inr d ↦ left_led d ]

  -- what is told of the others
  others_by : (k j : ℕ) (b : Bool) → nat_le (suc k) (left j).station ≡ nat_le k (left j).station → tells (suc k) j ≡ tells k j
  others_by k j b e = ap (told_of (slice_get news j)) e

  apart_le : (k s : ℕ) → (s ≡ k → ⊥) → nat_le (suc k) s ≡ nat_le k s
  apart_le k s h = elim (cases_lt s k) [
    | inl l ↦ (let a : nat_le (suc k) s ≡ false = grind (arith, nat_tests) in let b : nat_le k s ≡ false = grind (arith, nat_tests) in a ∙ sym b)
    | inr l ↦ elim (cases_lt k s) [
      | inl m ↦ (let a : nat_le (suc k) s ≡ true = grind (arith, nat_tests) in let b : nat_le k s ≡ true = grind (arith, nat_tests) in a ∙ sym b)
      | inr m ↦ absurd (h (omega arith))
    ]
  ]

  unknown : (j : ℕ) (o : Option (Running P)) → o ≡ slice_get news j → length news ≤ j → o ≡ None
  unknown j None e l = refl
  unknown j (Some v) e l = let w = within news j v (sym e) in absurd (omega arith)

  told_none_of : (o : Option (Running P)) (b c : Bool) → o ≡ None → told_of o b ≡ told_of o c
  told_none_of None b c e = refl
  told_none_of (Some v) b c e = cc

  -- after another version's station
  other_told : (k j : ℕ) → k < total → (who k == j) ≡ false → tells (suc k) j ≡ tells k j
  other_told k j l ne = elim (cases_lt j (length news)) [
    | inl m ↦ others_by k j true (apart_le k (left j).station (λ e.
        let a : get_elem? fin.seating k ≡ some j = ap (get_elem? fin.seating) (sym e) ∙ (fin.last j m).has in
        let b : who k ≡ j = who_is fin.seating k j a in
        let c : (who k == j) ≡ true = grind (arith, nat_tests) in
        let z : true ≡ false = sym c ∙ ne in cc))
    | inr m ↦ told_none_of (slice_get news j) (nat_le (suc k) (left j).station) (nat_le k (left j).station) (unknown j (slice_get news j) refl m)
  ]

  idle_told : (v : Running P) (b c : Bool) → v.leading ≡ false → told_of (Some v) b ≡ told_of (Some v) c
  idle_told v b c e = ap (λ (y : Bool). told_if v y b) e ∙ sym (ap (λ (y : Bool). told_if v y c) e)

  -- after a station that went by
  went_told : (k : ℕ) (l : k < total) → of_station k fin.spans ≡ [] → (j : ℕ) → tells (suc k) j ≡ tells k j
  went_told k l none j = by (who k == j) refl where
    by : (b : Bool) → (who k == j) ≡ b → tells (suc k) j ≡ tells k j
    by false e = other_told k j l e
    by true e =
        let q : who k ≡ j = eq_same (who k) j e in
        let x = r k l none in
        let idle : x.new.leading ≡ false = elim x.is.told [ inl d ↦ d.idle | inr d ↦ absurd (no_leader k l none d) ] in
        let T : ℕ → Type 0 = λ y. told_of (slice_get news y) (nat_le (suc k) (left y).station) ≡ told_of (slice_get news y) (nat_le k (left y).station) in
        let here : T (who k) = ap (λ (y : Option (Running P)). told_of y (nat_le (suc k) (left (who k)).station)) x.at_new
        ∙ (idle_told x.new (nat_le (suc k) (left (who k)).station) (nat_le k (left (who k)).station) idle
        ∙ sym (ap (λ (y : Option (Running P)). told_of y (nat_le k (left (who k)).station)) x.at_new)) in
        subst T q here

  -- All stations

  abbrev OpensHere : ℕ → ℕ → ℕ → Type 0
  OpensHere n k c = Opens g judges start most cuts hands h own total who tells ps n k c

  -- the parts that each version led at the stations below are those of these spans
  abbrev After : ℕ → List Span → Type 0
  After k ys = (i : ℕ) → below k i ≡ map ends_of (of_version i ys)

  process_at : (k : ℕ) (l : k < total) → slice_get ps (who k) ≡ Some (ran (who k) (is_version k l)).old.at.process
  process_at k l = let x = ran (who k) (is_version k l) in map_at process_of olds (who k) x.old x.at_old

  module _ (k : ℕ) (l : k < total) (ys xs : List Span) (all : fin.spans ≡ ys ++ xs) (low : AreBelow k ys) (rise : Rising (k + 1) xs) (e : After k ys) where
    none_here : of_station k fin.spans ≡ []
    none_here = ap (of_station k) all ∙ (after_below k ys xs low ∙ none_below (k + 1) k xs rise (omega arith))

    -- the version of a station without a span has led all its parts
    all_led : below k (who k) ≡ (ran (who k) (is_version k l)).new.led
    all_led =
        let i = who k in
        let x = ran i (is_version k l) in
        let none : of_version i xs ≡ [] = version_none i xs (λ j y q ve.
        let at = later_at ys xs j y q in
        let n = not_later i (is_version k l) at.0 y (ap (λ (z : List Span). get_elem? z at.0) all ∙ at.1) ve in
        let s = is_last k l none_here in
        let u = rising_at (k + 1) xs j y rise q in
        absurd (omega arith)) in
        e i ∙ (ap (map ends_of) (sym (append-nil (of_version i ys)) ∙ (ap (λ (z : List Span). of_version i ys ++ z) (sym none)
        ∙ (sym (version_append i ys xs) ∙ (ap (of_version i) (sym all) ∙ sym (fin.led i (is_version k l)))))) ∙ sym x.is.spans)

    went_after : After (k + 1) ys
    went_after =
        let n : suc k ≡ k + 1 = omega arith in
        subst (λ (z : ℕ). After z ys) n (λ j. same_led own who k j (who k == j) (ap (map ends_of) none_here) ∙ e j)

    went_step : (n c : ℕ) → OpensHere n (k + 1) c → OpensHere (suc n) k (suc c)
    went_step n c rec = (
      (ran (who k) (is_version k l)).old.at.process,
      process_at k l,
      (inl (went_out k l none_here all_led), went_told k l none_here, inr (refl, rec)),
    )

  module _ (k : ℕ) (l : k < total) (ys xs : List Span) (x : Span) (all : fin.spans ≡ ys ++ x ∷ xs) (low : AreBelow k ys) (at : x.station ≡ k) (rise : Rising (x.station + 1) xs)
      (e : After k ys) where
    one_here : of_station k fin.spans ≡ x ∷ []
    one_here = ap (of_station k) all ∙ (after_below k ys (x ∷ xs) low ∙ only_first k x xs at rise)

    abbrev Here : List (ℕ × ℕ) → Type 0
    Here led = Out k l ys xs x all at one_here led

    here_out : Here (below k (who k))
    here_out = subst (λ (z : List (ℕ × ℕ)). Here z) (sym (e (who k))) (led_out k l ys xs x all at one_here)

    led_here : own k ≡ (x.from, x.to) ∷ []
    led_here = ap (map ends_of) one_here

    led_after_by : (j : ℕ) (b : Bool) → (who k == j) ≡ b → below (suc k) j ≡ map ends_of (of_version j (ys ++ x ∷ []))
    led_after_by j true q =
        let w : who k ≡ j = eq_same (who k) j q in
        let v : x.version ≡ j = version k l ys xs x all at one_here ∙ w in
        sym (own_led own who k j ((x.from, x.to) ∷ []) w led_here)
        ∙ (ap (λ (z : List (ℕ × ℕ)). z ++ (x.from, x.to) ∷ []) (e j)
        ∙ (sym (map_append ends_of (of_version j ys) (x ∷ []))
        ∙ ap (map ends_of) (ap (λ (z : List Span). of_version j ys ++ z) (sym (version_own j x [] v)) ∙ sym (version_append j ys (x ∷ [])))))
    led_after_by j false q =
        let none : of_version j (x ∷ []) ≡ [] = version_none j (x ∷ []) (λ i y h v.
        let s : x ≡ y = one_of i y h in
        let w : who k ≡ j = sym (version k l ys xs x all at one_here) ∙ (ap (λ (z : Span). z.version) s ∙ v) in
        let c : (who k == j) ≡ true = grind (arith, nat_tests) in
        let z : true ≡ false = sym c ∙ q in cc) in
        sym (other_led own who k j q)
        ∙ (e j ∙ ap (map ends_of) (sym (append-nil (of_version j ys)) ∙ (ap (λ (z : List Span). of_version j ys ++ z) (sym none) ∙ sym (version_append j ys (x ∷ []))))) where
          one_of : (i : ℕ) (y : Span) → get_elem? (x ∷ []) i ≡ some y → x ≡ y
          one_of zero y h = some-injective x y h
          one_of (suc i) y h = absurd (some-ne-none y (sym h))

    led_after : After (k + 1) (ys ++ x ∷ [])
    led_after = let n : suc k ≡ k + 1 = omega arith in subst (λ (z : ℕ). After z (ys ++ x ∷ [])) n (λ j. led_after_by j (who k == j) refl)

    led_tells : TellsOn g judges start most cuts hands h own total who tells (ran (who k) (is_version k l)).old.at.process k (inr here_out.out)
    led_tells = (
      here_out.line ∙ ap (told_by (seat own who (ran (who k) (is_version k l)).old.at.process k)
          (tracked_by g judges start most cuts hands (take here_out.out.from here_out.out.log) (who k) (seat own who (ran (who k) (is_version k l)).old.at.process k))
          here_out.out.end here_out.out.from) (sym here_out.over),
      λ j q. other_told k j l q,
    )

    led_step : (n c : ℕ) (b : Bool) → x.handed ≡ b → (x.handed ≡ true → Opens' (k + suc c) fin.seating x)
        → OpensHere n (k + 1) (c + flag_bit b) → OpensHere (suc n) k (suc c)
    led_step n c true hd o rec =
        let w : who (k + suc c) ≡ who k = who_is fin.seating (k + suc c) x.version (o hd).1 ∙ version k l ys xs x all at one_here in
        let z : c + flag_bit true ≡ suc c = omega arith in (
          (ran (who k) (is_version k l)).old.at.process,
          process_at k l,
          (inr here_out.out, led_tells, inl (here_out.over ∙ hd, w, subst (λ (y : ℕ). OpensHere n (k + 1) y) z rec)),
        )
    led_step n c false hd o rec =
        let z : c + flag_bit false ≡ c = omega arith in (
          (ran (who k) (is_version k l)).old.at.process,
          process_at k l,
          (inr here_out.out, led_tells, inr (here_out.over ∙ hd, subst (λ (y : ℕ). OpensHere n (k + 1) y) z rec)),
        )

  abbrev End : ℕ → ℕ → ℕ → Type 0
  End n k c = OpensHere n k c × After total fin.spans

  opens : (n k c : ℕ) (ys xs : List Span) → fin.spans ≡ ys ++ xs → AreBelow k ys → Rising k xs → Opened (k + c) fin.seating xs → k + n ≡ total → After k ys → End n k c
  opens zero k c ys [] all low rise o m e =
      let n : k ≡ total = omega arith in
      (omega (arith, o), subst (λ (z : ℕ). After z fin.spans) n (subst (λ (z : List Span). After k z) (sym (all ∙ append-nil ys)) e))
  opens zero k c ys (x ∷ xs) all low rise o m e =
      let here = ap (λ (z : List Span). get_elem? z (length ys)) all ∙ after_at ys xs x in
      let b = place_below fin.seating x.station x.version (fin.made (length ys) x here) in
      absurd (let a = rise.0 in omega arith)
  opens (suc n) k zero ys xs all low rise o m e = let z = none_opened fin.seating xs (k + 0) k rise (omega arith) o in absurd (omega arith)
  opens (suc n) k (suc c) ys [] all low rise o m e =
      let l : k < total = omega arith in
      let j : k + suc c ≡ k + 1 + c = omega arith in
      let r = opens n (k + 1) c ys [] all (below_more k ys low) tt (subst (λ (z : ℕ). Opened z fin.seating []) j o) (omega arith) (went_after k l ys [] all low tt e) in
      (went_step k l ys [] all low tt e n c r.0, r.1)
  opens (suc n) k (suc c) ys (x ∷ xs) all low rise o m e = elim (cases_lt k x.station) [
    | inl lt ↦ (
        let l : k < total = omega arith in
        let j : k + suc c ≡ k + 1 + c = omega arith in
        let rise' : Rising (k + 1) (x ∷ xs) = ((omega arith), rise.1) in
        let r = opens n (k + 1) c ys (x ∷ xs) all (below_more k ys low) rise' (subst (λ (z : ℕ). Opened z fin.seating (x ∷ xs)) j o) (omega arith) (went_after k l ys (x ∷ xs) all low rise' e) in
        (went_step k l ys (x ∷ xs) all low rise' e n c r.0, r.1))
    | inr ge ↦ (
        let l : k < total = omega arith in
        let a = rise.0 in
        let at : x.station ≡ k = omega arith in
        let j : k + suc c + flag_bit x.handed ≡ k + 1 + (c + flag_bit x.handed) = omega arith in
        let low' : AreBelow (k + 1) (ys ++ x ∷ []) = below_last (k + 1) ys x (below_more k ys low) (omega arith) in
        let rise' : Rising (k + 1) xs = subst (λ (z : ℕ). Rising (z + 1) xs) at rise.1 in
        let r = opens n (k + 1) (c + flag_bit x.handed) (ys ++ x ∷ []) xs (all ∙ sym (append_assoc ys (x ∷ []) xs)) low' rise' (subst (λ (z : ℕ). Opened z fin.seating xs) j o.1) (omega arith)
        (led_after k l ys xs x all low at rise.1 e) in
        (led_step k l ys xs x all low at rise.1 e n c x.handed refl o.0 r.0, r.1))
  ]

  -- The account

  map_long : (xs : List (Running P)) → length (map process_of xs) ≡ length xs
  map_long [] = refl
  map_long (x ∷ xs) = ap suc (map_long xs)

  lines_by : (i : ℕ) (vs : List (Part P)) (us : List (Running P)) → length vs ≡ length us
      → ((k : ℕ) (v : Part P) (u : Running P) → slice_get vs k ≡ Some v → slice_get us k ≡ Some u → told_standing g judges start most cuts hands h (i + k) v v.told ≡ standing_of u)
      → lines_of g judges start most cuts hands h i vs ≡ map standing_of us
  lines_by i [] [] m f = refl
  lines_by i [] (u ∷ us) m f = absurd (omega arith)
  lines_by i (v ∷ vs) [] m f = absurd (omega arith)
  lines_by i (v ∷ vs) (u ∷ us) m f =
      let z : i + 0 ≡ i = omega arith in
      let one : told_standing g judges start most cuts hands h i v v.told ≡ standing_of u = subst (λ (j : ℕ). told_standing g judges start most cuts hands h j v v.told ≡ standing_of u) z (f 0 v u refl refl) in
      let rest = lines_by (i + 1) vs us (omega arith) (λ k w x a b.
      let y : i + suc k ≡ i + 1 + k = omega arith in subst (λ (j : ℕ). told_standing g judges start most cuts hands h j w w.told ≡ standing_of x) y (f (suc k) w x a b)) in
      λ j. one j ∷ rest j

  -- the line of a version
  line_at : (i : ℕ) (l : i < length news) (v : Part P) → v.process ≡ (ran i l).old.at.process → v.led ≡ (ran i l).new.led → v.told ≡ tells total i
      → told_standing g judges start most cuts hands h i v v.told ≡ standing_of (ran i l).new
  line_at i l v vp vl vt =
      let x = ran i l in
      let p : P = x.old.at.process in
      let T : (b : Bool) → tells total i ≡ told_if x.new x.new.leading (nat_le total (left i).station) = λ b. ap (λ (y : Option (Running P)). told_of y (nat_le total (left i).station)) x.at_new in
      elim x.is.told [
        | inl d ↦ (
            let none : v.told ≡ None = vt ∙ (T true ∙ ap (λ (y : Bool). told_if x.new y (nat_le total (left i).station)) d.idle) in
            let f = fell i l p x.new x.at_new x.is.ended d in
            let a : tracked_by g judges start most cuts hands h i (record { process = p; led = x.new.led; told = None }) ≡ x.new.at =
            subst (λ (y : List Entry). tracked_by g judges start most cuts hands y i (record { process = p; led = x.new.led; told = None }) ≡ x.new.at) (sym f.prefix) (f.is f.rest) in
            let b : tracked_by g judges start most cuts hands h i v ≡ x.new.at = (λ j. tracked_by g judges start most cuts hands h i (record { process = vp j; led = vl j; told = None })) ∙ a in
            ap (told_standing g judges start most cuts hands h i v) none ∙ (λ j. record { fate = (b j).fate; seen = (b j).seen; led = vl j; rewrites = (b j).rewrites }))
        | inr d ↦ (
            let at = (fin.last i l).has in
            let m = place_below fin.seating (left i).station i at in
            let b : nat_le total (left i).station ≡ false = grind (arith, nat_tests) in
            let told : v.told ≡ Some (standing_of x.new) = vt ∙ (T true ∙ (λ j. told_if x.new (d.led.leading j) (b j))) in
            ap (told_standing g judges start most cuts hands h i v) told)
      ]

  all_ended : (us : List (Running P)) → ((k : ℕ) (u : Running P) → slice_get us k ≡ Some u → is_going u.at.fate ≡ false) → AreEnded (map standing_of us)
  all_ended [] f = tt
  all_ended (u ∷ us) f = (f 0 u refl, all_ended us (λ k w q. f (suc k) w q))

  told_account : record { log = h; lines = map standing_of news } ≡ sequence g judges start most cuts hands ps
  told_account =
      let few : length news ≡ length ps = long ∙ sym (map_long olds) in
      let o = opens total 0 (length ps) [] fin.spans refl tt fin.rise (let z : length news ≡ 0 + length ps = omega (arith, few) in subst (λ (y : ℕ). Opened y fin.seating fin.spans) z fin.opened) (omega arith) (λ i. refl) in
      let t = tile_by own total 0 0 (length h) fin.spans fin.tile fin.rise (λ j x q. let b = place_below fin.seating x.station x.version (fin.made j x q) in omega arith) (λ k a b. refl) in
      let r = workers g laws judges start most cuts hands h own total who tells ps (λ k l. who_is fin.seating k k (fin.first k (omega arith)))
      (λ i. let b : nat_le 0 (left i).station ≡ true = grind (arith, nat_tests) in ap (told_of (slice_get news i)) b ∙ untold (slice_get news i)) o.0 t in
      let lines : lines_of g judges start most cuts hands h 0 r.last.parts ≡ map standing_of news = lines_by 0 r.last.parts news (r.parts.same ∙ sym few)
      (λ k v u a b.
      let l : k < length news = within news k u b in
      let zk : 0 + k ≡ k = omega arith in
      let x = ran k l in
      let w = r.parts.each k x.old.at.process (map_at process_of olds k x.old x.at_old) in
      let vw : w.0 ≡ v = same_Some w.0 v (sym w.1 ∙ a) in
      let xu : x.new ≡ u = same_Some x.new u (sym x.at_new ∙ b) in
      let led : w.0.led ≡ x.new.led = w.3 ∙ (o.1 k ∙ (ap (map ends_of) (sym (fin.led k l)) ∙ sym x.is.spans)) in
      let line = line_at k l w.0 w.2 led w.4 in
      (λ j. told_standing g judges start most cuts hands h (zk j) (sym vw j) (sym vw j).told) ∙ (line ∙ ap standing_of xu)) in
      let same : record { log = h; lines = map standing_of news } ≡ record { log = h; lines = lines_of g judges start most cuts hands h 0 r.last.parts } = ap (λ (x : List Standing). record { log = h; lines = x }) (sym lines) in
      ◌∙◌ {b = record { log = h; lines = lines_of g judges start most cuts hands h 0 r.last.parts }} same r.told

  pub accounts : AreFresh g 0 olds → IsLawful h → IsLegal start h → IsAccount g judges start most (planned ++ asked_in planned fin.spans) olds news h
  accounts fresh law legal =
      let e = told_account in record {
        account = e;
        settled = all_ended news (λ k u q.
            let x = ran k (within news k u q) in
            let xu : x.new ≡ u = same_Some x.new u (sym x.at_new ∙ q) in
            subst (λ (y : Running P). is_going y.at.fate ≡ false) xu x.is.ended);
        covers = subst (λ (x : Account). Covers x.lines x.log) (sym e) (covers g judges start most cuts hands ps);
        survivor = survivors g laws start most hands judges olds (map standing_of news) h fresh e law legal;
      }
