-- A worker's seat changes.
use Rattle.std.proofs.Common.{◌≡◌, ◌∙◌, sym, ap, subst, refl, ℕ, suc, ◌≤◌, Bool, true, false, List, [], ◌∷◌, ◌++◌, map, length, None, arith, append-nil}
use Rattle.std.specs.Prelude.{◌==◌, ◌||◌}
use mathlib.Core.Option.{some}
use Rattle.nv_calls.specs.Calls.{Entry}
use Rattle.nv_calls.specs.Logs.{IsLawful}
use Rattle.nv_calls.specs.Learning.{FromAny}
use Rattle.nv_calls.proofs.LearningLaws.{as_told, legal_told}
use Rattle.nv_calls.specs.declared.kernel.SyscallKernel.{Ghosts}
use Rattle.nv_words.specs.Spelling.{spell}
use Rattle.nv_room.specs.declared.view.View.{View}
use Rattle.nv_room.specs.declared.view.Span.{Span}
use Rattle.nv_room.specs.declared.room.Room.{Room}
use Rattle.nv_room.specs.declared.room.Reader.{Reader}
use Rattle.nv_room.specs.declared.room.Lead.{Lead}
use Rattle.nv_room.specs.Spans.{span, handed_on, LastHasEvent}
use Rattle.nv_room.specs.Room.{Has, MayHand}
use Rattle.nv_room.specs.Steps.{as_gone, as_leaving, as_lead}
use Rattle.nv_room.specs.Seats.{IsOfRoom, IsLeadOf, view, lead_view, station_of_lead, version_of_reader, version_of_lead, kernel_of, due_of, stations_of, hands_of, on_demand_of, IsFreshLead, IsFreshReader, AskedSoFar}
use Rattle.nv_threads.specs.Threads.{Proc, threads}
use Rattle.nv_threads.proofs.ThreadLaws.{thread_laws}
use Rattle.nv_replay.specs.Follow.{Follower, Judge}
use Rattle.nv_calls.specs.Hands.{has}
use Rattle.nv_replay.specs.Version.{Running, IsFresh, IsFollowing, IsLiveLeader}
use Rattle.nv_replay.specs.Account.{with_span}
use Rattle.nv_replay.proofs.Numbers.{eq_same}
use Rattle.nv_workers.specs.Ends.{ends_of, AreHandedOn, AsPlanned}
use Rattle.nv_workers.specs.Turns.{IsReaders, IsServing}
use Rattle.nv_workers.specs.Working.{HasEnded, FollowsOn, LeadsOn}
use Rattle.nv_workers.proofs.Keeping.{takes, reads_first, gives_up}
use Rattle.nv_workers.proofs.Spanned.{map_append}
use Rattle.nv_workers.proofs.Asked.{as_planned_more, planned_at}
use Rattle.nv_workers.proofs.Spelt.{same_spelt, long_as}
use Rattle.nv_workers.proofs.Reading.{bare, bare_reading}

no_length : (xs : List ℕ) → length xs ≡ 0 → xs ≡ []
no_length [] h = refl
no_length (x ∷ xs) h = cc

-- a number that a list has stands at some place of it
has_if : (k n : ℕ) (ks : List ℕ) (b : Bool) → (k == n) ≡ b → (b || has ks n) ≡ true → (has ks n ≡ true → Has ks n) → Has (k ∷ ks) n
has_if k n ks true e h ih = (0, ap (λ (z : ℕ). some z) (eq_same k n e))
has_if k n ks false e h ih = let r = ih h in (suc r.0, r.1)

pub has_at : (ks : List ℕ) (n : ℕ) → has ks n ≡ true → Has ks n
has_at [] n h = cc
has_at (k ∷ ks) n h = has_if k n ks (k == n) refl h (has_at ks n)

-- the last of these spans has ended with a hand-over
handed_last : (xs : List Span) (x : Span) → handed_on (xs ++ x ∷ []) ≡ xs ++ (record x { handed = true }) ∷ []
handed_last [] x = refl
handed_last (y ∷ []) x = refl
handed_last (y ∷ z ∷ xs) x = ap (λ l. y ∷ l) (handed_last (z ∷ xs) x)

all_handed : (xs : List Span) (x : Span) → AreHandedOn xs → x.handed ≡ true → AreHandedOn (xs ++ x ∷ [])
all_handed [] x a h = (h, tt)
all_handed (y ∷ xs) x a h = (a.0, all_handed xs x a.1 h)

module _ {judges : ℕ → Judge} {K : Type 0} {G : Ghosts K} {room : Room K} {most : ℕ} {p : Proc} {v : Running Proc} {r : Reader K G} {buf : List ℕ}
    (f : FollowsOn judges room most p v r false buf) where
  pub follows_now : IsFollowing v
  follows_now = let b = bare_reading f in record { on = b.on; idle = b.idle }

  -- it has led no more parts than a version may
  pub few_led : length v.led ≤ 8
  few_led = let b = bare_reading f in let q = b.few in omega arith

  pub takes_lead : (l : Lead K G) (new : Running Proc) → IsLeadOf room l
      → version_of_lead l ≡ version_of_reader r → lead_view l ≡ as_lead (lead_view l).asked (view r) → due_of l ≡ false → AskedSoFar room l
      → map spell (G.log (kernel_of l)) ≡ (view r).seen → IsLawful (G.log (kernel_of l))
      → new ≡ with_span v v.at.seen → LeadsOn judges room most p new false l None
  takes_lead l new of version w due asks spelt law k =
      let b = bare f in
      let log : List Entry = G.log (kernel_of l) in
      let before : List Span = (view r).spans in
      let same : b.log ≡ log = same_spelt b.log log b.lawful law (b.spelt ∙ sym spelt) in
      let S : ℕ → List Entry → List (ℕ × ℕ) → Type 0 = λ i x led. FromAny x (λ start. IsServing threads judges start most (hands_of room) false i p (with_span v (length x)) led (length x) x) in
      let s : S (version_of_reader r) b.log v.led = λ start legal. takes threads thread_laws judges start most (hands_of room) (b.reading start legal) in
      let s1 : S (version_of_reader r) b.log (map ends_of before) = subst (λ (x : List (ℕ × ℕ)). S (version_of_reader r) b.log x) b.led s in
      let s2 : S (version_of_lead l) log (map ends_of before) = subst (λ (i : ℕ). S i log (map ends_of before)) (sym version)
      (subst (λ (x : List Entry). S (version_of_reader r) x (map ends_of before)) same s1) in
      let long : v.at.seen ≡ length log = (bare_reading f).seen ∙ ap (λ (x : List Entry). length x) same in
      let new' : with_span v (length log) ≡ new = sym (k ∙ ap (λ (n : ℕ). with_span v n) long) in
      let seen : (lead_view l).seen ≡ (view r).seen = ap (λ (x : View K). x.seen) w in
      let as_long : length (view r).seen ≡ length log = sym (ap (λ (x : List (List ℕ)). length x) spelt) ∙ long_as log in
      let at : (view r).station ≡ station_of_lead l = sym (ap (λ (x : View K). x.station) w) ∙ l.station_is in
      let who : (view r).version ≡ version_of_lead l = sym (ap (λ (x : View K). x.version) w) ∙ l.version_is in
      let spans : (lead_view l).spans ≡ before ++ span (view r).station (view r).version (length (view r).seen) (length (view r).seen) ∷ [] = ap (λ (x : View K). x.spans) w in
      record {
        of = of;
        none_due = due;
        none_wrote = no_length (lead_view l).wrote (l.wrote_is ∙ l.quiet due);
        before = before;
        from = length log;
        spelt = spelt ∙ sym seen;
        lawful = law;
        spans = spans ∙ (λ i. before ++ span (at i) (who i) (as_long i) (length (sym seen i)) ∷ []);
        handed_on = b.handed_on;
        as_planned = b.as_planned;
        may = λ e. cc;
        asks = asks;
        planned = λ e off. cc;
        serves = subst (λ (x : Running Proc). FromAny log (λ start. IsServing threads judges start most (hands_of room) false (version_of_lead l) p x (map ends_of before) (length log) log)) new' s2;
      }

module _ {judges : ℕ → Judge} {K : Type 0} {G : Ghosts K} {room : Room K} {most : ℕ} {p : Proc} {v : Running Proc} {l : Lead K G} (f : LeadsOn judges room most p v true l None) where
  abbrev log : List Entry
  log = G.log (kernel_of l)

  -- what holds from whatever start
  abbrev serving : IsServing threads judges (as_told log) most (hands_of room) true (version_of_lead l) p v (map ends_of f.before) f.from log
  serving = f.serves (as_told log) (legal_told log f.lawful)

  pub leads_now : IsLiveLeader v
  leads_now = record { on = serving.on; leading = serving.led_from.leading; none_asked = serving.none_asked }

  long_seen : length (lead_view l).seen ≡ length log
  long_seen = sym (ap (λ (x : List (List ℕ)). length x) f.spelt) ∙ long_as log

  -- a station is left
  pub may_now : MayHand (stations_of room) (hands_of room) (lead_view l).opened (length (lead_view l).seen)
  may_now = f.may refl

  -- it has published an event
  pub led_now : LastHasEvent (lead_view l).spans
  led_now = (
    f.before,
    span (station_of_lead l) (version_of_lead l) f.from (length (lead_view l).seen),
    f.spans,
    (let g = serving.goes.0 in omega (arith, g, long_seen)),
  )

  -- the version follows on from here
  pub gives_lead : (r : Reader K G) (new : Running Proc) (buf : List ℕ) → IsOfRoom room r → version_of_reader r ≡ version_of_lead l → (view r).seen ≡ (lead_view l).seen
      → (view r).read ≡ [] → (view r).spans ≡ handed_on (lead_view l).spans → new ≡ record v { leading = false } → FollowsOn judges room most p new r false buf
  gives_lead r new buf of version seen read spans k =
      let last : Span = span (station_of_lead l) (version_of_lead l) f.from (length (lead_view l).seen) in
      let all : (view r).spans ≡ f.before ++ (record last { handed = true }) ∷ [] = spans ∙ (ap handed_on f.spans ∙ handed_last f.before last) in
      let R : ℕ → Running Proc → Type 0 = λ i x. FromAny log (λ start. IsReaders threads judges start most (hands_of room) i p x log None) in
      let reading : R (version_of_lead l) (record v { leading = false }) = λ start legal.
      gives_up threads thread_laws judges start most (hands_of room) (f.serves start legal) in
      record {
        of = of;
        log = log;
        next = None;
        spelt = f.spelt ∙ sym seen;
        lawful = subst IsLawful (sym (append-nil log)) f.lawful;
        holds = read;
        led = ap (λ (x : Running Proc). x.led) k ∙ (serving.led_from.span ∙ (ap (λ (n : ℕ). map ends_of f.before ++ (f.from, n) ∷ []) (sym long_seen)
            ∙ (sym (map_append ends_of f.before ((record last { handed = true }) ∷ [])) ∙ ap (map ends_of) (sym all))));
        handed_on = subst AreHandedOn (sym all) (all_handed f.before (record last { handed = true }) f.handed_on refl);
        as_planned = subst (AsPlanned (on_demand_of room) (hands_of room)) (sym all) (as_planned_more (on_demand_of room) (hands_of room) f.before (record last { handed = true })
            f.as_planned (λ off. planned_at (hands_of room) (record last { handed = true }) (f.planned refl off)));
        reading = subst (λ (i : ℕ). R i new) (sym version) (subst (λ (x : Running Proc). R (version_of_lead l) x) (sym k) reading);
      }

-- the seat of a version that has ended has left, under the same number
module _ {judges : ℕ → Judge} {T : Type 0} {most : ℕ} {hands : List ℕ} {on_demand : Bool} {i j : ℕ} {p : Proc} {v : Running Proc} {w w2 : View T}
    (h : HasEnded judges most hands on_demand i p v w) where
  -- of a reader
  pub left_ended : j ≡ i → w2 ≡ as_gone w → HasEnded judges most hands on_demand j p v w2
  left_ended same is =
      let gone : HasEnded judges most hands on_demand i p v (as_gone w) = record { log = h.log; spelt = h.spelt; lawful = h.lawful; count = h.count; led = h.led; as_planned = h.as_planned; stays = h.stays; done = h.done } in
      subst (λ (k : ℕ). HasEnded judges most hands on_demand k p v w2) (sym same) (subst (λ (x : View T). HasEnded judges most hands on_demand i p v x) (sym is) gone)

  -- of a leader
  pub given_ended : j ≡ i → (word : ℕ) → w2 ≡ as_gone (as_leaving w word) → HasEnded judges most hands on_demand j p v w2
  given_ended same word is =
      let gone : HasEnded judges most hands on_demand i p v (as_gone (as_leaving w word)) = record { log = h.log; spelt = h.spelt; lawful = h.lawful; count = h.count; led = h.led; as_planned = h.as_planned; stays = h.stays; done = h.done } in
      subst (λ (k : ℕ). HasEnded judges most hands on_demand k p v w2) (sym same) (subst (λ (x : View T). HasEnded judges most hands on_demand i p v x) (sym is) gone)

-- Workers as they are made

module _ (judges : ℕ → Judge) where
  reads_none : (most : ℕ) (hands : List ℕ) (v : Running Proc) (i : ℕ) → length hands ≤ 8 → IsFresh threads i v → FromAny [] (λ start. IsReaders threads judges start most hands i v.at.process v [] None)
  reads_none most hands v i short f = λ start legal. reads_first threads thread_laws judges start most hands i v.at.process v short f.index (record { live = f.started.live; on = f.started.on }) f.at f.not_led f.idle f.none_asked

  module _ {K : Type 0} {G : Ghosts K} (room : Room K) (most : ℕ) (v : Running Proc) where
    pub fresh_follows : (i : ℕ) (r : Reader K G) (buf : List ℕ) → IsFresh threads i v → IsFreshReader room i r → FollowsOn judges room most v.at.process v r false buf
    fresh_follows i r buf f n = record {
      of = n.0;
      log = [];
      next = None;
      spelt = sym (ap (λ (x : View K). x.seen) n.3);
      lawful = λ j e h. cc;
      holds = ap (λ (x : View K). x.read) n.3;
      led = f.not_led ∙ sym (ap (λ (x : View K). map ends_of x.spans) n.3);
      handed_on = subst (λ (x : View K). AreHandedOn x.spans) (sym n.3) tt;
      as_planned = subst (λ (x : View K). AsPlanned (on_demand_of room) (hands_of room) x.spans) (sym n.3) (λ off. refl);
      reading = subst (λ (j : ℕ). FromAny [] (λ start. IsReaders threads judges start most (hands_of room) j v.at.process v [] None)) (sym n.2) (reads_none most (hands_of room) v i room.few_hands f);
    }

    pub fresh_leads : (l : Lead K G) (new : Running Proc) → IsFresh threads 0 v → IsFreshLead room l → G.log (kernel_of l) ≡ []
        → new ≡ with_span v v.at.seen → LeadsOn judges room most v.at.process new false l None
    fresh_leads l new f n log k =
        let S : ℕ → List Entry → List (ℕ × ℕ) → Running Proc → Type 0 = λ i x led w. FromAny x (λ start. IsServing threads judges start most (hands_of room) false i v.at.process w led 0 x) in
        let first = reads_none most (hands_of room) v 0 room.few_hands f in
        let s : S 0 [] v.led (with_span v 0) = λ start legal. takes threads thread_laws judges start most (hands_of room) (first start legal) in
        let none : v.at.seen ≡ 0 = ap (λ (x : Follower Proc). x.seen) f.at in
        let new' : with_span v 0 ≡ new = sym (k ∙ ap (λ (m : ℕ). with_span v m) none) in
        let s' : S 0 [] [] new = subst (λ (w : Running Proc). S 0 [] [] w) new' (subst (λ (x : List (ℕ × ℕ)). S 0 [] x (with_span v 0)) f.not_led s) in
        record {
          of = n.of;
          none_due = n.due;
          none_wrote = n.wrote;
          before = [];
          from = 0;
          spelt = ap (map spell) log ∙ sym n.seen;
          lawful = subst IsLawful (sym log) (λ j e h. cc);
          spans = n.spans ∙ (λ i. span (sym n.station i) (sym n.version i) 0 (length (sym n.seen i)) ∷ []);
          handed_on = tt;
          as_planned = λ off. refl;
          may = λ e. cc;
          asks = n.asked;
          planned = λ e off. cc;
          serves = subst (λ (i : ℕ). S i (G.log (kernel_of l)) [] new) (sym n.version) (subst (λ (x : List Entry). S 0 x [] new) (sym log) s');
        }
