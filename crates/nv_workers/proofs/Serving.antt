-- A leader's version with its lead.
use Rattle.std.proofs.Common.{◌≡◌, ◌∙◌, sym, ap, subst, ℕ, ◌+◌, ◌<◌, ◌≤◌, ◌⊎◌, inl, inr, refl, cond, nat_le, nat_lt, lt_of_not-le, Bool, true, false, List, [], ◌∷◌, ◌++◌, map, length, Option, Some, None, arith, length-append, append_assoc}
use Rattle.std.proofs.lemmas.List.{map-append}
use Rattle.std.proofs.lemmas.Bool.Decides.{nat_tests}
use mathlib.Core.Logic.{dite}
use native.Mathlib.Decide.{dec_le}
use Rattle.nv_calls.specs.Calls.{Entry}
use Rattle.nv_calls.specs.Logs.{IsLawful, IsLegal, Start, served}
use Rattle.nv_calls.specs.Learning.{FromAny}
use Rattle.nv_calls.proofs.LearningLaws.{as_told, legal_told, legal_front, legal_last}
use Rattle.nv_calls.specs.declared.kernel.SyscallKernel.{Ghosts}
use Rattle.nv_words.specs.Spelling.{spell}
use Rattle.nv_room.specs.declared.view.View.{View}
use Rattle.nv_room.specs.declared.view.Span.{Span}
use Rattle.nv_room.specs.declared.room.Room.{Room}
use Rattle.nv_room.specs.declared.room.Lead.{Lead}
use Rattle.nv_room.specs.Spans.{span, spans_grown}
use Rattle.nv_room.specs.Planned.{below}
use Rattle.nv_room.specs.Room.{MayHand, Became}
use Rattle.nv_room.proofs.Askings.{became_on, asked_on}
use Rattle.nv_room.specs.Seats.{IsLeadOf, SameLead, lead_view, station_of_lead, version_of_lead, kernel_of, due_of, stations_of, versions_of, hands_of, on_demand_of, origin, AskedSoFar}
use Rattle.nv_threads.specs.Threads.{Proc, threads}
use Rattle.nv_threads.proofs.ThreadLaws.{thread_laws}
use Rattle.nv_replay.specs.declared.fate.Fate.TheVariants.{Memory}
use Rattle.nv_replay.specs.Follow.{Judge}
use Rattle.nv_calls.specs.Hands.{has, with_hand}
use Rattle.nv_replay.specs.Hands.{count_above}
use Rattle.nv_replay.specs.Sequence.{is_going}
use Rattle.nv_replay.specs.Version.{Running, asking_next, became_event}
use Rattle.nv_replay.proofs.Turning.{Waits as IsWaiting, waits}
use Rattle.nv_workers.specs.Ends.{ends_of, AreHandedOn, AsPlanned, HasLedFrom}
use Rattle.nv_workers.specs.Turns.{IsServing, IsAsking}
use Rattle.nv_workers.specs.Working.{Serves, HasEnded, LeadsOn, asked_by}
use Rattle.nv_workers.specs.Publishing.{event_of, IsPublished}
use Rattle.nv_workers.specs.declared.follows.Next.{Next}
use Rattle.nv_workers.specs.declared.follows.Next.TheVariants.{Moved, Ahead, Waits, Leads, Hands, Leaves, Left}
use Rattle.nv_workers.specs.inner.Leads.{AfterLead, HasCome, HasDropped, HasPublished, IsLate, HasSpare, IsNext, gives_up}
use Rattle.nv_workers.proofs.Spelt.{long_as}
use Rattle.nv_workers.proofs.Spanned.{map_append}
use Rattle.nv_workers.proofs.Keeping.{asking_on, leading, drops, refuses, publishes, serves_on, serves_to, planned_few}
use Rattle.nv_workers.proofs.Moving.{has_at}
use Rattle.nv_workers.proofs.Asked.{as_planned_more}
use Rattle.nv_workers.proofs.LettingGo.{lead_kept}
use Rattle.std.specs.Prelude.{not}

-- what was published is seen
pub grew_lead : {K : Type 0} {G : Ghosts K} (l l2 l3 l4 : Lead K G) (words : List ℕ) → (lead_view l2).seen ≡ (lead_view l).seen → lead_view l3 ≡ lead_view l2
    → (lead_view l4).seen ≡ (lead_view l3).seen ++ words ∷ [] → length (lead_view l).seen < length (lead_view l4).seen
grew_lead {K} l l2 l3 l4 words a b e =
    let same : (lead_view l3).seen ≡ (lead_view l).seen = ap (λ (x : View K). x.seen) b ∙ a in
    omega (arith, length-append (lead_view l3).seen (words ∷ []), ap (λ (x : List (List ℕ)). length x) e, ap (λ (x : List (List ℕ)). length x) same)

-- what comes next where an event was published
pub published_next : {T : Type 0} (w w2 : View T) (next : Next) → length w.seen < length w2.seen → HasPublished w w2 next
published_next w w2 Moved l = l
published_next w w2 Ahead l = tt
published_next w w2 Waits l = tt
published_next w w2 Leads l = tt
published_next w w2 Hands l = l
published_next w w2 Leaves l = tt
published_next w w2 Left l = tt

pub late_next : {K : Type 0} {G : Ghosts K} (planned : List ℕ) (room : Room K) (old new : Lead K G) (v : Running Proc) (next : Next) → IsNext planned room v new next → IsLate room old new next
late_next planned room old new v Moved q = tt
late_next planned room old new v Ahead q = absurd q
late_next planned room old new v Waits q = absurd q
late_next planned room old new v Leads q = absurd q
late_next planned room old new v Hands q = tt
late_next planned room old new v Leaves q = tt
late_next planned room old new v Left q = absurd q

above_or_below : (k n : ℕ) → cond (nat_le k n) 0 1 + cond (nat_lt k (n + 1)) 1 0 ≡ 1
above_or_below k n = dite (dec_le k n)
    (λ le. let a : nat_le k n ≡ true = grind (arith, nat_tests) in let b : nat_lt k (n + 1) ≡ true = grind (arith, nat_tests) in rw (a, b) refl)
    (λ gt. let more : n < k = lt_of_not-le gt in let a : nat_le k n ≡ false = grind (arith, nat_tests) in let b : nat_lt k (n + 1) ≡ false = grind (arith, nat_tests) in rw (a, b) refl)

-- each of these numbers is above n, or below the next number
count_below : (ks : List ℕ) (n : ℕ) → count_above ks n + below ks (n + 1) ≡ length ks
count_below [] n = refl
count_below (k ∷ ks) n = omega (arith, above_or_below k n, count_below ks n)

-- the last of these spans has one event more
pub grown_last : (xs : List Span) (s v a b : ℕ) → spans_grown (xs ++ span s v a b ∷ []) ≡ xs ++ span s v a (b + 1) ∷ []
grown_last [] s v a b = refl
grown_last (x ∷ []) s v a b = refl
grown_last (x ∷ y ∷ xs) s v a b = ap (λ l. x ∷ l) (grown_last (y ∷ xs) s v a b)

-- a leader with its fate
ended_lead : {judges : ℕ → Judge} {T : Type 0} {most : ℕ} {hands : List ℕ} {on_demand : Bool} {i s : ℕ} {p : Proc} {v : Running Proc} {w : View T} (u : ℕ) (before : List Span) (from : ℕ) (log : List Entry)
    → map spell log ≡ w.seen → IsLawful log → w.spans ≡ before ++ span s u from (length w.seen) ∷ [] → w.station ≡ s → AreHandedOn before → AsPlanned on_demand hands before
    → FromAny log (λ start. HasLedFrom threads judges start most hands i p v (map ends_of before) from log) → is_going v.at.fate ≡ false → HasEnded judges most hands on_demand i p v w
ended_lead {judges = judges} {most = most} {hands = hands} {on_demand = on_demand} {s = s} {v = v} {w = w} u before from log sp law spans at on unasked leads e =
    let led = leads (as_told log) (legal_told log law) in
    let long : length w.seen ≡ length log = sym (ap (λ (x : List (List ℕ)). length x) sp) ∙ long_as log in
    let told : v.led ≡ map ends_of w.spans = led.span ∙ (ap (λ (n : ℕ). map ends_of before ++ (from, n) ∷ []) (sym long)
    ∙ (sym (map_append ends_of before (span s u from (length w.seen) ∷ [])) ∙ ap (map ends_of) (sym spans))) in
    record {
      log = log;
      spelt = sp;
      lawful = law;
      count = led.seen ∙ sym long;
      led = told;
      as_planned = subst (AsPlanned on_demand hands) (sym spans) (as_planned_more on_demand hands before (span s u from (length w.seen)) unasked (λ off. refl));
      stays = λ off. lead_kept threads judges (as_told log) most hands led;
      done = λ start legal. record {
        ended = e;
        count = led.seen;
        spans = told;
        told = inr (record {
          prefix = before;
          last = span s u from (length w.seen);
          spans = spans;
          handed_on = on;
          kept = refl;
          station = sym at;
          led = leads start legal;
        });
      };
    }

-- what is asked for stands behind what was
asked_behind : (b : Bool) (planned : List ℕ) (n : ℕ) (before lengths : List ℕ) → asked_by b planned n (before ++ lengths) ≡ before ++ asked_by b planned n lengths
asked_behind false planned n before lengths = refl
asked_behind true planned n before lengths = with_behind (not (has planned n)) where
  with_behind : (c : Bool) → with_hand c n (before ++ lengths) ≡ before ++ with_hand c n lengths
  with_behind true = append_assoc before lengths (n ∷ [])
  with_behind false = refl

of_same : {K : Type 0} {G : Ghosts K} (room : Room K) (l l2 : Lead K G) → IsLeadOf room l → SameLead l l2 → lead_view l2 ≡ lead_view l → IsLeadOf room l2
of_same {K} room l l2 of same w = (
  same.0 ∙ of.0,
  subst (λ (n : ℕ). n < stations_of room) (sym same.2) of.1,
  ap (λ (x : View K). x.places) w ∙ of.2,
  ap (λ (x : View K). length x.floors) w ∙ of.3,
  ap (λ (x : View K). x.start) w ∙ of.4,
  subst (λ (x : View K). x.opened ≤ stations_of room) (sym w) of.5,
  subst (λ (x : View K). x.version < versions_of room) (sym w) of.6,
)

serves_fate : (judges : ℕ → Judge) (p : Proc) (v : Running Proc) (i : ℕ) (start : Start) (most : ℕ) (hands : List ℕ) (over : Bool) (led : List (ℕ × ℕ)) (from : ℕ) (log : List Entry)
    (asked : Option ℕ) → Serves judges p v i start most hands over led from log asked → v.at.fate ≡ None
serves_fate judges p v i start most hands over led from log None s = s.on
serves_fate judges p v i start most hands over led from log (Some t) s = asking_on threads thread_laws judges start most hands s.0 s.1

module _ {judges : ℕ → Judge} {K : Type 0} {G : Ghosts K} {room : Room K} {most : ℕ} {p : Proc} {v : Running Proc} {over : Bool} {l : Lead K G} {asked : Option ℕ}
    (f : LeadsOn judges room most p v over l asked) where
  -- a version that leads on has no fate
  pub leads_fate : v.at.fate ≡ None
  leads_fate =
      let log = G.log (kernel_of l) in
      serves_fate judges p v (version_of_lead l) (as_told log) most (hands_of room) over (map ends_of f.before) f.from log asked (f.serves (as_told log) (legal_told log f.lawful))

  pub with_asked : {asked2 : Option ℕ} → asked ≡ asked2 → LeadsOn judges room most p v over l asked2
  with_asked e = subst (λ (o : Option ℕ). LeadsOn judges room most p v over l o) e f

  moved_may : (l2 : Lead K G) → SameLead l l2 → (lead_view l2).seen ≡ (lead_view l).seen → MayHand (stations_of room) (hands_of room) (lead_view l).opened (length (lead_view l).seen)
      → MayHand (stations_of room) (hands_of room) (lead_view l2).opened (length (lead_view l2).seen)
  moved_may l2 same seen m =
      subst (λ (n : ℕ). MayHand (stations_of room) (hands_of room) n (length (lead_view l2).seen)) (l.opened_is ∙ (sym same.4 ∙ sym l2.opened_is))
      (subst (λ (x : List (List ℕ)). MayHand (stations_of room) (hands_of room) (lead_view l).opened (length x)) (sym seen) m)

  -- looks and reserves leave what counts
  moved_lead : (l2 : Lead K G) → IsLeadOf room l2 → SameLead l l2 → due_of l2 ≡ due_of l → G.log (kernel_of l2) ≡ G.log (kernel_of l)
      → G.start (kernel_of l2) ≡ G.start (kernel_of l) → ((lengths : List ℕ) → G.handed (kernel_of l) lengths → G.handed (kernel_of l2) lengths) → (lead_view l2).seen ≡ (lead_view l).seen
      → (lead_view l2).wrote ≡ (lead_view l).wrote → (lead_view l2).spans ≡ (lead_view l).spans → LeadsOn judges room most p v over l2 asked
  moved_lead l2 of same due log start handed seen wrote spans = record {
    of = of;
    none_due = due ∙ f.none_due;
    none_wrote = wrote ∙ f.none_wrote;
    before = f.before;
    from = f.from;
    spelt = ap (map spell) log ∙ (f.spelt ∙ sym seen);
    lawful = subst IsLawful (sym log) f.lawful;
    spans = spans ∙ (f.spans ∙ (λ i. f.before ++ span (sym same.2 i) (sym same.3 i) f.from (length (sym seen i)) ∷ []));
    handed_on = f.handed_on;
    as_planned = f.as_planned;
    may = λ e. moved_may l2 same seen (f.may e);
    asks = subst (λ (xs : List ℕ). Became G.start G.handed (origin room) (kernel_of l2) xs) (λ i. asked_by over (hands_of room) (length (sym seen i)) (sym same.5 i)) (became_on G.start G.handed (origin room) (kernel_of l) (kernel_of l2) _ start handed f.asks);
    planned = λ e off. subst (λ (x : List (List ℕ)). has (hands_of room) (length x) ≡ true) (sym seen) (f.planned e off);
    serves = (let S : ℕ → List Entry → Type 0 = λ s x. FromAny x (λ start. Serves judges p v s start most (hands_of room) over (map ends_of f.before) f.from x asked) in
        subst (λ (s : ℕ). S s (G.log (kernel_of l2))) (sym same.3) (subst (λ (x : List Entry). S (version_of_lead l) x) (sym log) f.serves));
  }

  pub placed_lead : (l2 : Lead K G) → IsLeadOf room l2 → SameLead l l2 → due_of l2 ≡ due_of l → kernel_of l2 ≡ kernel_of l → (lead_view l2).seen ≡ (lead_view l).seen
      → (lead_view l2).wrote ≡ (lead_view l).wrote → (lead_view l2).spans ≡ (lead_view l).spans → LeadsOn judges room most p v over l2 asked
  placed_lead l2 of same due kernel seen wrote spans = moved_lead l2 of same due (ap G.log kernel) (ap G.start kernel) (λ lengths h. subst (λ (k : K). G.handed k lengths) (sym kernel) h) seen wrote spans

  pub reserved_lead : (l2 : Lead K G) → SameLead l l2 → lead_view l2 ≡ lead_view l → due_of l2 ≡ due_of l → G.log (kernel_of l2) ≡ G.log (kernel_of l)
      → G.start (kernel_of l2) ≡ G.start (kernel_of l) → ((lengths : List ℕ) → G.handed (kernel_of l) lengths → G.handed (kernel_of l2) lengths) → LeadsOn judges room most p v over l2 asked
  reserved_lead l2 same w due log start handed = moved_lead l2 (of_same room l l2 f.of same w) same due log start handed
      (ap (λ (x : View K). x.seen) w) (ap (λ (x : View K). x.wrote) w) (ap (λ (x : View K). x.spans) w)

-- no call is asked
module _ {judges : ℕ → Judge} {K : Type 0} {G : Ghosts K} {room : Room K} {most : ℕ} {p : Proc} {v : Running Proc} {l : Lead K G}
    (f : LeadsOn judges room most p v false l None) (new : Running Proc) (k : new ≡ asking_next threads most v) where
  pub drops_lead : new.asked ≡ None → is_going new.at.fate ≡ false → HasEnded judges most (hands_of room) (on_demand_of room) (version_of_lead l) p new (lead_view l)
  drops_lead n e = ended_lead (version_of_lead l) f.before f.from (G.log (kernel_of l)) f.spelt f.lawful f.spans l.station_is f.handed_on f.as_planned
      (λ start legal. drops threads thread_laws judges start most (hands_of room) (f.serves start legal) k n e) e

  pub asks_lead : {t : ℕ} → new.asked ≡ Some t → LeadsOn judges room most p new false l (Some t)
  asks_lead a = record {
    of = f.of;
    none_due = f.none_due;
    none_wrote = f.none_wrote;
    before = f.before;
    from = f.from;
    spelt = f.spelt;
    lawful = f.lawful;
    spans = f.spans;
    handed_on = f.handed_on;
    as_planned = f.as_planned;
    may = λ e. cc;
    asks = f.asks;
    planned = λ e off. cc;
    serves = λ start legal. (record { before = v; serving = f.serves start legal; asking = k }, a);
  }

-- what the version came to
module _ {judges : ℕ → Judge} {K : Type 0} {G : Ghosts K} {room : Room K} {most : ℕ} {p : Proc} {v : Running Proc} {l : Lead K G} {asked : Option ℕ}
    (f : LeadsOn judges room most p v false l asked) (v2 : Running Proc) where
  pub come_lead : {t : ℕ} → HasCome most v v2 asked t → LeadsOn judges room most p v2 false l (Some t)
  come_lead {t} (inl there) = subst (λ (r : Running Proc). LeadsOn judges room most p r false l (Some t)) (sym there.1) (with_asked f there.0)
  come_lead {t} (inr came) = asks_lead (with_asked f came.0) v2 came.1 came.2

  pub dropped_lead : HasDropped most v v2 asked → HasEnded judges most (hands_of room) (on_demand_of room) (version_of_lead l) p v2 (lead_view l)
  dropped_lead d = drops_lead (with_asked f d.0) v2 d.1 d.2 d.3

-- a call of thread t is asked
module _ {judges : ℕ → Judge} {K : Type 0} {G : Ghosts K} {room : Room K} {most : ℕ} {p : Proc} {v : Running Proc} {l : Lead K G} {t : ℕ}
    (f : LeadsOn judges room most p v false l (Some t)) where
  abbrev log : List Entry
  log = G.log (kernel_of l)

  abbrev hands : List ℕ
  hands = hands_of room

  abbrev on_demand : Bool
  on_demand = on_demand_of room

  abbrev led : List (ℕ × ℕ)
  led = map ends_of f.before

  -- what holds from whatever start
  abbrev told : Start
  told = as_told log

  abbrev serving : Serves judges p v (version_of_lead l) told most hands false led f.from log (Some t)
  serving = f.serves told (legal_told log f.lawful)

  abbrev asking : IsAsking threads judges told most hands (version_of_lead l) p v led f.from log
  asking = serving.0

  pub asked_now : v.asked ≡ Some t
  asked_now = serving.1

  -- what is known of a call that is asked
  pub waits_lead : IsWaiting threads thread_laws told most asking.before log v t
  waits_lead = waits threads thread_laws told most asking.before log v t (leading threads thread_laws judges told most hands asking.serving)
      asking.serving.led_from.seen asking.serving.led_from.in_step asking.asking asked_now

  -- there was no memory for it
  pub refused_lead : (new : Running Proc) → new ≡ record v { at = record v.at { fate = Some Memory } } → HasEnded judges most hands on_demand (version_of_lead l) p new (lead_view l)
  refused_lead new k = ended_lead (version_of_lead l) f.before f.from log f.spelt f.lawful f.spans l.station_is f.handed_on f.as_planned
      (λ start legal. refuses threads thread_laws judges start most hands (f.serves start legal).0 asked_now k) (ap (λ (x : Running Proc). is_going x.at.fate) k)

  -- it was served and published
  module _ {new : Running Proc} {l2 : Lead K G} (q : IsPublished room v l t new l2) where
    abbrev event : Entry
    event = event_of v l t

    abbrev log2 : List Entry
    log2 = G.log (kernel_of l2)

    -- the same event as from any start of which the longer log is legal
    led_now : FromAny log2 (λ start. HasLedFrom threads judges start most hands (version_of_lead l) p new led f.from log2)
    led_now = λ start legal.
        let whole : IsLegal start (log ++ event ∷ []) = subst (IsLegal start) q.log legal in
        let s : event ≡ served start log (threads.call v.at.process t) = legal_last start log event whole in
        let all : log2 ≡ log ++ served start log (threads.call v.at.process t) ∷ [] = q.log ∙ ap (λ (x : Entry). log ++ x ∷ []) s in
        let now : new ≡ became_event threads (served start log (threads.call v.at.process t)) v = q.version ∙ ap (λ (x : Entry). became_event threads x v) s in
        let a = f.serves start (legal_front start log (event ∷ []) whole) in
        subst (λ (x : List Entry). HasLedFrom threads judges start most hands (version_of_lead l) p new led f.from x) (sym all)
        (publishes threads thread_laws judges start most hands a.0 asked_now now (subst IsLawful all q.lawful))

    pub spelt_now : map spell log2 ≡ (lead_view l2).seen
    spelt_now = ap (map spell) q.log ∙ (map-append spell log (event ∷ []) ∙ (ap (λ (x : List (List ℕ)). x ++ spell event ∷ []) f.spelt ∙ sym q.seen))

    long_now : length (lead_view l2).seen ≡ length (lead_view l).seen + 1
    long_now = ap (λ (x : List (List ℕ)). length x) q.seen ∙ length-append (lead_view l).seen (spell event ∷ [])

    spans_now : (lead_view l2).spans ≡ f.before ++ span (station_of_lead l2) (version_of_lead l2) f.from (length (lead_view l2).seen) ∷ []
    spans_now = q.spans ∙ (ap spans_grown f.spans ∙ (grown_last f.before (station_of_lead l) (version_of_lead l) f.from (length (lead_view l).seen)
        ∙ (λ j. f.before ++ span (sym q.same.2 j) (sym q.same.3 j) f.from (sym long_now j) ∷ [])))

    pub seen_now : new.at.seen ≡ length log2
    seen_now = (led_now (as_told log2) (legal_told log2 q.lawful)).seen

    -- it has served one call at least
    grew : f.from < length log2
    grew = let w = asking.serving.led_from.within in omega (arith, ap (λ (x : List Entry). length x) q.log, length-append log (event ∷ []))

    none_asked : new.asked ≡ None
    none_asked = ap (λ (x : Running Proc). x.asked) q.version

    ended_now : is_going new.at.fate ≡ false → HasEnded judges most hands on_demand (version_of_lead l2) p new (lead_view l2)
    ended_now e = subst (λ (i : ℕ). HasEnded judges most hands on_demand i p new (lead_view l2)) (sym q.same.3)
        (ended_lead (version_of_lead l2) f.before f.from log2 spelt_now q.lawful spans_now l2.station_is f.handed_on f.as_planned led_now e)

    leads_now : (over : Bool) → (over ≡ true → MayHand (stations_of room) hands (lead_view l2).opened (length (lead_view l2).seen))
        → Became G.start G.handed (origin room) (kernel_of l2) (asked_by over hands (length (lead_view l2).seen) (lead_view l2).asked)
        → (over ≡ true → on_demand ≡ false → has hands (length (lead_view l2).seen) ≡ true)
        → FromAny log2 (λ start. IsServing threads judges start most hands over (version_of_lead l) p new led f.from log2) → LeadsOn judges room most p new over l2 None
    leads_now over may asks planned sv = record {
      of = q.of;
      none_due = q.due;
      none_wrote = q.wrote;
      before = f.before;
      from = f.from;
      spelt = spelt_now;
      lawful = q.lawful;
      spans = spans_now;
      handed_on = f.handed_on;
      as_planned = f.as_planned;
      may = may;
      asks = asks;
      planned = planned;
      serves = subst (λ (i : ℕ). FromAny log2 (λ start. IsServing threads judges start most hands over i p new led f.from log2)) (sym q.same.3) sv;
    }

    long_log : length (lead_view l2).seen ≡ new.at.seen
    long_log = sym (ap (λ (x : List (List ℕ)). length x) spelt_now) ∙ (long_as log2 ∙ sym seen_now)

    parts_now : length new.led ≡ length led + 1
    parts_now = ap (λ (x : List (ℕ × ℕ)). length x) (led_now (as_told log2) (legal_told log2 q.lawful)).span ∙ length-append led ((f.from, length log2) ∷ [])

    -- a station is left
    may_now : (has hands new.at.seen ≡ true) ⊎ HasSpare hands room new l2 → MayHand (stations_of room) hands (lead_view l2).opened (length (lead_view l2).seen)
    may_now (inl h) = inl (has_at hands (length (lead_view l2).seen) (ap (has hands) long_log ∙ h))
    may_now (inr h) = inr (omega (arith, h.station, l2.opened_is, count_below hands (length (lead_view l2).seen), ap (count_above hands) long_log))

    -- where leaders don't hand over on demand, the length is planned
    planned_now : (has hands new.at.seen ≡ true) ⊎ HasSpare hands room new l2 → on_demand ≡ false → has hands (length (lead_view l2).seen) ≡ true
    planned_now (inl h) off = ap (has hands) long_log ∙ h
    planned_now (inr h) off = let both : true ≡ false = sym h.demand ∙ off in cc

    few_now : (start : Start) → IsLegal start log2 → (has hands new.at.seen ≡ true) ⊎ HasSpare hands room new l2 → length led + 1 + count_above hands (length log2) ≤ 8
    few_now start legal (inl h) = planned_few threads thread_laws judges start most hands (led_now start legal) grew (ap (has hands) (sym seen_now) ∙ h)
    few_now start legal (inr h) = omega (arith, h.part, parts_now, ap (count_above hands) seen_now)

    -- what comes next
    pub after_served : (next : Next) → IsNext hands room new l2 next → Became G.start G.handed (origin room) (kernel_of l2) (asked_by (gives_up next) hands (length (lead_view l2).seen) (lead_view l2).asked)
        → AfterLead judges room most p new l2 None next
    after_served Moved n asks = leads_now false (λ e. cc) asks (λ e off. cc)
        (λ start legal. serves_on threads thread_laws judges start most hands (led_now start legal) n.0 none_asked (ap (has hands) (sym seen_now) ∙ n.1))
    after_served Ahead n asks = absurd n
    after_served Waits n asks = absurd n
    after_served Leads n asks = absurd n
    after_served Hands n asks = (
      leads_now true (λ e. may_now n.1) asks (λ e. planned_now n.1) (λ start legal. serves_to threads thread_laws judges start most hands (led_now start legal) n.0 none_asked grew (few_now start legal n.1)),
      refl,
    )
    after_served Leaves n asks = (q.of, q.due, ended_now n, asks)
    after_served Left n asks = absurd n

-- the leader was asked what comes next
module _ {K : Type 0} {G : Ghosts K} (room : Room K) (v new : Running Proc) (l l2 l3 : Lead K G) (t : ℕ) (p : IsPublished room v l t new l2) (same : SameLead l2 l3) (w : lead_view l3 ≡ lead_view l2) (due : due_of l3 ≡ due_of l2)
    (as_log : G.log (kernel_of l3) ≡ G.log (kernel_of l2)) where
  pub published_then : IsPublished room v l t new l3
  published_then = record {
    of = of_same room l2 l3 p.of same w;
    same = (same.0 ∙ p.same.0, same.1 ∙ p.same.1, same.2 ∙ p.same.2, same.3 ∙ p.same.3, same.4 ∙ p.same.4, same.5 ∙ p.same.5);
    due = due ∙ p.due;
    wrote = ap (λ (x : View K). x.wrote) w ∙ p.wrote;
    log = as_log ∙ p.log;
    lawful = subst IsLawful (sym as_log) p.lawful;
    seen = ap (λ (x : View K). x.seen) w ∙ p.seen;
    spans = ap (λ (x : View K). x.spans) w ∙ p.spans;
    version = p.version;
  }

  -- and has asked the kernel by then
  pub asked_next : (b : Bool) → map spell (G.log (kernel_of l3)) ≡ (lead_view l3).seen → G.start (kernel_of l3) ≡ G.start (kernel_of l2)
      → ((lengths : List ℕ) → G.handed (kernel_of l2) lengths → G.handed (kernel_of l3) (asked_by b (hands_of room) (length (G.log (kernel_of l2))) lengths))
      → AskedSoFar room l2 → Became G.start G.handed (origin room) (kernel_of l3) (asked_by b (hands_of room) (length (lead_view l3).seen) (lead_view l3).asked)
  asked_next b spelt start handed asks =
      let long : length (G.log (kernel_of l2)) ≡ length (lead_view l3).seen = ap (λ (x : List Entry). length x) (sym as_log) ∙ sym (long_as (G.log (kernel_of l3))) ∙ ap (λ (x : List (List ℕ)). length x) spelt in (
        start ∙ asks.0,
        λ before h. subst (G.handed (kernel_of l3))
            (asked_behind b (hands_of room) (length (G.log (kernel_of l2))) before (lead_view l2).asked ∙ (λ i. before ++ asked_by b (hands_of room) (long i) (sym same.5 i)))
            (handed (before ++ (lead_view l2).asked) (asks.1 before h)),
      )
