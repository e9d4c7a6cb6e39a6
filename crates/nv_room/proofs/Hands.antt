-- The owner word and the kernel move together: a lead gives the kernel up, and a reader takes it.
use Rattle.std.proofs.Common.{◌≡◌, ℕ, ◌+◌, ◌/◌, ◌<◌, ◌≤◌, ◌≢◌, ◌⊎◌, List, [], ◌∷◌, ◌++◌, map, length, get_or, set}
use Rattle.std.proofs.Common.{sym, refl, ap, ◌∙◌, subst, inl, inr, ⊎_elim, le_refl, zero-le, lt_of_not-le, arith, length-append, length-set, get_or-set_other, get_or-set_same}
use mathlib.Core.Logic.{dite}
use mathlib.Core.Option.{none, some, some-injective, some-ne-none}
use mathlib.Core.Option as maybe
use native.Mathlib.Decide.{ℕ_discrete, dec_le}
use lib.ListN.{get_elem?}
use lib.Seq.{map-set}
use Rattle.std.specs.Prelude.{Option, Some}
use Rattle.std.specs.Option.{ForSome}
use Rattle.std.proofs.lemmas.Option.{same_Some}
use Rattle.std.specs.declared.snapshot.Snapshot.{Snapshot}
use Rattle.atomic_table.specs.Table.{State, Me, step, takes, gives, put_back, homes_after, Allows}
use Rattle.atomic_table.proofs.Lists.{set_here}
use Rattle.nv_calls.specs.Calls.{Entry}
use Rattle.nv_calls.specs.Logs.{IsLawful, live_after}
use Rattle.nv_words.specs.Spelling.{spell}
use Rattle.nv_words.proofs.SpellLaws.{prefix_length, prefix_same}
use Rattle.nv_room.specs.declared.view.View.{View}
use Rattle.nv_room.specs.declared.view.Layout.{Layout}
use Rattle.nv_room.specs.declared.view.Span.{Span}
use Rattle.nv_room.specs.declared.view.Role.{Role}
use Rattle.nv_room.specs.declared.view.Role.TheVariants.{Reader, Lead, Opening, Leaving, Moving, Gone, Spent}
use Rattle.nv_room.specs.Placement.{Log, word_place}
use Rattle.nv_room.specs.Owner.{GONE, Phase, held, free, closed, owner_word, owner_at}
use Rattle.nv_room.specs.Spans.{span, Tiles, of_station, IsLastStation}
use Rattle.nv_room.specs.Room.{cursor, Moment, as_of, Places, Doors, Turns, Led, Freed, InRole, Live, Leads, tag, NoClash, IsKernel, AtHome, Rule, Merge}
use Rattle.nv_room.specs.Steps.{as_leaving, gave_up, span_begun, as_lead, took}
use Rattle.nv_room.proofs.Lists.{at_below, at_end}
use Rattle.nv_room.proofs.Placement.{place_after, header_inside}
use Rattle.nv_room.proofs.Tiling.{tiles_more, rising_more, opened_more, last_apart, of_more_other, version_more_other, version_more_own}
use Rattle.nv_room.specs.Header.{head_index, cursor_index}
use Rattle.nv_room.proofs.Merges.{merge_turned, merge_phase, merged_quiet, second_kept}
use Rattle.nv_room.proofs.Stays.{Onward, Own, last_near, planned, past_on, now, moved}
use Rattle.nv_room.proofs.Seats.{holder_led, none_above, beside_lead, one_last, apart_role, apart_version, apart_from, former_apart, in_role, seated, open_near, none_ready}
use Rattle.nv_room.specs.Planned.{asked_in}
use Rattle.nv_room.proofs.Askings.{asked_unhanded}

-- A write of the owner word moves no cursor and no place.

module _ (n c : ℕ) (m : Moment) (new : ℕ) (pl : Places n c m) where
  wide : 0 < length m.words
  wide = subst (λ (z : ℕ). 0 < z) (sym pl.words_are_all) (header_inside n c 0 (omega arith))

  pub same_cursor : (s : ℕ) → cursor (set m.words 0 new) s ≡ cursor m.words s
  same_cursor s = get_or-set_other m.words 0 (cursor_index s) new 0 (λ e. omega arith)

  pub same_place : (log : Log) (i j : ℕ) → get_or (set m.words 0 new) (word_place n c log i j) 0 ≡ get_or m.words (word_place n c log i j) 0
  same_place log i j = get_or-set_other m.words 0 (word_place n c log i j) new 0 (place_after n c log i j 0 (omega arith))

  pub places_owned : (ph : Phase) (h : ℕ) (spans : List Span) (seating : List ℕ) (ready : ℕ) → new ≡ owner_word ph h (length seating) (length m.log) → h < length seating
      → ((s : ℕ) → s < h → GONE ≤ cursor m.words s) → (ph ≡ held → cursor m.words h ≤ length m.log)
      → ((s : ℕ) → s ≢ h → s < length seating → ((s ≢ m.holder) × (s < length m.seating)) ⊎ (length m.log ≤ cursor m.words s)) → Places n c (as_of (set m.words 0 new) m.log ph h spans seating ready)
  places_owned ph h spans seating ready is near low lead others = let few : length m.log ≤ 500000000 = pl.log_is_short in record {
    some_place = pl.some_place;
    few_stations = pl.few_stations;
    words_are_all = length-set m.words 0 new ∙ pl.words_are_all;
    owner_is = get_or-set_same m.words 0 new 0 wide ∙ is;
    holder_is_open = near;
    lower_are_gone = λ s l. subst (λ (z : ℕ). GONE ≤ z) (sym (same_cursor s)) (low s l);
    lead_counts = λ e. subst (λ (z : ℕ). z ≤ length m.log) (sym (same_cursor h)) (lead e);
    head_is_length = get_or-set_other m.words 0 head_index new 0 (λ e. omega arith) ∙ pl.head_is_length;
    cursor_is_count_or_gone = λ s l. subst (λ (z : ℕ). (z ≤ length m.log) ⊎ (z ≡ GONE)) (sym (same_cursor s)) (pl.cursor_is_count_or_gone s l);
    head_in_window = λ s ne l. subst (λ (z : ℕ). length m.log ≤ z + c) (sym (same_cursor s))
        (⊎_elim (λ (a : (s ≢ m.holder) × (s < length m.seating)). pl.head_in_window s a.0 a.1) (λ (g : length m.log ≤ cursor m.words s). omega arith) (others s ne l));
    unread_stands = λ i s e ne l le f j x g. let le' : cursor m.words s ≤ i = subst (λ (z : ℕ). z ≤ i) (same_cursor s) le in
        same_place m.log i j ∙ ⊎_elim (λ (a : (s ≢ m.holder) × (s < length m.seating)). pl.unread_stands i s e a.0 a.1 le' f j x g)
        (λ (a : length m.log ≤ cursor m.words s). let b = at_below m.log i e f in absurd (omega arith)) (others s ne l);
    event_is_whole = pl.event_is_whole;
    log_is_short = pl.log_is_short;
  }

  pub doors_owned : (ph : Phase) (h : ℕ) (spans : List Span) (versions : ℕ) (hands : List ℕ)
      → (m.ready ≡ length m.seating) ⊎ ((m.ready ≡ length m.seating + 1) × (ph ≡ held) × (cursor m.words (length m.seating) ≡ length m.log)) → Doors n versions hands m → Doors n versions hands
      (as_of (set m.words 0 new) m.log ph h spans m.seating m.ready)
  doors_owned ph h spans versions hands ready d = record {
    all = d.all;
    least = d.least;
    first = d.first;
    is_version = d.is_version;
    ready_is = ⊎_elim (λ (q : m.ready ≡ length m.seating). inl q) (λ (q : (m.ready ≡ length m.seating + 1) × (ph ≡ held) × (cursor m.words (length m.seating) ≡ length m.log)). inr (q.0, q.1, same_cursor (length m.seating) ∙ q.2)) ready;
    shut = λ s a b. same_cursor s ∙ d.shut s a b;
    planned = d.planned;
  }

module _ {K : Type 0} (hist : K → List Entry) (came : K → K → List ℕ → Type 0) (p : Layout K) where
  abbrev St : Type 0
  St = State (Option K) (View K)

  abbrev RuleOf : St → Type 0
  RuleOf = Rule hist came p

  abbrev M : Type 0
  M = Me (Option K) (View K)

  at_home : (t : K) (events : List Entry) (asked : List ℕ) (homes : List (maybe.Option (Option K))) (ph : Phase) → ph ≢ held → IsKernel hist came t events asked homes → AtHome hist came t events asked homes ph
  at_home t events asked homes held ne k = absurd (ne refl)
  at_home t events asked homes free ne k = k
  at_home t events asked homes closed ne k = k

  given_at : (ph : Phase) (st o n new : ℕ) → ph ≢ held → st < 16 → o ≤ 16 → new ≡ owner_word ph st o n → owner_at new ≡ n
  given_at held st o n new ne l b is = absurd (ne refl)
  given_at free st o n new ne l b is = let q : new / 2048 ≡ n = omega arith in q
  given_at closed st o n new ne l b is = let q : new / 2048 ≡ n = omega arith in q

  -- the lead gives the kernel up: the word is then free or closed
  pub gives_up : (slots id new : ℕ) (k : K) (ph : Phase) (me : M) → me.0.role ≡ Lead → me.1 ≡ (0, Some k) ∷ [] → me.0.wrote ≡ [] → map spell (hist k) ≡ me.0.seen → IsLawful (hist k) → ForSome me.0.start (λ s. came s.value k me.0.asked)
      → ph ≢ held → (ph ≡ closed → live_after (hist k) ≡ []) → new ≡ owner_word ph me.0.station me.0.opened (length me.0.seen) → Allows RuleOf slots id me 0 (λ _. new) (λ _. gave_up (step slots 0 new 0 none) me new)
  gives_up slots id new k ph me role carries quiet tells law began over ended is s r wide at _ = let v = me.0 in let n : ℕ = p.stations in let c : ℕ = p.places in let kn = r.each_seat id v at in let pl = r.common.places in
      let m : Moment = now hist came p s r in let ir = in_role hist came p s r id v at Lead role in let se = seated hist came p s r id v at Lead role tt in let st : ℕ = v.station in let ws' : List ℕ = set s.words 0 new in
      let m' : Moment = as_of ws' r.log ph r.holder r.spans r.seating r.ready in
      let fit = open_near hist came p s r in
      let few = pl.few_stations in
      let top = pl.holder_is_open in
      let all : v.seen ≡ r.log = prefix_same v.seen r.log ir.seen_is_log kn.seen_is_prefix in
      let cur : (z : ℕ) → cursor ws' z ≡ cursor s.words z = same_cursor n c m new pl in
      let stays : v.role ≢ Moving = λ e. (let q : Lead ≡ Moving = sym role ∙ e in (let z : ⊥ = cc in z)) in
      let out : get_elem? s.homes 0 ≡ some none = subst (AtHome hist came p.start.value r.common.events (asked_in (planned hist came p) r.spans) s.homes) ir.is_held r.common.home in
      let asks : v.asked ≡ asked_in (planned hist came p) r.spans = (r.merge.lead_tells id v at (subst Leads (sym role) tt)).1 in
      let home : IsKernel hist came p.start.value (hist k) (asked_in (planned hist came p) r.spans) (homes_after s.homes me.1 gives) =
      (k, ap (λ (cs : List (ℕ × Option K)). get_elem? (put_back s.homes cs) 0) carries ∙ set_here s.homes 0 (some (Some k)) (at_below s.homes 0 none out), refl, subst (came p.start.value k) asks (began p.start se.start_is)) in
      let places : Places n c m' =
      places_owned n c m new pl ph r.holder r.spans r.seating r.ready (is ∙ (λ i. owner_word ph (ir.is_holder i) (ir.opened_is i) (ir.seen_is_log i))) pl.holder_is_open pl.lower_are_gone (λ e. absurd (over e)) (λ z ne l. inl (ne, l)) in
      let led : Led m' = record {
        tile = r.common.led.tile;
        rise = r.common.led.rise;
        last_is_holders = r.common.led.last_is_holders;
        unled_is_free = λ e. absurd (let q : held ≡ free = sym ir.is_held ∙ r.common.led.unled_is_free e in cc);
      } in
      let on : Onward n m m' = record {
        near = fit;
        cursors = λ z l. subst (λ (q : ℕ). cursor s.words z ≤ q) (sym (cur z)) (le_refl (cursor s.words z));
        longer = λ i x e. e;
        more = le_refl (length r.log);
        wider = le_refl (length r.seating);
        seated = λ v z e. e;
        begun = λ i y e. inl (i, y, e, refl, refl);
        gone_spans = λ v z l g. refl;
        gone_last = λ v z l g. l;
      } in
      let doors : Doors n p.versions (planned hist came p) m' = doors_owned n c m new pl ph r.holder r.spans p.versions (planned hist came p) (inl ir.none_ready) r.common.doors in
      let turns : Turns p.stations p.versions (planned hist came p) ph (length r.log) r.spans r.seating = record { who_is = r.common.turns.who_is; opened = r.common.turns.opened; unhanded = λ e. absurd (over e); left_over = λ e. absurd (over e) } in
      let w : View K = as_leaving v new in
      let tags : NoClash (map tag (set s.views id w)) = subst NoClash (sym (map-set tag s.views id w)) (apart_role hist came p s r id v Leaving at (subst Live (sym role) tt)) in (
        w,
        gives,
        tt,
        moved hist came p s r 0 new id me.1 gives m' v w at tags (λ e. absurd (over e))
            record {
              events = hist k;
              log_is_spelt = tells ∙ all;
              log_is_lawful = law;
              closed_has_ended = ended;
              home = at_home p.start.value (hist k) (asked_in (planned hist came p) r.spans) (homes_after s.homes me.1 gives) ph over home;
              places = places;
              led = led;
              doors = doors;
              turns = turns;
            }
            on
            (λ j u ne f l. (
              beside_lead n c m m' u st ir.is_held ir.is_holder (λ e. apart_from hist came p s r j id u v f at ne (subst Live (sym role) tt) l (sym e)) refl (cur u.station) refl u.role
                  (r.each_seat j u f).in_role,
              refl,
              (λ z. z),
              λ t _. cur t,
            ))
            record {
              seen_is_prefix = kn.seen_is_prefix;
              read_begins_next = kn.read_begins_next;
              floor_at_most_cursor = λ z l. subst (λ (q : ℕ). get_or v.floors z 0 ≤ q) (sym (cur z)) (kn.floor_at_most_cursor z l);
              head_seen_at_most_head = kn.head_seen_at_most_head;
              owner_seen_at_most_head = (let q = given_at ph st v.opened (length v.seen) new over (let c = ir.is_holder in omega arith) (let c = ir.opened_is in omega arith) is in let d = ir.seen_is_log in omega arith);
              opened_at_most_open = kn.opened_at_most_open;
              in_role = record {
                not_held = over;
                is_holder = ir.is_holder;
                cursor_is_count = subst (λ (q : ℕ). q ≤ length r.log) (sym (cur st)) (subst (λ (q : ℕ). cursor s.words q ≤ length r.log) (sym ir.is_holder) (pl.lead_counts ir.is_held));
                wrote_nothing = quiet;
              };
              seated = λ l. record {
                start_is = se.start_is;
                places_are = se.places_are;
                opened_least = se.opened_least;
                last = se.last;
                spans_are = se.spans_are;
                unmade_is_new = λ t u. cur t ∙ se.unmade_is_new t u;
                others_are_gone = λ t has ne out. subst (λ (q : ℕ). GONE ≤ q) (sym (cur t)) (se.others_are_gone t has ne (λ e. absurd (stays e)));
              };
              ended_is_past = λ i x e. past_on n m m' x on (kn.ended_is_past i x e);
            }
            (merge_turned n c s.views id v w at s.words ws' r.log ph (merge_phase n c s.words r.log r.phase ph s.views r.merge (sym ((r.merge.lead_tells id v at (subst Leads (sym role) tt)).0) ∙ quiet))
            (second_kept n c 0 new s.words (omega arith)) (λ e. absurd e) (λ (e : Leaving ≡ Reader). cc) (λ _. r.merge.floors_wide id v at (subst Live (sym role) tt))),
        refl,
      )

  -- The lead's place is taken

  -- two readers cannot both have all stations below them gone
  one_note : (m : Moment) (pl : Places p.stations p.places m) (st st' : ℕ) (seen seen' : Log) → cursor m.words st ≡ length seen → cursor m.words st' ≡ length seen' → length seen ≤ length m.log → length seen' ≤ length m.log → st' ≢ st
      → ((z : ℕ) → z < st → GONE ≤ cursor m.words z) → ((z : ℕ) → z < st' → GONE ≤ cursor m.words z) → ⊥
  one_note m pl st st' seen seen' a b la lb ne low low' = let few : length m.log ≤ 500000000 = pl.log_is_short in
      dite (dec_le st st') (λ le. let g = low' st (omega arith) in omega arith) (λ gt. let lt : st' < st = lt_of_not-le gt in let g = low st' lt in omega arith)

  -- a station that holds nothing but counts is above none that has all lower ones gone
  none_counts : (m : Moment) (pl : Places p.stations p.places m) (st h : ℕ) → h ≡ m.holder → st ≢ h → cursor m.words st ≤ length m.log → cursor m.words h ≤ length m.log → ((z : ℕ) → z < st → GONE ≤ cursor m.words z) → ⊥
  none_counts m pl st h is ne mine count low = let few : length m.log ≤ 500000000 = pl.log_is_short in
      dite (dec_le st h) (λ le. let lt : st < m.holder = omega arith in let g = pl.lower_are_gone st lt in omega arith) (λ gt. let lt : h < st = lt_of_not-le gt in let g = low h lt in omega arith)

  -- when a reader takes the lead no other seat is touched
  own_at_take : (m m' : Moment) (pl : Places p.stations p.places m) (st : ℕ) (mine : Log) → m.phase ≡ free → cursor m.words st ≡ length mine → length mine ≤ length m.log → ((z : ℕ) → z < st → GONE ≤ cursor m.words z)
      → (u : View K) → u.station ≢ st → length u.seen ≤ length m.log → (u.role ≡ Moving → u.former ≢ st) → cursor m'.words u.station ≡ cursor m.words u.station
      → of_station u.station m'.spans ≡ of_station u.station m.spans → (r : Role) → u.role ≡ r → InRole p.stations p.places m u r → Own p.stations p.places m m' u r
  own_at_take m m' pl st mine is cur short low u ne near other same spans Reader e k = record {
    cursor_same = same;
    led_same = spans;
    freed_on = λ q f. absurd (one_note m pl st u.station mine u.seen cur k.cursor_is_length short near ne low f.lower_gone);
  }
  own_at_take m m' pl st mine is cur short low u ne near other same spans Lead e k = absurd (let a : held ≡ free = sym k.is_held ∙ is in cc)
  own_at_take m m' pl st mine is cur short low u ne near other same spans Opening e k = absurd (let a : held ≡ free = sym k.is_held ∙ is in cc)
  own_at_take m m' pl st mine is cur short low u ne near other same spans Leaving e k = absurd (none_counts m pl st u.station k.is_holder (λ q. ne (sym q)) (omega arith) k.cursor_is_count low)
  own_at_take m m' pl st mine is cur short low u ne near other same spans Moving e k = absurd (none_counts m pl st u.former k.is_holder (λ q. other e (sym q)) (omega arith) k.former_is_count low)
  own_at_take m m' pl st mine is cur short low u ne near other same spans Gone e k = tt
  own_at_take m m' pl st mine is cur short low u ne near other same spans Spent e k = tt

  home_free : (t : K) (events : List Entry) (asked : List ℕ) (homes : List (maybe.Option (Option K))) (ph : Phase) → ph ≡ free → AtHome hist came t events asked homes ph → IsKernel hist came t events asked homes
  home_free t events asked homes ph is k = subst (AtHome hist came t events asked homes) is k

  -- the spans after a station takes the lead at head
  led_more : (m : Moment) (ws : List ℕ) (st v n : ℕ) → Led m → n ≡ length m.log → of_station st m.spans ≡ [] → m.holder ≤ st → Led (as_of ws m.log held st (m.spans ++ span st v n n ∷ []) m.seating m.ready)
  led_more m ws st v n led is idle low =
      let below : (i : ℕ) (x : Span) → get_elem? m.spans i ≡ some x → x.station < st = λ i x e.
      let high = none_above m i x led e in let ne : m.holder ≢ st = λ same. absurd (some-ne-none x (sym e ∙ ap (λ (z : List Span). get_elem? z i) (holder_led m st led idle (sym same)))) in omega arith in
      record {
        tile = subst (λ (z : ℕ). Tiles 0 (m.spans ++ span st v n n ∷ []) z) is (tiles_more 0 n st v m.spans (subst (λ (z : ℕ). Tiles 0 m.spans z) (sym is) led.tile));
        rise = rising_more 0 st v n m.spans led.rise zero-le below;
        last_is_holders = λ xs x e. ap (λ (z : Span). z.station) (sym (last_apart m.spans xs (span st v n n) x e).1);
        unled_is_free = λ e. let q = length-append m.spans (span st v n n ∷ []) in let z = ap (λ (z : List Span). length z) e in absurd (omega arith);
      }

  turns_more : (m : Moment) (st v n : ℕ) → Turns p.stations p.versions (planned hist came p) m.phase (length m.log) m.spans m.seating → get_elem? m.seating st ≡ some v
      → Turns p.stations p.versions (planned hist came p) held (length m.log) (m.spans ++ span st v n n ∷ []) m.seating
  turns_more m st v n t has = record {
    who_is = λ i x e. ⊎_elim (λ (q : get_elem? m.spans i ≡ some x). t.who_is i x q)
        (λ (q : (i ≡ length m.spans) × (span st v n n ≡ x)). subst (λ (z : Span). get_elem? m.seating z.station ≡ some z.version) q.1 has) (at_end m.spans (span st v n n) x i e);
    opened = opened_more p.versions m.seating m.spans (span st v n n) refl t.opened;
    unhanded = λ h xs x e. ap (λ (z : Span). z.handed) (sym (last_apart m.spans xs (span st v n n) x e).1);
    left_over = λ h led. let e = ap (λ (z : Span). z.to) (last_apart m.spans led.0 (span st v n n) led.1 led.2).1 in let f = ap (λ (z : Span). z.from)
        (last_apart m.spans led.0 (span st v n n) led.1 led.2).1 in let g = led.3 in absurd (omega arith);
  }

  pub takes_lead : (slots id new : ℕ) (me : M) → me.0.role ≡ Reader → me.0.freed ≡ Some (length me.0.seen) → new ≡ owner_word held me.0.station me.0.opened (length me.0.seen)
      → Allows RuleOf slots id me 0 (λ _. new) (λ _. took hist came (step slots 0 new 0 none) me new)
  takes_lead slots id new me role noted is s r wide at _ = let v = me.0 in let n : ℕ = p.stations in let c : ℕ = p.places in let kn = r.each_seat id v at in let pl = r.common.places in
      let m : Moment = now hist came p s r in let ir = in_role hist came p s r id v at Reader role in let se = seated hist came p s r id v at Reader role tt in let st : ℕ = v.station in let ws' : List ℕ = set s.words 0 new in
      let note : Freed m st v.opened (length v.seen) = ir.freed_stays (length v.seen) noted in
      let len : ℕ = length r.log in
      let size : ℕ = length v.seen in
      let full : size ≡ len = note.at_head in
      let all : v.seen ≡ r.log = prefix_same v.seen r.log full kn.seen_is_prefix in
      let few : len ≤ 500000000 = pl.log_is_short in let mine : cursor s.words st ≡ size = ir.cursor_is_length in
      let low : r.holder ≤ st = dite (dec_le r.holder st) (λ le. le) (λ gt. let lt : st < r.holder = lt_of_not-le gt in let g = pl.lower_are_gone st lt in absurd (omega arith)) in
      let asked : List ℕ = asked_in (planned hist came p) r.spans in
      let home = home_free p.start.value r.common.events asked s.homes r.phase note.is_free r.common.home in let k : K = home.0 in
      let new_span : Span = span_begun v in
      let spans' : List Span = r.spans ++ new_span ∷ [] in
      let m' : Moment = as_of ws' r.log held st spans' r.seating r.ready in
      let fit = open_near hist came p s r in
      let live : Live v.role = subst Live (sym role) tt in
      let ready : r.ready ≡ length r.seating = none_ready hist came p s r (λ e. let q : held ≡ free = sym e ∙ note.is_free in cc) in
      let cur : (z : ℕ) → cursor ws' z ≡ cursor s.words z = same_cursor n c m new pl in
      let stays : v.role ≢ Moving = λ e. (let q : Reader ≡ Moving = sym role ∙ e in (let z : ⊥ = cc in z)) in
      let places : Places n c m' = places_owned n c m new pl held st spans' r.seating r.ready (is ∙ (λ i. owner_word held st (note.opened_is i) len)) (last_near r.seating v.version st se.last) note.lower_gone (λ e. omega arith)
      (λ z ne l. dite (ℕ_discrete z r.holder) (λ e. let lt : z < st = omega arith in inr (let g = note.lower_gone z lt in omega arith)) (λ ne'. inl (ne', l))) in
      let led : Led m' = led_more m ws' st v.version new_span.from r.common.led full ir.led_nothing low in
      let doors : Doors n p.versions (planned hist came p) m' = doors_owned n c m new pl held st spans' p.versions (planned hist came p) (inl ready) r.common.doors in
      let on : Onward n m m' = record {
        near = fit;
        wider = le_refl (length r.seating);
        seated = λ z x e. e;
        gone_last = λ x z l g. l;
        cursors = λ z l. subst (λ (q : ℕ). cursor s.words z ≤ q) (sym (cur z)) (le_refl (cursor s.words z));
        longer = λ i x e. e;
        more = le_refl len;
        begun = λ i y e. ⊎_elim (λ (q : get_elem? r.spans i ≡ some y). inl (i, y, q, refl, refl)) (λ (q : (i ≡ length r.spans) × (new_span ≡ y)). inr (let f = ap (λ (z : Span). z.from) q.1 in omega arith)) (at_end r.spans new_span y i e);
        gone_spans = λ x z l g. version_more_other x r.spans new_span
            (λ e. let at_mine : z ≡ st = one_last r.seating v.version z st (subst (λ (y : ℕ). IsLastStation r.seating y z) (sym e) l) se.last in let same : cursor s.words z ≡ cursor s.words st = ap (cursor s.words) at_mine in omega arith);
      } in
      let w : View K = as_lead asked v in
      let same_asked : asked_in (planned hist came p) spans' ≡ asked = asked_unhanded (planned hist came p) r.spans new_span refl in
      let tags : NoClash (map tag (set s.views id w)) = subst NoClash (sym (map-set tag s.views id w)) (apart_role hist came p s r id v Lead at (subst Live (sym role) tt)) in
      let spelt : map spell (hist k) ≡ r.log = ap (map spell) home.2 ∙ r.common.log_is_spelt in (
        w,
        takes 0 (Some k),
        home.1,
        moved hist came p s r 0 new id me.1 (takes 0 (Some k)) m' v w at tags (λ _. (id, w, set_here s.views id w (at_below s.views id v at), tt, refl))
            record {
              events = r.common.events;
              log_is_spelt = r.common.log_is_spelt;
              log_is_lawful = r.common.log_is_lawful;
              closed_has_ended = λ e. cc;
              home = set_here s.homes 0 none (at_below s.homes 0 (some (Some k)) home.1);
              places = places;
              led = led;
              doors = doors;
              turns = turns_more m st v.version new_span.from r.common.turns se.last.has;
            }
            on
            (λ j u ne f l. let other : u.station ≢ st = apart_from hist came p s r j id u v f at ne live l in let ku = r.each_seat j u f in (
              own_at_take m m' pl st v.seen note.is_free mine (omega arith) note.lower_gone u other (prefix_length u.seen r.log ku.seen_is_prefix)
                  (former_apart hist came p s r j id u v f at ne live l st se.last.has) (cur u.station) (of_more_other u.station r.spans new_span (λ e. other (sym e))) u.role refl ku.in_role,
              version_more_other u.version r.spans new_span (λ e. apart_version hist came p s r j id u v f at ne live l (sym e)),
              (λ z. z),
              λ t _. cur t,
            ))
            record {
              seen_is_prefix = kn.seen_is_prefix;
              read_begins_next = kn.read_begins_next;
              floor_at_most_cursor = λ z l. subst (λ (q : ℕ). get_or v.floors z 0 ≤ q) (sym (cur z)) (kn.floor_at_most_cursor z l);
              head_seen_at_most_head = kn.head_seen_at_most_head;
              owner_seen_at_most_head = kn.owner_seen_at_most_head;
              opened_at_most_open = kn.opened_at_most_open;
              in_role = record {
                is_held = refl;
                is_holder = refl;
                seen_is_log = full;
                wrote_is_short = let q = ap (λ (z : List ℕ). length z) ir.wrote_nothing in omega arith;
                wrote_stands = λ j x e. absurd (some-ne-none x (sym e ∙ ap (λ (z : List ℕ). get_elem? z j) ir.wrote_nothing));
                writes_in_window = λ pos. let q = ap (λ (z : List ℕ). length z) ir.wrote_nothing in absurd (omega arith);
                opened_is = note.opened_is;
                none_ready = ready;
              };
              seated = λ l. record {
                start_is = se.start_is;
                places_are = se.places_are;
                opened_least = se.opened_least;
                last = se.last;
                spans_are = ap (λ (z : List Span). z ++ new_span ∷ []) se.spans_are ∙ sym (version_more_own v.version r.spans new_span refl);
                unmade_is_new = λ t u. cur t ∙ se.unmade_is_new t u;
                others_are_gone = λ t has ne out. subst (λ (q : ℕ). GONE ≤ q) (sym (cur t)) (se.others_are_gone t has ne (λ e. absurd (stays e)));
              };
              ended_is_past = λ i x e. past_on n m m' x on (kn.ended_is_past i x e);
            }
            (subst (λ (z : List ℕ). Merge n c ws' r.log held z (set s.views id w)) (sym same_asked)
            (let quiet : r.merge.writing ≡ [] = r.merge.not_held (λ e. let q : held ≡ free = sym e ∙ note.is_free in cc) in merge_turned n c s.views id v w at s.words ws' r.log held
            (merge_phase n c s.words r.log r.phase held s.views r.merge quiet) (second_kept n c 0 new s.words (omega arith))
            (λ _. (ir.wrote_nothing ∙ sym (merged_quiet n c s.words r.log r.phase held s.views r.merge quiet), refl)) (λ (e : Lead ≡ Reader). cc) (λ _. r.merge.floors_wide id v at (subst Live (sym role) tt)))),
        (k, asked, refl, spelt ∙ sym all, λ t e. subst (λ (z : Snapshot K). came z.value k asked) (same_Some p.start t (sym se.start_is ∙ e)) home.3, ir.wrote_nothing),
      )
