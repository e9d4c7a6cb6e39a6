-- A lead gives up the lead and goes on as a reader at a new station.
use Rattle.std.proofs.Common.{◌≡◌, ℕ, ◌+◌, ◌/◌, ◌<◌, ◌≤◌, ◌≢◌, true, List, [], ◌∷◌, ◌++◌, map, length, get_or, set, sym, refl, ap, ◌∙◌, subst, inl, inr, ⊎_elim, le_refl, le_trans, arith, length-append, length-set}
use mathlib.Core.Logic.{dite}
use mathlib.Core.Option.{none, some}
use native.Mathlib.Decide.{ℕ_discrete}
use lib.ListN.{get_elem?}
use lib.Seq.{map-set}
use Rattle.std.specs.Prelude.{Option, Some}
use Rattle.std.specs.Option.{ForSome}
use Rattle.atomic_table.specs.Table.{State, Me, step, keeps, gives, put_back, homes_after, Allows}
use Rattle.atomic_table.proofs.Lists.{set_here, at_longer, at_set}
use Rattle.nv_calls.specs.Calls.{Entry}
use Rattle.nv_calls.specs.Logs.{IsLawful}
use Rattle.nv_words.specs.Spelling.{spell}
use Rattle.nv_words.proofs.SpellLaws.{prefix_same}
use Rattle.nv_room.specs.declared.view.View.{View}
use Rattle.nv_room.specs.declared.view.Layout.{Layout}
use Rattle.nv_room.specs.declared.view.Span.{Span}
use Rattle.nv_room.specs.declared.view.Role.TheVariants.{Reader, Lead, Opening, Moving}
use Rattle.nv_room.specs.Header.{cursor_index}
use Rattle.nv_room.specs.Owner.{GONE, Phase, held, free, owner_word, owner_at}
use Rattle.nv_room.specs.Spans.{Tiles, Rising, of_station, of_version, handed_on, LastHasEvent, IsLastStation, Opened}
use Rattle.nv_room.specs.Planned.{below, asked_in, asked_then}
use Rattle.nv_room.specs.Room.{cursor, Moment, as_of, Places, Doors, Turns, Led, Live, Leads, Has, MayHand, tag, NoClash, IsKernel, AtHome, Rule}
use Rattle.nv_room.specs.Steps.{spare, as_opening, opens, as_moving, hands_over, as_reader, moves_over as moved_on}
use Rattle.nv_room.proofs.Lists.{at_below, at_end, set_or}
use Rattle.nv_room.proofs.Tiling.{last_apart, with_none, tiles_handed, rising_handed, handed_end, opened_handed, last_other, last_new}
use Rattle.nv_room.proofs.Counts.{below_most, below_planned}
use Rattle.nv_room.proofs.LastSpan.{Last, last_span, lead_last, begun_last, who_last, others_last, own_last, own_was}
use Rattle.nv_room.proofs.Merges.{merge_turned, merge_phase, notes_none, second_kept, merge_asked}
use Rattle.nv_room.proofs.Stays.{Onward, Begun, last_near, planned, lead_stays, past_on, now, looked, moved}
use Rattle.nv_room.proofs.Cursors.{risen, cursor_there, cursor_else, cursor_up, places_risen, on_risen, own_risen, common_risen}
use Rattle.nv_room.proofs.Hands.{same_cursor, places_owned}
use Rattle.nv_room.proofs.Seats.{none_above, beside_lead, one_last, unmade_apart, apart_role, apart_version, apart_at, apart_from, apart_unmade, former_apart, in_role, open_near, alone}
use Rattle.nv_room.proofs.Askings.{asked_unhanded, asked_handed, tiles_end}

-- What the last span becomes when it is handed on

module _ (m : Moment) (l : Last m) where
  abbrev x' : Span
  x' = record l.last { handed = true }

  ends : handed_on m.spans ≡ l.before ++ x' ∷ []
  ends = ap handed_on l.is ∙ handed_end l.before l.last

  led_handed : (ws : List ℕ) (ph : Phase) (seating : List ℕ) (ready : ℕ) → Led m → Led (as_of ws m.log ph m.holder (handed_on m.spans) seating ready)
  led_handed ws ph seating ready led = record {
    tile = subst (λ (z : List Span). Tiles 0 z (length m.log)) (sym ends) (tiles_handed 0 (length m.log) l.before l.last (subst (λ (z : List Span). Tiles 0 z (length m.log)) l.is led.tile));
    rise = subst (Rising 0) (sym ends) (rising_handed 0 l.before l.last (subst (Rising 0) l.is led.rise));
    last_is_holders = λ xs x e. ap (λ (z : Span). z.station) (sym (last_apart l.before xs x' x (sym ends ∙ e)).1) ∙ l.holders;
    unled_is_free = λ e. let a = ap (λ (z : List Span). length z) (sym ends ∙ e) in let b = length-append l.before (x' ∷ []) in absurd (omega arith);
  }

  turns_handed : (n versions : ℕ) (hands : List ℕ) (ph : Phase) (len : ℕ) → Turns n versions hands m.phase len m.spans m.seating → m.phase ≡ held → ph ≢ held
      → IsLastStation m.seating l.last.version l.last.station → Turns n versions hands ph len (handed_on m.spans) (m.seating ++ l.last.version ∷ [])
  turns_handed n versions hands ph len t is over last = record {
    who_is = λ i y e. at_longer m.seating (l.last.version ∷ []) y.station y.version (who_last m l m.seating x' refl refl t.who_is i y (ap (λ (z : List Span). get_elem? z i) (sym ends) ∙ e));
    opened = subst (Opened versions (m.seating ++ l.last.version ∷ [])) (sym ends) (opened_handed versions m.seating l.before l.last (t.unhanded is l.before l.last l.is) last (subst (Opened versions m.seating) l.is t.opened));
    unhanded = λ e. absurd (over e);
    left_over = λ e. absurd (over e);
  }

  asks_handed : (n versions : ℕ) (hands : List ℕ) → Led m → Turns n versions hands m.phase (length m.log) m.spans m.seating → m.phase ≡ held → LastHasEvent m.spans
      → asked_in hands (handed_on m.spans) ≡ asked_then hands (length m.log) (asked_in hands m.spans)
  asks_handed n versions hands led t is h =
      let same : h.1 ≡ l.last = (last_apart h.0 l.before h.1 l.last (sym h.2 ∙ l.is)).1 in
      let event : l.last.from < l.last.to = subst (λ (z : Span). z.from < z.to) same h.3 in
      let end : l.last.to ≡ length m.log = tiles_end 0 (length m.log) l.before l.last (subst (λ (z : List Span). Tiles 0 z (length m.log)) l.is led.tile) in
      let was : asked_in hands l.before ≡ asked_in hands m.spans = sym (asked_unhanded hands l.before l.last (t.unhanded is l.before l.last l.is)) ∙ ap (asked_in hands) (sym l.is) in
      ap (asked_in hands) ends ∙ asked_handed hands l.before x' refl event ∙ (λ i. asked_then hands (end i) (was i))

  begun_handed : (i : ℕ) (y : Span) → get_elem? (handed_on m.spans) i ≡ some y → Begun m y
  begun_handed i y e = begun_last m l x' refl refl i y (ap (λ (z : List Span). get_elem? z i) (sym ends) ∙ e)

  stations_handed : (s : ℕ) → s ≢ m.holder → of_station s (handed_on m.spans) ≡ of_station s m.spans
  stations_handed s ne = ap (of_station s) ends ∙ others_last m l (λ (x : Span). x.station) x' refl s (λ e. let h = l.holders in ne (sym e ∙ h))

  versions_handed : (v : ℕ) → l.last.version ≢ v → of_version v (handed_on m.spans) ≡ of_version v m.spans
  versions_handed v ne = ap (of_version v) ends ∙ others_last m l (λ (x : Span). x.version) x' refl v ne

  own_handed : (v : ℕ) → l.last.version ≡ v → handed_on (of_version v m.spans) ≡ of_version v (handed_on m.spans)
  own_handed v e = ap handed_on (own_was m l (λ (x : Span). x.version) x' refl v e) ∙ handed_end (of_version v l.before) l.last ∙ sym (own_last m l (λ (x : Span). x.version) x' refl v e) ∙ ap (of_version v) (sym ends)

  -- the lead's own last span is the room's
  has_led : (v : ℕ) → l.last.version ≡ v → LastHasEvent (of_version v m.spans) → LastHasEvent m.spans
  has_led v e h = (l.before, l.last, l.is, (let same : h.1 ≡ l.last = (last_apart h.0 (of_version v l.before) h.1 l.last (sym h.2 ∙ own_was m l (λ (x : Span). x.version) x' refl v e)).1 in subst (λ (z : Span). z.from < z.to) same h.3))

no_words : (ws : List ℕ) → ((x : ℕ) → get_elem? ws 0 ≡ some x → ⊥) → ws ≡ []
no_words [] h = refl
no_words (x ∷ xs) h = absurd (h x refl)

given : (st o n new : ℕ) → st < 16 → o ≤ 16 → new ≡ owner_word free st o n → owner_at new ≡ n
given st o n new l b is = let q : new / 2048 ≡ n = omega arith in q

module _ {K : Type 0} (hist : K → List Entry) (came : K → K → List ℕ → Type 0) (p : Layout K) where
  abbrev St : Type 0
  St = State (Option K) (View K)

  abbrev RuleOf : St → Type 0
  RuleOf = Rule hist came p

  abbrev M : Type 0
  M = Me (Option K) (View K)

  -- where a lead that has led an event may hand over, a station is left
  left_station : (s : St) (r : RuleOf s) (id : ℕ) (v : View K) → get_elem? s.views id ≡ some v → v.role ≡ Lead → MayHand p.stations (planned hist came p) v.opened (length v.seen) → LastHasEvent v.spans
      → length r.seating + 1 + length (planned hist came p) ≤ p.stations + below (planned hist came p) (length r.log + 1)
  left_station s r id v at role may led = let m : Moment = now hist came p s r in let ir = in_role hist came p s r id v at Lead role in let live : Live v.role = subst Live (sym role) tt in let se = (r.each_seat id v at).seated live in
      let l : Last m = last_span m r.common.led ir.is_held in let mine = lead_last hist came p s r id v at live ir.is_holder l in
      let a = r.common.turns.left_over ir.is_held (has_led m l v.version mine (subst LastHasEvent se.spans_are led)) in
      ⊎_elim (λ (plan : Has (planned hist came p) (length v.seen)). let b = below_planned (planned hist came p) (length r.log) (subst (Has (planned hist came p)) ir.seen_is_log plan) in omega arith)
      (λ (spare : v.opened + length (planned hist came p) < p.stations + below (planned hist came p) (length v.seen + 1)).
      let b = subst (λ (z : ℕ). v.opened + length (planned hist came p) < p.stations + below (planned hist came p) (z + 1)) ir.seen_is_log spare in let e = ir.opened_is in omega arith) may

  pub spares : (slots id k : ℕ) (me : M) → me.0.role ≡ Lead → MayHand p.stations (planned hist came p) me.0.opened (length me.0.seen) → LastHasEvent me.0.spans → Allows RuleOf slots id me k (λ x. x) (spare (step slots k 0 0 none) me)
  spares slots id k me role plan led s r wide at _ = let v = me.0 in let kn = r.each_seat id v at in let ir = in_role hist came p s r id v at Lead role in let live : Live v.role = subst Live (sym role) tt in
      let a = left_station s r id v at role plan led in
      let b = below_most (planned hist came p) (length r.log + 1) in
      let c = r.common.doors.all in
      let d = r.merge.floors_wide id v at live in
      let e = ir.opened_is in
      let f = ir.is_holder in
      let h = r.common.places.holder_is_open in (
        v,
        keeps,
        tt,
        looked hist came p s r k id me.1 v v at refl (λ q. (q, refl)) kn
            (merge_turned p.stations p.places s.views id v v at s.words s.words r.log r.phase r.merge (λ _ _. refl) (λ q. r.merge.lead_tells id v at q) (λ q. r.merge.notes id v at q) (λ q. r.merge.floors_wide id v at q)),
        (refl, omega arith, omega arith),
      )

  -- the first station that isn't open gets head as its cursor
  pub opens_next : (slots id new : ℕ) (me : M) → me.0.role ≡ Lead → me.0.wrote ≡ [] → MayHand p.stations (planned hist came p) me.0.opened (length me.0.seen) → LastHasEvent me.0.spans → new ≡ length me.0.seen
      → Allows RuleOf slots id me (cursor_index me.0.opened) (λ _. new) (λ _. opens (step slots (cursor_index me.0.opened) new 0 none) me new)
  opens_next slots id new me role quiet plan led is s r wide at _ = let v = me.0 in let n : ℕ = p.stations in let c : ℕ = p.places in let len : ℕ = length r.log in
      let kn = r.each_seat id v at in let pl = r.common.places in let d = r.common.doors in
      let m : Moment = now hist came p s r in let ir = in_role hist came p s r id v at Lead role in let live : Live v.role = subst Live (sym role) tt in let se = kn.seated live in
      let room = left_station s r id v at role plan led in let most = below_most (planned hist came p) (len + 1) in
      let i : ℕ = v.opened in let here : i ≡ length r.seating = ir.opened_is in let none = ir.none_ready in let all = d.all in let near : i < n = omega arith in
      let off : cursor s.words i ≡ 0 = d.shut i (omega arith) near in let full : length v.seen ≡ len = ir.seen_is_log in
      let up : cursor s.words i ≤ new = omega arith in let there = cursor_there n c m i new pl near up in let ws' : List ℕ = set s.words (cursor_index i) new in
      let top = pl.holder_is_open in let ready' : ℕ = length r.seating + 1 in let m' : Moment = as_of ws' r.log r.phase r.holder r.spans r.seating ready' in
      let other : (z : ℕ) → z < length r.seating → z ≢ i = λ z l e. omega arith in
      let few = pl.log_is_short in
      let old = places_risen n c m i new pl near up (inl (omega arith)) (λ e q. other r.holder top (sym q)) in
      let places : Places n c m' = record {
        some_place = old.some_place;
        few_stations = old.few_stations;
        words_are_all = old.words_are_all;
        owner_is = old.owner_is;
        holder_is_open = old.holder_is_open;
        lower_are_gone = old.lower_are_gone;
        lead_counts = old.lead_counts;
        head_is_length = old.head_is_length;
        cursor_is_count_or_gone = old.cursor_is_count_or_gone;
        head_in_window = old.head_in_window;
        unread_stands = old.unread_stands;
        event_is_whole = old.event_is_whole;
        log_is_short = old.log_is_short;
      } in
      let doors : Doors n p.versions (planned hist came p) m' = record {
        all = all;
        least = d.least;
        first = d.first;
        is_version = d.is_version;
        ready_is = inr (refl, ir.is_held, ap (cursor ws') (sym here) ∙ there ∙ is ∙ full);
        shut = λ z a b. cursor_else n c m i new pl near up z (λ e. omega arith) ∙ d.shut z (omega arith) b;
        planned = room;
      } in
      let o = on_risen n c m i new pl near up (open_near hist came p s r) in
      let on : Onward n m m' = record { near = o.near; cursors = o.cursors; longer = o.longer; more = o.more; wider = o.wider; seated = o.seated; begun = o.begun; gone_spans = o.gone_spans; gone_last = o.gone_last } in
      let w : View K = as_opening v in
      let tags : NoClash (map tag (set s.views id w)) = subst NoClash (sym (map-set tag s.views id w)) (apart_role hist came p s r id v Opening at live) in (
        w,
        keeps,
        tt,
        moved hist came p s r (cursor_index i) new id me.1 keeps m' v w at tags (λ e. lead_stays s.views id r.holder v w at (λ q. (tt, refl)) (r.held_has_lead e))
            record {
              events = r.common.events;
              log_is_spelt = r.common.log_is_spelt;
              log_is_lawful = r.common.log_is_lawful;
              closed_has_ended = r.common.closed_has_ended;
              home = r.common.home;
              places = places;
              led = record { tile = r.common.led.tile; rise = r.common.led.rise; last_is_holders = r.common.led.last_is_holders; unled_is_free = r.common.led.unled_is_free };
              doors = doors;
              turns = r.common.turns;
            }
            on
            (λ j u ne f l. (
              beside_lead n c m m' u v.station ir.is_held ir.is_holder (λ e. apart_from hist came p s r j id u v f at ne live l (sym e)) refl
                  (cursor_else n c m i new pl near up u.station (other u.station (last_near r.seating u.version u.station ((r.each_seat j u f).seated l).last))) refl u.role
                  (r.each_seat j u f).in_role,
              refl,
              (λ z. z),
              λ t q. cursor_else n c m i new pl near up t (λ e. let a = q.near in let b = d.least in omega arith),
            ))
            record {
              seen_is_prefix = kn.seen_is_prefix;
              read_begins_next = kn.read_begins_next;
              floor_at_most_cursor = λ z l. le_trans (kn.floor_at_most_cursor z l) (cursor_up n c m i new pl near up z);
              head_seen_at_most_head = kn.head_seen_at_most_head;
              owner_seen_at_most_head = kn.owner_seen_at_most_head;
              opened_at_most_open = kn.opened_at_most_open;
              in_role = record { is_held = ir.is_held; is_holder = ir.is_holder; seen_is_log = full; wrote_nothing = quiet; opened_is = here; one_ready = refl; event = led };
              seated = λ l. record {
                start_is = se.start_is;
                places_are = se.places_are;
                opened_least = se.opened_least;
                last = se.last;
                spans_are = se.spans_are;
                unmade_is_new = λ t q. cursor_else n c m i new pl near up t (λ e. let a = q.near in let b = d.least in omega arith) ∙ se.unmade_is_new t q;
                others_are_gone = λ t has ne out. le_trans (se.others_are_gone t has ne (λ e. absurd (let q : Lead ≡ Moving = sym role ∙ e in (let z : ⊥ = cc in z)))) (cursor_up n c m i new pl near up t);
              };
              ended_is_past = λ k y f. past_on n m m' y on (kn.ended_is_past k y f);
            }
            (merge_turned n c s.views id v w at s.words ws' r.log r.phase r.merge (second_kept n c (cursor_index i) new s.words (omega arith))
            (λ e. r.merge.lead_tells id v at (subst Leads (sym role) tt)) (λ (e : Opening ≡ Reader). cc) (λ _. r.merge.floors_wide id v at live)),
        refl,
      )

  -- the kernel goes home, and the new station opens
  pub hands_on : (slots id new : ℕ) (k : K) (me : M) → me.0.role ≡ Opening → me.1 ≡ (0, Some k) ∷ [] → map spell (hist k) ≡ me.0.seen → IsLawful (hist k)
      → ForSome me.0.start (λ s. came s.value k (asked_then (planned hist came p) (length me.0.seen) me.0.asked)) → new ≡ owner_word free me.0.station (me.0.opened + 1) (length me.0.seen)
      → Allows RuleOf slots id me 0 (λ _. new) (λ _. hands_over (step slots 0 new 0 none) me new)
  hands_on slots id new k me role carries tells law began is s r wide at _ =
      let v = me.0 in
      let n : ℕ = p.stations in
      let c : ℕ = p.places in
      let kn = r.each_seat id v at in
      let pl = r.common.places in
      let d = r.common.doors in
      let len : ℕ = length r.log in
      let m : Moment = now hist came p s r in
      let ir = in_role hist came p s r id v at Opening role in
      let live : Live v.role = subst Live (sym role) tt in
      let se = kn.seated live in
      let st : ℕ = v.station in
      let ws' : List ℕ = set s.words 0 new in
      let l : Last m = last_span m r.common.led ir.is_held in let mine : l.last.version ≡ v.version = lead_last hist came p s r id v at live ir.is_holder l in
      let whos' : List ℕ = r.seating ++ v.version ∷ [] in let wider : length whos' ≡ length r.seating + 1 = length-append r.seating (v.version ∷ []) in
      let spans' : List Span = handed_on r.spans in let m' : Moment = as_of ws' r.log free r.holder spans' whos' r.ready in
      let all : v.seen ≡ r.log = prefix_same v.seen r.log ir.seen_is_log kn.seen_is_prefix in
      let cur : (z : ℕ) → cursor ws' z ≡ cursor s.words z = same_cursor n c m new pl in
      let one = ir.one_ready in let full = ir.seen_is_log in let fit = open_near hist came p s r in let here = ir.opened_is in let few = pl.log_is_short in
      let head : cursor s.words (length r.seating) ≡ len =
      ⊎_elim (λ (q : r.ready ≡ length r.seating). absurd (omega arith)) (λ (q : (r.ready ≡ length r.seating + 1) × (r.phase ≡ held) × (cursor s.words (length r.seating) ≡ len)). q.2) d.ready_is in
      let top = pl.holder_is_open in let over : free ≢ held = λ e. cc in
      let out : get_elem? s.homes 0 ≡ some none = subst (AtHome hist came p.start.value r.common.events (asked_in (planned hist came p) r.spans) s.homes) ir.is_held r.common.home in
      let asks : asked_then (planned hist came p) (length v.seen) v.asked ≡ asked_in (planned hist came p) spans' =
      (λ i. asked_then (planned hist came p) (ir.seen_is_log i) ((r.merge.lead_tells id v at (subst Leads (sym role) tt)).1 i))
      ∙ sym (asks_handed m l p.stations p.versions (planned hist came p) r.common.led r.common.turns ir.is_held (has_led m l v.version mine (subst LastHasEvent se.spans_are ir.event))) in
      let home : IsKernel hist came p.start.value (hist k) (asked_in (planned hist came p) spans') (homes_after s.homes me.1 gives) =
      (k, ap (λ (cs : List (ℕ × Option K)). get_elem? (put_back s.homes cs) 0) carries ∙ set_here s.homes 0 (some (Some k)) (at_below s.homes 0 none out), refl, subst (came p.start.value k) asks (began p.start se.start_is)) in
      let counts : cursor s.words r.holder ≤ len = pl.lead_counts ir.is_held in
      let places : Places n c m' =
      places_owned n c m new pl free r.holder spans' whos' r.ready (is ∙ (λ i. owner_word free (ir.is_holder i) ((let q : v.opened + 1 ≡ length whos' = omega arith in q) i) (full i)))
      (omega arith) pl.lower_are_gone (λ e. absurd (over e))
      (λ z ne l. dite (ℕ_discrete z (length r.seating)) (λ e. inr (let q : cursor s.words z ≡ cursor s.words (length r.seating) = ap (cursor s.words) e in omega arith)) (λ ne'. inl (ne, omega arith))) in
      let led : Led m' = led_handed m l ws' free whos' r.ready r.common.led in
      let turns : Turns p.stations p.versions (planned hist came p) free len spans' whos' =
      subst (λ (z : ℕ). Turns p.stations p.versions (planned hist came p) free len spans' (r.seating ++ z ∷ [])) mine (turns_handed m l p.stations p.versions (planned hist came p) free len r.common.turns ir.is_held over
      (subst (λ (z : ℕ). IsLastStation r.seating z l.last.station) (sym mine) (subst (λ (z : ℕ). IsLastStation r.seating v.version z) (ir.is_holder ∙ sym l.holders) se.last))) in
      let doors : Doors n p.versions (planned hist came p) m' = record {
        all = d.all;
        least = let a = d.least in omega arith;
        first = λ z b. at_longer r.seating (v.version ∷ []) z z (d.first z b);
        is_version = λ z x e. ⊎_elim (λ (q : get_elem? r.seating z ≡ some x). d.is_version z x q)
            (λ (q : (z ≡ length r.seating) × (v.version ≡ x)). let b = d.is_version st v.version se.last.has in let g = q.1 in omega arith) (at_end r.seating v.version x z e);
        ready_is = inl (omega arith);
        shut = λ z a b. cur z ∙ d.shut z a b;
        planned = d.planned;
      } in
      let at_lead : (x z : ℕ) → IsLastStation r.seating x z → GONE ≤ cursor s.words z → v.version ≢ x = λ x z a g e.
      let same : z ≡ r.holder = one_last r.seating v.version z st (subst (λ (y : ℕ). IsLastStation r.seating y z) (sym e) a) se.last ∙ ir.is_holder in
      let b : cursor s.words z ≡ cursor s.words r.holder = ap (cursor s.words) same in
      omega arith in
      let on : Onward n m m' = record {
        near = fit;
        cursors = λ z b. subst (λ (q : ℕ). cursor s.words z ≤ q) (sym (cur z)) (le_refl (cursor s.words z));
        longer = λ i x e. e;
        more = le_refl len;
        wider = omega arith;
        seated = λ z x e. at_longer r.seating (v.version ∷ []) z x e;
        begun = begun_handed m l;
        gone_spans = λ x z a g. versions_handed m l x (λ e. at_lead x z a g (sym mine ∙ e));
        gone_last = λ x z a g. last_other r.seating x v.version z (at_lead x z a g) a;
      } in
      let quiet : r.merge.writing ≡ [] = sym ((r.merge.lead_tells id v at (subst Leads (sym role) tt)).0) ∙ ir.wrote_nothing in
      let unread : v.read ≡ [] = no_words v.read (λ x e. let q = kn.read_begins_next 0 x e in let b = at_below r.log (length v.seen) q.0 q.1 in omega arith) in
      let w : View K = as_moving v new in
      let tags : NoClash (map tag (set s.views id w)) = subst NoClash (sym (map-set tag s.views id w)) (apart_role hist came p s r id v Moving at live) in (
        w,
        gives,
        tt,
        moved hist came p s r 0 new id me.1 gives m' v w at tags (λ e. absurd (over e))
            record { events = hist k; log_is_spelt = tells ∙ all; log_is_lawful = law; closed_has_ended = λ e. cc; home = home; places = places; led = led; doors = doors; turns = turns }
            on
            (λ j u ne f a. (
              beside_lead n c m m' u st ir.is_held ir.is_holder (λ e. apart_from hist came p s r j id u v f at ne live a (sym e)) refl (cur u.station)
                  (stations_handed m l u.station (λ e. apart_from hist came p s r j id u v f at ne live a (e ∙ sym ir.is_holder))) u.role (r.each_seat j u f).in_role,
              versions_handed m l u.version (λ e. apart_version hist came p s r j id u v f at ne live a (sym e ∙ mine)),
              (λ z. last_other r.seating u.version v.version u.station (λ e. apart_version hist came p s r j id u v f at ne live a (sym e)) z),
              λ t _. cur t,
            ))
            record {
              seen_is_prefix = kn.seen_is_prefix;
              read_begins_next = kn.read_begins_next;
              floor_at_most_cursor = λ z b. subst (λ (q : ℕ). get_or v.floors z 0 ≤ q) (sym (cur z)) (kn.floor_at_most_cursor z b);
              head_seen_at_most_head = kn.head_seen_at_most_head;
              owner_seen_at_most_head =
                  let a = given st (v.opened + 1) (length v.seen) new (let h = ir.is_holder in let b = pl.few_stations in omega arith)
                  (let b = pl.few_stations in let y = d.planned in let z = d.all in let x = below_most (planned hist came p) (len + 1) in omega arith) is in
                  omega arith;
              opened_at_most_open = omega arith;
              in_role = record {
                not_held = over;
                is_holder = ir.is_holder;
                is_lower = let h = ir.is_holder in omega arith;
                version_is = at_longer r.seating (v.version ∷ []) st v.version se.last.has;
                former_is_count = subst (λ (q : ℕ). q ≤ len) (sym (cur st)) (subst (λ (q : ℕ). cursor s.words q ≤ len) (sym ir.is_holder) counts);
                cursor_is_length = cur v.opened ∙ ap (cursor s.words) here ∙ head ∙ sym full;
                seen_is_log = full;
                led_nothing = with_none (λ (x : Span). x.station) v.opened spans' (λ i x e same. let b = none_above m' i x led e in omega arith);
                wrote_nothing = ir.wrote_nothing;
              };
              seated = λ _. record {
                start_is = se.start_is;
                places_are = se.places_are;
                opened_least = let a = se.opened_least in omega arith;
                last = subst (λ (z : ℕ). IsLastStation whos' v.version z) (sym here) (last_new r.seating v.version);
                spans_are = ap handed_on se.spans_are ∙ own_handed m l v.version mine;
                unmade_is_new = λ t u. cur t ∙ se.unmade_is_new t u;
                others_are_gone = λ t has ne out. ⊎_elim
                    (λ (q : get_elem? r.seating t ≡ some v.version). subst (λ (z : ℕ). GONE ≤ z) (sym (cur t)) (se.others_are_gone t q (out refl) (λ e. absurd (let z : Opening ≡ Moving = sym role ∙ e in (let f : ⊥ = cc in f)))))
                    (λ (q : (t ≡ length r.seating) × (v.version ≡ v.version)). absurd (ne (q.0 ∙ sym here)))
                    (at_end r.seating v.version v.version t has);
              };
              ended_is_past = λ i x e. past_on n m m' x on (kn.ended_is_past i x e);
            }
            (merge_asked n c ws' r.log free (set s.views id w) (merge_turned n c s.views id v w at s.words ws' r.log free (merge_phase n c s.words r.log r.phase free s.views r.merge quiet) (second_kept n c 0 new s.words (omega arith)) (λ e. absurd e)
            (λ (e : Moving ≡ Reader). cc) (λ _. r.merge.floors_wide id v at live))
            (λ j u f lead. ⊎_elim (λ (y : (j ≡ id) × (w ≡ u)). subst (λ (z : View K). Leads z.role) (sym y.1) lead)
            (λ (y : (j ≢ id) × (get_elem? s.views j ≡ some u)). alone hist came p s r id v at live ir.is_holder j u y.0 y.1 lead)
            (at_set s.views id j w u f))),
        (refl, unread, ir.wrote_nothing),
      )

  -- the former station leaves
  pub moves_on : (slots id new : ℕ) (me : M) → me.0.role ≡ Moving → new ≡ GONE → Allows RuleOf slots id me (cursor_index me.0.former) (λ _. new) (λ _. moved_on (step slots (cursor_index me.0.former) new 0 none) me new)
  moves_on slots id new me role is s r wide at _ = let v = me.0 in let n : ℕ = p.stations in let c : ℕ = p.places in let kn = r.each_seat id v at in let pl = r.common.places in
      let m : Moment = now hist came p s r in let live : Live v.role = subst Live (sym role) tt in let se = kn.seated live in let ir = in_role hist came p s r id v at Moving role in let fit = open_near hist came p s r in
      let i : ℕ = v.former in let top = pl.holder_is_open in let inner : i < length r.seating = (let h = ir.is_holder in omega arith) in let near : i < n = omega arith in let few = pl.log_is_short in
      let count = ir.former_is_count in let up : cursor s.words i ≤ new = omega arith in let other : v.station ≢ i = (let h = ir.is_lower in λ e. omega arith) in
      let unread : v.read ≡ [] = no_words v.read (λ x e. let q = kn.read_begins_next 0 x e in let b = at_below r.log (length v.seen) q.0 q.1 in let full = ir.seen_is_log in omega arith) in
      let gone : cursor (set s.words (cursor_index i) new) i ≡ GONE = cursor_there n c m i new pl near up ∙ is in
      let m' : Moment = risen n c m i new pl near up in let w : View K = as_reader v in let on = on_risen n c m i new pl near up fit in
      let tags : NoClash (map tag (set s.views id w)) = subst NoClash (sym (map-set tag s.views id w)) (apart_role hist came p s r id v Reader at live) in (
        w,
        keeps,
        tt,
        moved hist came p s r (cursor_index i) new id me.1 keeps m' v w at tags (λ e. absurd (ir.not_held e))
            (common_risen hist came p s.homes m r.common i new near up (inr is) (λ e. absurd (ir.not_held e)) inner) on
            (λ j u ne f l. (
              own_risen n c m i new pl near up u (apart_at hist came p s r j id u v f at ne live l i ir.version_is) u.role
                  (former_apart hist came p s r j id u v f at ne live l i ir.version_is),
              refl,
              (λ z. z),
              λ t q. cursor_else n c m i new pl near up t (apart_unmade hist came p s r j id u v f at ne live l t q i ir.version_is),
            ))
            record {
              seen_is_prefix = kn.seen_is_prefix;
              read_begins_next = kn.read_begins_next;
              floor_at_most_cursor = λ z l. ⊎_elim
                  (λ (e : get_or (set v.floors i GONE) z 0 ≡ get_or v.floors z 0). subst (λ (q : ℕ). q ≤ cursor (set s.words (cursor_index i) new) z) (sym e) (le_trans (kn.floor_at_most_cursor z l) (cursor_up n c m i new pl near up z)))
                  (λ (e : (z ≡ i) × (get_or (set v.floors i GONE) z 0 ≡ GONE)). subst (λ (q : ℕ). get_or (set v.floors i GONE) z 0 ≤ cursor (set s.words (cursor_index i) new) q) (sym e.0) (let f = e.1 in omega arith))
                  (set_or v.floors i z GONE);
              head_seen_at_most_head = kn.head_seen_at_most_head;
              owner_seen_at_most_head = kn.owner_seen_at_most_head;
              opened_at_most_open = kn.opened_at_most_open;
              in_role = record { cursor_is_length = cursor_else n c m i new pl near up v.station other ∙ ir.cursor_is_length; led_nothing = ir.led_nothing; wrote_nothing = ir.wrote_nothing; freed_stays = λ k e. cc };
              seated = λ l. record {
                start_is = se.start_is;
                places_are = se.places_are;
                opened_least = se.opened_least;
                last = se.last;
                spans_are = se.spans_are;
                unmade_is_new = λ t q. cursor_else n c m i new pl near up t (unmade_apart n p.versions (planned hist came p) m v.version i v.made t r.common.doors ir.version_is q) ∙ se.unmade_is_new t q;
                others_are_gone = λ t has ne out. dite (ℕ_discrete t i) (λ e. subst (λ (z : ℕ). GONE ≤ cursor (set s.words (cursor_index i) new) z) (sym e) (omega arith))
                    (λ other'. le_trans (se.others_are_gone t has ne (λ _. other')) (cursor_up n c m i new pl near up t));
              };
              ended_is_past = λ k y f. past_on n m m' y on (kn.ended_is_past k y f);
            }
            (merge_turned n c s.views id v w at s.words (set s.words (cursor_index i) new) r.log r.phase r.merge (second_kept n c (cursor_index i) new s.words (omega arith)) (λ e. absurd e)
            (λ _. notes_none r.log v.seen v.read unread) (λ _. length-set v.floors i GONE ∙ r.merge.floors_wide id v at live)),
        refl,
      )

  -- the same at the words that the code computes
  pub opens_at : (slots id k new : ℕ) (me : M) → me.0.role ≡ Lead → me.0.wrote ≡ [] → MayHand p.stations (planned hist came p) me.0.opened (length me.0.seen) → LastHasEvent me.0.spans → k ≡ cursor_index me.0.opened → new ≡ length me.0.seen
      → Allows RuleOf slots id me k (λ _. new) (λ _. opens (step slots k new 0 none) me new)
  opens_at slots id k new me role quiet plan led at is = subst (λ (z : ℕ). Allows RuleOf slots id me z (λ _. new) (λ _. opens (step slots z new 0 none) me new)) (sym at) (opens_next slots id new me role quiet plan led is)

  pub moves_at : (slots id k new : ℕ) (me : M) → me.0.role ≡ Moving → k ≡ cursor_index me.0.former → new ≡ GONE → Allows RuleOf slots id me k (λ _. new) (λ _. moved_on (step slots k new 0 none) me new)
  moves_at slots id k new me role at is = subst (λ (z : ℕ). Allows RuleOf slots id me z (λ _. new) (λ _. moved_on (step slots z new 0 none) me new)) (sym at) (moves_on slots id new me role is)
