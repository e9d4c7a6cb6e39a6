-- A station's own cursor rises: one event on, or gone.
use Rattle.std.proofs.Common.{◌≡◌, ℕ, ◌+◌, ◌<◌, ◌≤◌, ◌≢◌, ◌⊎◌, List, [], ◌∷◌, ◌++◌, map, length, get_or, set}
use Rattle.std.proofs.Common.{sym, refl, ap, ◌∙◌, subst, inl, inr, ⊎_elim, le_trans, le_refl, lt_of_not-le, arith, length-append, length-set, get_or-set_other, get_or-set_same}
use mathlib.Core.Logic.{dite}
use mathlib.Core.Option as maybe
use mathlib.Core.Option.{none, some, some-injective, some-ne-none}
use native.Mathlib.Decide.{ℕ_discrete, dec_le}
use lib.ListN.{get_elem?}
use lib.Seq.{map-set}
use Rattle.std.specs.Prelude.{Option}
use Rattle.atomic_table.specs.Table.{State, Me, step, keeps, Allows}
use Rattle.nv_calls.specs.Calls.{Entry}
use Rattle.nv_words.specs.Spelling.{IsWhole}
use Rattle.nv_words.specs.Begins.{Prefix}
use Rattle.nv_words.proofs.SpellLaws.{prefix_length, whole_same}
use Rattle.nv_room.specs.declared.view.View.{View}
use Rattle.nv_room.specs.declared.view.Layout.{Layout}
use Rattle.nv_room.specs.declared.view.Role.{Role}
use Rattle.nv_room.specs.declared.view.Role.TheVariants.{Reader, Lead, Opening, Leaving, Moving, Gone, Spent}
use Rattle.nv_room.specs.Placement.{Log, word_place}
use Rattle.nv_room.specs.Owner.{GONE, held}
use Rattle.nv_room.specs.Room.{cursor, Moment, as_of, Places, Doors, Led, Common, InRole, IsSeated, Live, Leads, tag, NoClash, Rule}
use Rattle.nv_room.specs.Steps.{one_on, goes_ahead, as_gone, left}
use Rattle.nv_room.proofs.Lists.{at_below, there}
use Rattle.nv_room.proofs.Placement.{place_after, header_inside}
use Rattle.nv_room.specs.Header.{head_index, cursor_index}
use Rattle.nv_room.proofs.Merges.{merge_turned, second_kept, notes_none}
use Rattle.nv_room.proofs.Stays.{Onward, Own, last_near, planned, lead_stays, same_tags, past_on, now, moved}
use Rattle.nv_room.proofs.Seats.{prefix_more, not_held, none_above, unmade_apart, apart_role, former_apart, apart_from, apart_unmade, in_role, seated, open_near, seat_near, role_near, told}

module _ (n c : ℕ) (m : Moment) (i x : ℕ) (pl : Places n c m) (near : i < n) (up : cursor m.words i ≤ x) where
  abbrev ws' : List ℕ
  ws' = set m.words (cursor_index i) x

  abbrev pub risen : Moment
  risen = as_of ws' m.log m.phase m.holder m.spans m.seating m.ready

  inside : cursor_index i < length m.words
  inside = subst (λ (z : ℕ). cursor_index i < z) (sym pl.words_are_all) (header_inside n c (cursor_index i) (omega arith))

  pub cursor_there : cursor ws' i ≡ x
  cursor_there = get_or-set_same m.words (cursor_index i) x 0 inside

  pub cursor_else : (s : ℕ) → s ≢ i → cursor ws' s ≡ cursor m.words s
  cursor_else s ne = get_or-set_other m.words (cursor_index i) (cursor_index s) x 0 (λ e. ne (omega arith))

  pub cursor_set : (s : ℕ) → ((s ≡ i) × (cursor ws' s ≡ x)) ⊎ ((s ≢ i) × (cursor ws' s ≡ cursor m.words s))
  cursor_set s = dite (ℕ_discrete s i) (λ e. inl (e, ap (cursor ws') e ∙ cursor_there)) (λ ne. inr (ne, cursor_else s ne))

  pub cursor_up : (s : ℕ) → cursor m.words s ≤ cursor ws' s
  cursor_up s = ⊎_elim (λ (y : (s ≡ i) × (cursor ws' s ≡ x)). let a : cursor m.words s ≡ cursor m.words i = ap (cursor m.words) y.0 in let b = y.1 in omega arith)
      (λ (y : (s ≢ i) × (cursor ws' s ≡ cursor m.words s)). let b = y.1 in omega arith) (cursor_set s)

  place_else : (log : Log) (e j : ℕ) → get_or ws' (word_place n c log e j) 0 ≡ get_or m.words (word_place n c log e j) 0
  place_else log e j = get_or-set_other m.words (cursor_index i) (word_place n c log e j) x 0 (place_after n c log e j (cursor_index i) (omega arith))

  pub places_risen : (x ≤ length m.log) ⊎ (x ≡ GONE) → (m.phase ≡ held → i ≢ m.holder) → Places n c risen
  places_risen count unheld = record {
    some_place = pl.some_place;
    few_stations = pl.few_stations;
    words_are_all = length-set m.words (cursor_index i) x ∙ pl.words_are_all;
    owner_is = get_or-set_other m.words (cursor_index i) 0 x 0 (λ e. omega arith) ∙ pl.owner_is;
    holder_is_open = pl.holder_is_open;
    lower_are_gone = λ s l. le_trans (pl.lower_are_gone s l) (cursor_up s);
    lead_counts = λ e. subst (λ (z : ℕ). z ≤ length m.log) (sym (cursor_else m.holder (λ q. unheld e (sym q)))) (pl.lead_counts e);
    head_is_length = get_or-set_other m.words (cursor_index i) head_index x 0 (λ e. omega arith) ∙ pl.head_is_length;
    cursor_is_count_or_gone = λ s l. ⊎_elim (λ (y : (s ≡ i) × (cursor ws' s ≡ x)). subst (λ (z : ℕ). (z ≤ length m.log) ⊎ (z ≡ GONE)) (sym y.1) count)
        (λ (y : (s ≢ i) × (cursor ws' s ≡ cursor m.words s)). subst (λ (z : ℕ). (z ≤ length m.log) ⊎ (z ≡ GONE)) (sym y.1) (pl.cursor_is_count_or_gone s l)) (cursor_set s);
    head_in_window = λ s ne l. let o : length m.log ≤ cursor m.words s + c = pl.head_in_window s ne l in let g = cursor_up s in omega arith;
    unread_stands = λ e s f ne l le g j y h. place_else m.log e j ∙ pl.unread_stands e s f ne l (le_trans (cursor_up s) le) g j y h;
    event_is_whole = pl.event_is_whole;
    log_is_short = pl.log_is_short;
  }

  pub on_risen : length m.seating ≤ n → Onward n m risen
  on_risen fit = record {
    near = fit;
    cursors = λ s l. cursor_up s;
    longer = λ _ _ h. h;
    seated = λ _ _ h. h;
    more = le_refl (length m.log);
    wider = le_refl (length m.seating);
    begun = λ k y e. inl (k, y, e, refl, refl);
    gone_spans = λ v s l g. refl;
    gone_last = λ v s l g. l;
  }

  -- an open station's cursor is none of the others'
  pub doors_risen : (versions : ℕ) (hands : List ℕ) → i < length m.seating → Doors n versions hands m → Doors n versions hands risen
  doors_risen versions hands inner d = record {
    all = d.all;
    least = d.least;
    first = d.first;
    is_version = d.is_version;
    ready_is = ⊎_elim (λ (q : m.ready ≡ length m.seating). inl q)
        (λ (q : (m.ready ≡ length m.seating + 1) × (m.phase ≡ held) × (cursor m.words (length m.seating) ≡ length m.log)). inr (q.0, q.1, cursor_else (length m.seating) (λ e. omega arith) ∙ q.2)) d.ready_is;
    shut = λ s l b. cursor_else s (λ e. (let q = d.ready_is in ⊎_elim (λ (a : m.ready ≡ length m.seating). omega arith)
        (λ (a : (m.ready ≡ length m.seating + 1) × (m.phase ≡ held) × (cursor m.words (length m.seating) ≡ length m.log)). let z = a.0 in omega arith) q)) ∙ d.shut s l b;
    planned = d.planned;
  }

  -- the cursor of a seat's station changes, and of its former one, as little as it is this one
  pub own_risen : {T : Type 0} (u : View T) → u.station ≢ i → (r : Role) → ((r ≡ Moving) → u.former ≢ i) → Own n c m risen u r
  own_risen u ne Reader other = record {
    cursor_same = cursor_else u.station ne;
    led_same = refl;
    freed_on = λ k f. record { is_free = f.is_free; at_head = f.at_head; opened_is = f.opened_is; lower_gone = λ s l. le_trans (f.lower_gone s l) (cursor_up s) };
  }
  own_risen u ne Lead other = record { held_on = refl; holder_same = refl; log_same = refl; whos_same = refl; ready_same = refl; place_same = λ wrote j l. place_else (m.log ++ wrote ∷ []) (length m.log) j }
  own_risen u ne Opening other = record { held_on = refl; holder_same = refl; log_same = refl; whos_same = refl; ready_same = refl; place_same = λ wrote j l. place_else (m.log ++ wrote ∷ []) (length m.log) j }
  own_risen u ne Leaving other = record { not_held_on = λ e. e; holder_same = refl; cursor_same = cursor_else u.station ne }
  own_risen u ne Moving other = record { not_held_on = λ e. e; holder_same = refl; log_same = refl; who_same = refl; former_same = cursor_else u.former (other refl); cursor_same = cursor_else u.station ne; led_same = refl }
  own_risen u ne Gone other = tt
  own_risen u ne Spent other = tt

module _ {K : Type 0} (hist : K → List Entry) (came : K → K → List ℕ → Type 0) (p : Layout K) where
  -- what no view enters, where an open station's cursor rises
  pub common_risen : (homes : List (maybe.Option (Option K))) (m : Moment) (o : Common hist came p homes m) (i x : ℕ) (near : i < p.stations) (up : cursor m.words i ≤ x) → (x ≤ length m.log) ⊎ (x ≡ GONE)
      → (m.phase ≡ held → i ≢ m.holder) → i < length m.seating → Common hist came p homes (risen p.stations p.places m i x o.places near up)
  common_risen homes m o i x near up count unheld inner = record {
    events = o.events;
    log_is_spelt = o.log_is_spelt;
    log_is_lawful = o.log_is_lawful;
    closed_has_ended = o.closed_has_ended;
    home = o.home;
    places = places_risen p.stations p.places m i x o.places near up count unheld;
    led = record { tile = o.led.tile; rise = o.led.rise; last_is_holders = o.led.last_is_holders; unled_is_free = o.led.unled_is_free };
    doors = doors_risen p.stations p.places m i x o.places near up p.versions p.hands.value.items inner o.doors;
    turns = o.turns;
  }

  abbrev St : Type 0
  St = State (Option K) (View K)

  abbrev RuleOf : St → Type 0
  RuleOf = Rule hist came p

  abbrev M : Type 0
  M = Me (Option K) (View K)

  pub advances : (slots id new : ℕ) (me : M) → me.0.role ≡ Reader → IsWhole me.0.read → new ≡ length me.0.seen + 1
      → Allows RuleOf slots id me (cursor_index me.0.station) (λ _. new) (λ _. goes_ahead (step slots (cursor_index me.0.station) new 0 none) me new)
  advances slots id new me role full is s r wide at _ = let v = me.0 in let n : ℕ = p.stations in let c : ℕ = p.places in let kn = r.each_seat id v at in let size : ℕ = length v.seen in let pl = r.common.places in
      let m : Moment = now hist came p s r in
      let ir = in_role hist came p s r id v at Reader role in
      let se = seated hist came p s r id v at Reader role tt in
      let i : ℕ = v.station in
      let near : i < n = role_near hist came p s r id v at Reader role tt in
      let mine : cursor s.words i ≡ size = ir.cursor_is_length in
      let six : 6 ≤ length v.read = full.0 in
      let one = there v.read 0 (omega arith) in
      let rd0 = kn.read_begins_next 0 one.0 one.1 in
      let e : List ℕ = rd0.0 in
      let len : ℕ = length r.log in
      let lt : size < len = at_below r.log size e rd0.1 in
      let rd : Prefix v.read e = λ j x f. let y = kn.read_begins_next j x f in subst (λ (z : List ℕ). get_elem? z j ≡ some x) (some-injective y.0 e (sym y.1 ∙ rd0.1)) y.2 in
      let same : v.read ≡ e = whole_same v.read e rd full (pl.event_is_whole size e rd0.1).0 in let entry : get_elem? r.log size ≡ some v.read = rd0.1 ∙ ap some (sym same) in
      let up : cursor s.words i ≤ new = omega arith in let m' : Moment = risen n c m i new pl near up in let w : View K = one_on v in
      let pre : Prefix (v.seen ++ v.read ∷ []) r.log = prefix_more v.seen v.read r.log kn.seen_is_prefix entry in let on = on_risen n c m i new pl near up (open_near hist came p s r) in let live : Live v.role = subst Live (sym role) tt in (
        w,
        keeps,
        tt,
        moved hist came p s r (cursor_index i) new id me.1 keeps m' v w at
            (subst NoClash (sym (same_tags hist came p s.views id v w at refl)) r.one_seat_a_version) (λ e. lead_stays s.views id r.holder v w at (λ q. (q, refl)) (r.held_has_lead e))
            (common_risen s.homes m r.common i new near up (inl (omega arith)) (λ e. not_held m i r.common.led ir.led_nothing e) (last_near r.seating v.version i se.last)) on
            (λ j u ne f l. (
              own_risen n c m i new pl near up u (apart_from hist came p s r j id u v f at ne live l) u.role (former_apart hist came p s r j id u v f at ne live l i se.last.has),
              refl,
              (λ z. z),
              λ t q. cursor_else n c m i new pl near up t (apart_unmade hist came p s r j id u v f at ne live l t q i se.last.has),
            )) record {
              seen_is_prefix = pre;
              read_begins_next = λ j x f. absurd (some-ne-none x (sym f));
              floor_at_most_cursor = λ z l. le_trans (kn.floor_at_most_cursor z l) (cursor_up n c m i new pl near up z);
              head_seen_at_most_head = kn.head_seen_at_most_head;
              owner_seen_at_most_head = kn.owner_seen_at_most_head;
              opened_at_most_open = kn.opened_at_most_open;
              in_role = subst (InRole n c m' w) (sym role) record {
                cursor_is_length = cursor_there n c m i new pl near up ∙ is ∙ sym (length-append v.seen (v.read ∷ []));
                led_nothing = ir.led_nothing;
                wrote_nothing = ir.wrote_nothing;
                freed_stays = λ k q. let f = ir.freed_stays k q in record { is_free = f.is_free; at_head = f.at_head; opened_is = f.opened_is; lower_gone = λ z l. le_trans (f.lower_gone z l) (cursor_up n c m i new pl near up z) };
              };
              seated = λ l. record {
                start_is = se.start_is;
                places_are = se.places_are;
                opened_least = se.opened_least;
                last = se.last;
                spans_are = se.spans_are;
                unmade_is_new = λ t q. cursor_else n c m i new pl near up t (unmade_apart n p.versions (planned hist came p) m v.version i v.made t r.common.doors se.last.has q) ∙ se.unmade_is_new t q;
                others_are_gone = λ t has ne out. le_trans (se.others_are_gone t has ne out) (cursor_up n c m i new pl near up t);
              };
              ended_is_past = λ k y f. past_on n m m' y on (kn.ended_is_past k y f);
            }
            (merge_turned n c s.views id v w at s.words (set s.words (cursor_index i) new) r.log r.phase r.merge (second_kept n c (cursor_index i) new s.words (omega arith))
            (λ e. r.merge.lead_tells id v at e) (λ _. notes_none r.log (v.seen ++ v.read ∷ []) [] refl) (λ l. r.merge.floors_wide id v at l)),
        (refl, told hist came p s r (v.seen ++ v.read ∷ []) pre, (let short : len ≤ 500000000 = pl.log_is_short in omega arith)),
      )

  pub advances_at : (slots id k new : ℕ) (me : M) → me.0.role ≡ Reader → IsWhole me.0.read → k ≡ cursor_index me.0.station → new ≡ length me.0.seen + 1
      → Allows RuleOf slots id me k (λ _. new) (λ _. goes_ahead (step slots k new 0 none) me new)
  advances_at slots id k new me role full at is = subst (λ (z : ℕ). Allows RuleOf slots id me z (λ _. new) (λ _. goes_ahead (step slots z new 0 none) me new)) (sym at) (advances slots id new me role full is)

  -- what lets a station leave: it is no lower than the holder, and holds nothing
  pub record MayLeave (m : Moment) (station : ℕ) (wrote : List ℕ) : Type 0 where
    pub count : cursor m.words station ≤ length m.log
    pub unheld : m.phase ≡ held → station ≢ m.holder
    pub quiet : wrote ≡ []

  may_leave : (m : Moment) (v : View K) → Led m → length v.seen ≤ length m.log → (r : Role) → (r ≡ Reader) ⊎ (r ≡ Leaving) → InRole p.stations p.places m v r → MayLeave m v.station v.wrote
  may_leave m v led short Reader either k = record { count = let a = k.cursor_is_length in omega arith; unheld = λ e. not_held m v.station led k.led_nothing e; quiet = k.wrote_nothing }
  may_leave m v led short Lead either k = absurd (⊎_elim (λ (e : Lead ≡ Reader). cc) (λ (e : Lead ≡ Leaving). cc) either)
  may_leave m v led short Opening either k = absurd (⊎_elim (λ (e : Opening ≡ Reader). cc) (λ (e : Opening ≡ Leaving). cc) either)
  may_leave m v led short Leaving either k = record { count = k.cursor_is_count; unheld = λ e. absurd (k.not_held e); quiet = k.wrote_nothing }
  may_leave m v led short Moving either k = absurd (⊎_elim (λ (e : Moving ≡ Reader). cc) (λ (e : Moving ≡ Leaving). cc) either)
  may_leave m v led short Gone either k = absurd (⊎_elim (λ (e : Gone ≡ Reader). cc) (λ (e : Gone ≡ Leaving). cc) either)
  may_leave m v led short Spent either k = absurd (⊎_elim (λ (e : Spent ≡ Reader). cc) (λ (e : Spent ≡ Leaving). cc) either)

  pub leaves : (slots id new : ℕ) (me : M) → (me.0.role ≡ Reader) ⊎ (me.0.role ≡ Leaving) → new ≡ GONE
      → Allows RuleOf slots id me (cursor_index me.0.station) (λ _. new) (λ _. left (step slots (cursor_index me.0.station) new 0 none) me new)
  leaves slots id new me role is s r wide at _ = let v = me.0 in let n : ℕ = p.stations in let c : ℕ = p.places in let kn = r.each_seat id v at in let pl = r.common.places in
      let m : Moment = now hist came p s r in let live : Live v.role = ⊎_elim (λ (e : v.role ≡ Reader). subst Live (sym e) tt) (λ (e : v.role ≡ Leaving). subst Live (sym e) tt) role in
      let se : IsSeated p m v = kn.seated live in let i : ℕ = v.station in let near : i < n = seat_near hist came p s r id v at live in let len : ℕ = length r.log in let few : len ≤ 500000000 = pl.log_is_short in
      let stays : v.role ≢ Moving = λ e. ⊎_elim (λ (f : v.role ≡ Reader). let q : Reader ≡ Moving = sym f ∙ e in (let z : ⊥ = cc in z)) (λ (f : v.role ≡ Leaving). let q : Leaving ≡ Moving = sym f ∙ e in (let z : ⊥ = cc in z)) role in
      let may = may_leave m v r.common.led (prefix_length v.seen r.log kn.seen_is_prefix) v.role role kn.in_role in let count : cursor s.words i ≤ len = may.count in
      let up : cursor s.words i ≤ new = omega arith in let m' : Moment = risen n c m i new pl near up in let w : View K = as_gone v in let on = on_risen n c m i new pl near up (open_near hist came p s r) in
      let low : r.holder ≤ i = dite (dec_le r.holder i) (λ le. le) (λ gt. let lt : i < r.holder = lt_of_not-le gt in let g = pl.lower_are_gone i lt in absurd (omega arith)) in
      let tags : NoClash (map tag (set s.views id w)) = subst NoClash (sym (map-set tag s.views id w)) (apart_role hist came p s r id v Gone at live) in (
        w,
        keeps,
        tt,
        moved hist came p s r (cursor_index i) new id me.1 keeps m' v w at tags
            (λ e. lead_stays s.views id r.holder v w at (λ q. absurd (⊎_elim (λ (f : v.role ≡ Reader). subst Leads f q) (λ (f : v.role ≡ Leaving). subst Leads f q) role)) (r.held_has_lead e))
            (common_risen s.homes m r.common i new near up (inr is) may.unheld (last_near r.seating v.version i se.last)) on
            (λ j u ne f l. (
              own_risen n c m i new pl near up u (apart_from hist came p s r j id u v f at ne live l) u.role (former_apart hist came p s r j id u v f at ne live l i se.last.has),
              refl,
              (λ z. z),
              λ t q. cursor_else n c m i new pl near up t (apart_unmade hist came p s r j id u v f at ne live l t q i se.last.has),
            )) record {
              seen_is_prefix = kn.seen_is_prefix;
              read_begins_next = kn.read_begins_next;
              floor_at_most_cursor = λ z l. le_trans (kn.floor_at_most_cursor z l) (cursor_up n c m i new pl near up z);
              head_seen_at_most_head = kn.head_seen_at_most_head;
              owner_seen_at_most_head = kn.owner_seen_at_most_head;
              opened_at_most_open = kn.opened_at_most_open;
              in_role = record {
                cursor_is_gone = let a : cursor (set s.words (cursor_index i) new) i ≡ new = cursor_there n c m i new pl near up in omega arith;
                before_later = λ k y e lt. let top = none_above m k y r.common.led e in absurd (omega arith);
                wrote_nothing = may.quiet;
              };
              seated = λ l. record {
                start_is = se.start_is;
                places_are = se.places_are;
                opened_least = se.opened_least;
                last = se.last;
                spans_are = se.spans_are;
                unmade_is_new = λ t q. cursor_else n c m i new pl near up t (unmade_apart n p.versions (planned hist came p) m v.version i v.made t r.common.doors se.last.has q) ∙ se.unmade_is_new t q;
                others_are_gone = λ t has ne out. le_trans (se.others_are_gone t has ne (λ e. absurd (stays e))) (cursor_up n c m i new pl near up t);
              };
              ended_is_past = λ k y f. past_on n m m' y on (kn.ended_is_past k y f);
            }
            (merge_turned n c s.views id v w at s.words (set s.words (cursor_index i) new) r.log r.phase r.merge (second_kept n c (cursor_index i) new s.words (omega arith)) (λ e. absurd e)
            (λ (e : Gone ≡ Reader). cc) (λ _. r.merge.floors_wide id v at live)),
        refl,
      )

  pub leaves_at : (slots id k new : ℕ) (me : M) → (me.0.role ≡ Reader) ⊎ (me.0.role ≡ Leaving) → k ≡ cursor_index me.0.station → new ≡ GONE
      → Allows RuleOf slots id me k (λ _. new) (λ _. left (step slots k new 0 none) me new)
  leaves_at slots id k new me role at is = subst (λ (z : ℕ). Allows RuleOf slots id me z (λ _. new) (λ _. left (step slots z new 0 none) me new)) (sym at) (leaves slots id new me role is)
