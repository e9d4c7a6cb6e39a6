-- What the rule tells of one seat, and that a seat whose role changes is still apart from the others.
use Rattle.std.proofs.Common.{◌≡◌, ℕ, ◌+◌, ◌<◌, ◌≤◌, ◌≢◌, List, [], ◌∷◌, ◌++◌, map, length, take, set, sym, ap, ◌∙◌, subst, inl, inr, ⊎_elim, lt_of_not-le, arith, length-append}
use mathlib.Core.Path.{Path}
use mathlib.Core.Logic.{dite}
use native.Mathlib.Decide.{ℕ_discrete, dec_le}
use mathlib.Core.Option.{some, some-injective, some-ne-none}
use lib.ListN.{get_elem?}
use Rattle.std.specs.List.{take-map}
use Rattle.std.specs.Prelude.{Option}
use Rattle.atomic_table.specs.Table.{State}
use Rattle.atomic_table.proofs.Lists.{at_set, at_map}
use Rattle.nv_calls.specs.Calls.{Entry}
use Rattle.nv_calls.proofs.LogLaws.{lawful_take}
use Rattle.nv_words.specs.Spelling.{spell}
use Rattle.nv_words.specs.Begins.{Prefix}
use Rattle.nv_room.specs.declared.view.View.{View}
use Rattle.nv_room.specs.declared.view.Layout.{Layout}
use Rattle.nv_room.specs.declared.view.Span.{Span}
use Rattle.nv_room.specs.declared.view.Role.{Role}
use Rattle.nv_room.specs.declared.view.Role.TheVariants.{Reader, Lead, Opening, Leaving, Moving, Gone, Spent}
use Rattle.nv_room.specs.Placement.{Log}
use Rattle.nv_room.specs.Owner.{held, free}
use Rattle.nv_room.specs.Spans.{Rising, of_station, IsLastStation}
use Rattle.nv_room.specs.Room.{cursor, Moment, Doors, Led, InRole, Live, Leads, Unmade, IsSeated, Tag, tag, Clash, NoClash, Rule}
use Rattle.nv_room.specs.Steps.{SpellLawful}
use Rattle.nv_room.proofs.Lists.{at_end, prefix_take}
use Rattle.nv_room.proofs.Tiling.{last_of, tiles_none, below_last, of_more_own}
use Rattle.nv_room.proofs.Counts.{below_most}
use Rattle.nv_room.proofs.Stays.{Own, last_near, planned, now}

-- a prefix, and what follows it
pub prefix_more : (xs : Log) (x : List ℕ) (ys : Log) → Prefix xs ys → get_elem? ys (length xs) ≡ some x → Prefix (xs ++ x ∷ []) ys
prefix_more xs x ys pre next i y f = ⊎_elim (λ (g : get_elem? xs i ≡ some y). pre i y g) (λ (g : (i ≡ length xs) × (x ≡ y)). ap (get_elem? ys) g.0 ∙ next ∙ ap some g.1) (at_end xs x y i f)

-- the holder has a span where there is any
pub holder_led : (m : Moment) (st : ℕ) → Led m → of_station st m.spans ≡ [] → st ≡ m.holder → m.spans ≡ []
holder_led m st led none is = ⊎_elim (λ (e : m.spans ≡ []). e)
    (λ (q : (xs : List Span) × (x : Span) × (m.spans ≡ xs ++ x ∷ [])).
    let own : of_station st m.spans ≡ of_station st q.0 ++ q.1 ∷ [] = ap (of_station st) q.2 ∙ of_more_own st q.0 q.1 (led.last_is_holders q.0 q.1 q.2 ∙ sym is) in
    let long : length (of_station st q.0 ++ q.1 ∷ []) ≡ 0 = ap (λ (z : List Span). length z) (sym own ∙ none) in
    let more = length-append (of_station st q.0) (q.1 ∷ []) in absurd (omega arith))
    (last_of m.spans)

-- no station above the holder led
pub none_above : (m : Moment) (i : ℕ) (x : Span) → Led m → get_elem? m.spans i ≡ some x → x.station ≤ m.holder
none_above m i x led e = ⊎_elim
    (λ (q : m.spans ≡ []). absurd (some-ne-none x (sym e ∙ ap (λ (z : List Span). get_elem? z i) q)))
    (λ (q : (xs : List Span) × (y : Span) × (m.spans ≡ xs ++ y ∷ [])).
    let high = below_last 0 q.0 q.1 (subst (Rising 0) q.2 led.rise) i x (ap (λ (z : List Span). get_elem? z i) (sym q.2) ∙ e) in let last = led.last_is_holders q.0 q.1 q.2 in omega arith)
    (last_of m.spans)

-- a station that led nothing holds nothing, once there is an event
pub not_holder : (m : Moment) (st : ℕ) → Led m → of_station st m.spans ≡ [] → 0 < length m.log → st ≢ m.holder
not_holder m st led none pos is = let e = tiles_none 0 (length m.log) m.spans led.tile (holder_led m st led none is) in omega arith

-- and is not held by it
pub not_held : (m : Moment) (st : ℕ) → Led m → of_station st m.spans ≡ [] → m.phase ≡ held → st ≢ m.holder
not_held m st led none is same = let e = led.unled_is_free (holder_led m st led none same) in let q : held ≡ free = sym is ∙ e in cc

-- no step of a lead touches another seat
pub beside_lead : {T : Type 0} (n c : ℕ) (m m' : Moment) (u : View T) (h : ℕ) → m.phase ≡ held → h ≡ m.holder → h ≢ u.station → m'.holder ≡ m.holder
    → cursor m'.words u.station ≡ cursor m.words u.station → of_station u.station m'.spans ≡ of_station u.station m.spans
    → (r : Role) → InRole n c m u r → Own n c m m' u r
beside_lead n c m m' u h is hs ne same cur led Reader k = record { cursor_same = cur; led_same = led; freed_on = λ q f. absurd (let e = f.is_free in let a : held ≡ free = sym is ∙ e in cc) }
beside_lead n c m m' u h is hs ne same cur led Lead k = absurd (ne (hs ∙ sym k.is_holder))
beside_lead n c m m' u h is hs ne same cur led Opening k = absurd (ne (hs ∙ sym k.is_holder))
beside_lead n c m m' u h is hs ne same cur led Leaving k = absurd (k.not_held is)
beside_lead n c m m' u h is hs ne same cur led Moving k = absurd (k.not_held is)
beside_lead n c m m' u h is hs ne same cur led Gone k = tt
beside_lead n c m m' u h is hs ne same cur led Spent k = tt

-- a station has one version
pub one_who : (seating : List ℕ) (s t v w : ℕ) → get_elem? seating s ≡ some v → get_elem? seating t ≡ some w → s ≡ t → v ≡ w
one_who seating s t v w a b e = some-injective v w (sym a ∙ ap (get_elem? seating) e ∙ b)

-- two last stations of one version are the same
pub one_last : (seating : List ℕ) (v s t : ℕ) → IsLastStation seating v s → IsLastStation seating v t → s ≡ t
one_last seating v s t a b = dite (ℕ_discrete s t) (λ e. e) (λ ne. dite (dec_le s t) (λ le. absurd (a.none_later t (omega arith) b.has)) (λ gt. absurd (b.none_later s (lt_of_not-le gt) a.has)))

-- a seat that is still to be made is of another station
pub unmade_apart : (n versions : ℕ) (hands : List ℕ) (m : Moment) (v s made t : ℕ) → Doors n versions hands m → get_elem? m.seating s ≡ some v → Unmade versions v made t → t ≢ s
unmade_apart n versions hands m v s made t d has u same = let e : t ≡ v = one_who m.seating t s t v (d.first t u.near) has same in let a = u.first in let b = u.other in omega arith

-- a seat that has the kernel is not spent, and its station is the holder's
pub leads_lives : (r : Role) → Leads r → Live r
leads_lives Reader l = absurd l
leads_lives Lead l = tt
leads_lives Opening l = tt
leads_lives Leaving l = absurd l
leads_lives Moving l = absurd l
leads_lives Gone l = absurd l
leads_lives Spent l = absurd l

pub leads_at : {T : Type 0} (n c : ℕ) (m : Moment) (u : View T) (r : Role) → Leads r → InRole n c m u r → u.station ≡ m.holder
leads_at n c m u Reader l k = absurd l
leads_at n c m u Lead l k = k.is_holder
leads_at n c m u Opening l k = k.is_holder
leads_at n c m u Leaving l k = absurd l
leads_at n c m u Moving l k = absurd l
leads_at n c m u Gone l k = absurd l
leads_at n c m u Spent l k = absurd l

-- a seat is set again with a tag that clashes with no more
module _ (ts : List Tag) (id : ℕ) (a b : Tag) (at : get_elem? ts id ≡ some a) (less : (y : Tag) → Clash b y → Clash a y) (more : (y : Tag) → Clash y b → Clash y a) (old : NoClash ts) where
  pub apart_again : NoClash (set ts id b)
  apart_again j h x y e f c = ⊎_elim
      (λ (p : (j ≡ id) × (Path Tag b x)). ⊎_elim (λ (q : (h ≡ id) × (Path Tag b y)). p.0 ∙ sym q.0)
      (λ (q : (h ≢ id) × (get_elem? ts h ≡ some y)). p.0 ∙ old id h a y at q.1 (less y (subst (λ (z : Tag). Clash z y) (λ i. sym p.1 i) c))) (at_set ts id h b y f))
      (λ (p : (j ≢ id) × (get_elem? ts j ≡ some x)). ⊎_elim (λ (q : (h ≡ id) × (Path Tag b y)). old j id x a p.1 at (more x (subst (λ (z : Tag). Clash x z) (λ i. sym q.1 i) c)) ∙ sym q.0)
      (λ (q : (h ≢ id) × (get_elem? ts h ≡ some y)). old j h x y p.1 q.1 c) (at_set ts id h b y f))
      (at_set ts id j b x e)

module _ {K : Type 0} (hist : K → List Entry) (came : K → K → List ℕ → Type 0) (p : Layout K) where
  abbrev St : Type 0
  St = State (Option K) (View K)

  abbrev RuleOf : St → Type 0
  RuleOf = Rule hist came p

  -- a live seat whose role alone changes, as far as others see it
  pub apart_role : (s : St) (r : RuleOf s) (id : ℕ) (v : View K) (role : Role) → get_elem? s.views id ≡ some v → Live v.role → NoClash (set (map tag s.views) id (role, (tag v).1, (tag v).2, (tag v).3))
  apart_role s r id v role at l = apart_again (map tag s.views) id (tag v) (role, (tag v).1, (tag v).2, (tag v).3) (at_map tag s.views id v at) (λ y c. (l, c.1, c.2)) (λ y c. (c.0, l, c.2)) r.one_seat_a_version

  -- two seats that are not spent have two versions
  pub apart_version : (s : St) (r : RuleOf s) (j id : ℕ) (u v : View K) → get_elem? s.views j ≡ some u → get_elem? s.views id ≡ some v → j ≢ id → Live v.role → Live u.role → u.version ≢ v.version
  apart_version s r j id u v e at ne lv lu same = ne (r.one_seat_a_version j id (tag u) (tag v) (at_map tag s.views j u e) (at_map tag s.views id v at) (lu, lv, inl same))

  -- the station of a seat's version has no other seat
  pub apart_at : (s : St) (r : RuleOf s) (j id : ℕ) (u v : View K) → get_elem? s.views j ≡ some u → get_elem? s.views id ≡ some v → j ≢ id → Live v.role → Live u.role → (t : ℕ) → get_elem? r.seating t ≡ some v.version → u.station ≢ t
  apart_at s r j id u v e at ne lv lu t has same = apart_version s r j id u v e at ne lv lu (one_who r.seating u.station t u.version v.version ((r.each_seat j u e).seated lu).last.has has same)

  -- two seats that are not spent have two stations
  pub apart_from : (s : St) (r : RuleOf s) (j id : ℕ) (u v : View K) → get_elem? s.views j ≡ some u → get_elem? s.views id ≡ some v → j ≢ id → Live v.role → Live u.role → u.station ≢ v.station
  apart_from s r j id u v e at ne lv lu = apart_at s r j id u v e at ne lv lu v.station ((r.each_seat id v at).seated lv).last.has

  -- there is one lead
  pub alone : (s : St) (r : RuleOf s) (id : ℕ) (v : View K) → get_elem? s.views id ≡ some v → Live v.role → v.station ≡ r.holder → (j : ℕ) (u : View K) → j ≢ id → get_elem? s.views j ≡ some u → ¬ Leads u.role
  alone s r id v at live holds j u ne f is = apart_from s r j id u v f at ne live (leads_lives u.role is) (leads_at p.stations p.places (now hist came p s r) u u.role is (r.each_seat j u f).in_role ∙ sym holds)

  -- no seat is at a station whose seat is still to be made
  pub apart_unmade : (s : St) (r : RuleOf s) (j id : ℕ) (u v : View K) → get_elem? s.views j ≡ some u → get_elem? s.views id ≡ some v → j ≢ id → Live v.role → Live u.role → (t : ℕ)
      → Unmade p.versions u.version u.made t → (z : ℕ) → get_elem? r.seating z ≡ some v.version → t ≢ z
  apart_unmade s r j id u v e at ne lv lu t un z has same = ne
      (r.one_seat_a_version j id (tag u) (tag v) (at_map tag s.views j u e) (at_map tag s.views id v at)
      (lu, lv, inr (inl (un.first, inl (let a = un.not_made in let b : t ≡ v.version = one_who r.seating t z t v.version (r.common.doors.first t un.near) has same in omega arith)))))

  pub in_role : (s : St) (r : RuleOf s) (id : ℕ) (v : View K) → get_elem? s.views id ≡ some v → (role : Role) → v.role ≡ role → InRole p.stations p.places (now hist came p s r) v role
  in_role s r id v at role is = subst (InRole p.stations p.places (now hist came p s r) v) is (r.each_seat id v at).in_role

  -- no other seat still has to leave a station of this seat's version
  pub former_apart : (s : St) (r : RuleOf s) (j id : ℕ) (u v : View K) → get_elem? s.views j ≡ some u → get_elem? s.views id ≡ some v → j ≢ id → Live v.role → Live u.role → (z : ℕ)
      → get_elem? r.seating z ≡ some v.version → u.role ≡ Moving → u.former ≢ z
  former_apart s r j id u v e at ne lv lu z has is same = apart_version s r j id u v e at ne lv lu (one_who r.seating u.former z u.version v.version (in_role s r j u e Moving is).version_is has same)

  pub seated : (s : St) (r : RuleOf s) (id : ℕ) (v : View K) → get_elem? s.views id ≡ some v → (role : Role) → v.role ≡ role → Live role → IsSeated p (now hist came p s r) v
  seated s r id v at role is l = (r.each_seat id v at).seated (subst Live (sym is) l)

  -- all open stations are the room's
  pub open_near : (s : St) (r : RuleOf s) → length r.seating ≤ p.stations
  open_near s r = let d = r.common.doors in let a = d.all in let b = d.planned in let e = below_most (planned hist came p) (length r.log + 1) in
      ⊎_elim (λ (q : r.ready ≡ length r.seating). omega arith) (λ (q : (r.ready ≡ length r.seating + 1) × (r.phase ≡ held) × (cursor s.words (length r.seating) ≡ length r.log)). let z = q.0 in omega arith) d.ready_is

  -- a seat's station is one of them
  pub seat_near : (s : St) (r : RuleOf s) (id : ℕ) (v : View K) → get_elem? s.views id ≡ some v → Live v.role → v.station < p.stations
  seat_near s r id v at l = let a = last_near r.seating v.version v.station ((r.each_seat id v at).seated l).last in let b = open_near s r in omega arith

  pub role_near : (s : St) (r : RuleOf s) (id : ℕ) (v : View K) → get_elem? s.views id ≡ some v → (role : Role) → v.role ≡ role → Live role → v.station < p.stations
  role_near s r id v at role is l = seat_near s r id v at (subst Live (sym is) l)

  -- where the owner isn't held, no station is ready but the open ones
  pub none_ready : (s : St) (r : RuleOf s) → r.phase ≢ held → r.ready ≡ length r.seating
  none_ready s r ne = ⊎_elim (λ (q : r.ready ≡ length r.seating). q) (λ (q : (r.ready ≡ length r.seating + 1) × (r.phase ≡ held) × (cursor s.words (length r.seating) ≡ length r.log)). absurd (ne q.1)) r.common.doors.ready_is

  -- the first events of the log are lawful
  pub told : (s : St) (r : RuleOf s) (xs : Log) → Prefix xs r.log → SpellLawful xs
  told s r xs pre = let es = r.common.events in (
    take (length xs) es,
    sym (take-map spell (length xs) es) ∙ ap (take (length xs)) r.common.log_is_spelt ∙ prefix_take xs r.log pre,
    lawful_take es (length xs) r.common.log_is_lawful,
  )
