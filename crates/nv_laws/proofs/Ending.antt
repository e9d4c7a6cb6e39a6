-- A run comes to its end.
use Rattle.std.proofs.Common.{◌≡◌, ◌≢◌, ◌⊎◌, ◌∙◌, ℕ, zero, suc, ◌+◌, ◌-◌, ◌<◌, ◌≤◌, List, [], ◌∷◌, length, sym, refl, ap, subst, inl, inr, ⊎_elim, lt_of_not-le, arith, length-set}
use mathlib.Core.Logic.{dite}
use mathlib.Core.Option.{some, some-injective}
use native.Mathlib.Decide.{ℕ_discrete, dec_le}
use lib.ListN.{get_elem?}
use Rattle.std.specs.Prelude.{Option}
use Rattle.atomic_table.specs.Table.{State}
use Rattle.atomic_table.proofs.Lists.{set_here, set_else}
use Rattle.nv_calls.specs.Calls.{Entry}
use Rattle.nv_room.specs.declared.view.View.{View}
use Rattle.nv_room.specs.declared.view.Layout.{Layout}
use Rattle.nv_room.specs.declared.view.Role.{Role}
use Rattle.nv_room.specs.declared.view.Role.TheVariants.{Reader, Lead, Opening, Leaving, Moving, Gone, Spent}
use Rattle.nv_room.specs.Room.{Live, Rule}
use Rattle.nv_laws.specs.GetsOn.{moment, AllSeated, CanGetOn, Stays, SomeStays}
use Rattle.nv_room.specs.Kinds.{Kind, StepGives}
use Rattle.nv_laws.specs.Steps.{gets_on}
use Rattle.nv_laws.specs.Plays.{Does}
use Rattle.nv_laws.specs.Traces.{Finds, Trace, GetsOnByNone, HasToWait}
use Rattle.nv_laws.specs.Runs.{steps_of, turns_of, IsRun, IsTurn, HasTurn, Windows, TakesTurns, IsFair, all_left}
use Rattle.nv_laws.proofs.Lists.{at_below}
use Rattle.nv_laws.proofs.Stuck.{not_stuck}
use Rattle.nv_laws.proofs.Falling.{one_falls}
use Rattle.nv_laws.proofs.Played.{does_gives}
use Rattle.nv_laws.proofs.Lasting.{lasts}
use Rattle.nv_laws.proofs.Waiting.{own_step as reader_step, saw_now, saw_can}
use Rattle.nv_laws.proofs.LeadWaiting.{own_step as lead_step, place_now}
use Rattle.nv_laws.proofs.Windows.{can_stays, need_not}
use Rattle.nv_laws.proofs.Kept.{same_role, same_version, live_on, stayed}
use Rattle.nv_laws.proofs.Sums.{steps_fall, some_left, some_or_none, turns_stay, turns_fall}

module _ {K : Type 0} (hist : K → List Entry) (came : K → K → List ℕ → Type 0) (p : Layout K) where
  abbrev St : Type 0
  St = State (Option K) (View K)

  -- One step

  module _ (s s' : St) (r : Rule hist came p s) (id : ℕ) (k : Kind) (d : Does hist came p s s' id k) where
    gives : StepGives p.stations d.me.0 d.next.0 k
    gives = does_gives hist came p s r s' id k d

    here : get_elem? s'.views id ≡ some d.next.0
    here = ap (λ (z : List (View K)). get_elem? z id) d.views ∙ set_here s.views id d.next.0 (at_below s.views id d.me.0 d.at)

    elsewhere : (j : ℕ) → j ≢ id → get_elem? s'.views j ≡ get_elem? s.views j
    elsewhere j ne = ap (λ (z : List (View K)). get_elem? z j) d.views ∙ set_else s.views id j d.next.0 ne

    step_falls : gets_on k + steps_of p.stations s'.views ≤ steps_of p.stations s.views
    step_falls = subst (λ (z : List (View K)). gets_on k + steps_of p.stations z ≤ steps_of p.stations s.views) (sym d.views) (steps_fall p.stations s.views id (gets_on k) d.me.0 d.next.0 d.at (one_falls p.stations d.me.0 d.next.0 k gives))

    step_count : length s'.views ≡ length s.views
    step_count = ap (λ (z : List (View K)). length z) d.views ∙ length-set s.views id d.next.0

    step_stays : SomeStays s'.views → SomeStays s.views
    step_stays q = dite (ℕ_discrete q.0 id)
        (λ e. (id, d.me.0, d.at, stayed p.stations d.me.0 d.next.0 k gives (subst (λ (z : View K). Stays z.role) (some-injective q.1 d.next.0 (sym q.2 ∙ ap (λ (z : ℕ). get_elem? s'.views z) e ∙ here)) q.3)))
        (λ ne. (q.0, q.1, sym (elsewhere q.0 ne) ∙ q.2, q.3))

    step_seats : AllSeated p s.views → AllSeated p s'.views
    step_seats all = λ version near. let q = all version near in dite (ℕ_discrete q.0 id)
        (λ e.
        let same : q.1 ≡ d.me.0 = some-injective q.1 d.me.0 (sym q.2 ∙ ap (λ (z : ℕ). get_elem? s.views z) e ∙ d.at) in
        (id, d.next.0, here, (live_on p.stations d.me.0 d.next.0 k gives (subst (λ (z : View K). Live z.role) same q.3.0), same_version p.stations d.me.0 d.next.0 k gives ∙ ap (λ (z : View K). z.version) (sym same) ∙ q.3.1)))
        (λ ne. (q.0, q.1, elsewhere q.0 ne ∙ q.2, q.3))

  -- A seat that can get on still can while it doesn't get on, whatever steps the others take

  pub record CanStill (j : ℕ) (s : St) : Type 0 where
    pub rule : Rule hist came p s
    pub view : View K
    pub at : get_elem? s.views j ≡ some view
    pub can : CanGetOn p.places (moment rule) view view.role

  own_step : (s s' : St) (r : Rule hist came p s) (r' : Rule hist came p s') (j : ℕ) (k : Kind) (d : Does hist came p s s' j k) (v : View K) → d.me.0 ≡ v → get_elem? s.views j ≡ some v → gets_on k ≡ 0 → Finds s.words k → (role : Role) → v.role ≡ role → CanGetOn p.places (moment r) v role
      → CanGetOn p.places (moment r') d.next.0 role
  own_step s s' r r' j k d v me at none finds Reader is can = saw_can p.places (moment r') v d.next.0 (reader_step hist came p j v s s' r r' k d v me none finds is (saw_now p.places (moment r) v can)).1
  own_step s s' r r' j k d v me at none finds Lead is can = (lead_step hist came p j v s s' r r' k d v me at (here s s' r j k d) none finds is (place_now hist came p j s r v can)).1.can
  own_step s s' r r' j k d v me at none finds Opening is can = tt
  own_step s s' r r' j k d v me at none finds Leaving is can = tt
  own_step s s' r r' j k d v me at none finds Moving is can = tt
  own_step s s' r r' j k d v me at none finds Gone is can = can
  own_step s s' r r' j k d v me at none finds Spent is can = can

  one_on : (s s' : St) (r' : Rule hist came p s') (j id : ℕ) (k : Kind) → Does hist came p s s' id k → Finds s.words k → (j ≡ id → gets_on k ≡ 0) → CanStill j s → CanStill j s'
  one_on s s' r' j id k d finds none c = dite (ℕ_discrete j id)
      (λ e.
      let own : Does hist came p s s' j k = subst (λ (z : ℕ). Does hist came p s s' z k) (sym e) d in
      let me : own.me.0 ≡ c.view = some-injective own.me.0 c.view (sym own.at ∙ c.at) in
      let can : CanGetOn p.places (moment r') own.next.0 c.view.role = own_step s s' c.rule r' j k own c.view me c.at (none e) finds c.view.role refl c.can in
      let role : own.next.0.role ≡ c.view.role = same_role p.stations own.me.0 own.next.0 k (none e) (gives s s' c.rule j k own) ∙ ap (λ (z : View K). z.role) me in
      record { rule = r'; view = own.next.0; at = here s s' c.rule j k own; can = subst (λ (z : Role). CanGetOn p.places (moment r') own.next.0 z) (sym role) can })
      (λ ne. let q = lasts hist came p s s' c.rule r' id k d j c.view ne c.at c.can in record { rule = r'; view = c.view; at = q.0; can = q.1 })

  all_on : (xs : List (ℕ × Kind)) (s s' : St) (j : ℕ) → Trace hist came p xs s s' → GetsOnByNone j xs → CanStill j s → CanStill j s'
  all_on [] s s' j t none c = subst (CanStill j) (sym t) c
  all_on (x ∷ xs) s s' j t none c = all_on xs t.0 s' j t.4 none.1 (one_on s t.0 t.1 j x.0 x.1 t.2 t.3 none.0 c)

module _ {K : Type 0} (hist : K → List Entry) (came : K → K → List ℕ → Type 0) (p : Layout K) (state : ℕ → State (Option K) (View K)) (left : ℕ → ℕ → ℕ) (run : IsRun hist came p state left) where
  rule_at : (i : ℕ) → Rule hist came p (state i)
  rule_at zero = run.begins
  rule_at (suc i) = ⊎_elim (λ (e : state (suc i) ≡ state i). subst (Rule hist came p) (sym e) (rule_at i))
      (λ (q : Rule hist came p (state (suc i)) × ((id : ℕ) × (kind : Kind) × Does hist came p (state i) (state (suc i)) id kind × Finds (state i).words kind)). q.0) (run.passes i)

  seated_at : (i : ℕ) → AllSeated p (state i).views
  seated_at zero = run.seated
  seated_at (suc i) = ⊎_elim (λ (e : state (suc i) ≡ state i). subst (λ (z : State (Option K) (View K)). AllSeated p z.views) (sym e) (seated_at i))
      (λ (q : Rule hist came p (state (suc i)) × ((id : ℕ) × (kind : Kind) × Does hist came p (state i) (state (suc i)) id kind × Finds (state i).words kind)). step_seats hist came p (state i) (state (suc i)) (rule_at i) q.1.0 q.1.1 q.1.2 (seated_at i)) (run.passes i)

  abbrev steps_at : ℕ → ℕ
  steps_at i = steps_of p.stations (state i).views

  -- the steps from one moment to another: some seat got on, or none did
  record Between (a b : ℕ) : Type 0 where
    pub steps : List (ℕ × Kind)
    pub trace : Trace hist came p steps (state a) (state b)
    pub fewer : steps_at b ≤ steps_at a
    pub turns : (j : ℕ) → left b j ≤ left a j
    pub count : length (state b).views ≡ length (state a).views
    pub stay : SomeStays (state b).views → SomeStays (state a).views
    pub either : (steps_at b < steps_at a) ⊎ ((j : ℕ) → GetsOnByNone j steps)

  stood : (a b : ℕ) → state (suc a) ≡ state a → Between (suc a) b → Between a b
  stood a b e t = record {
    steps = t.steps;
    trace = subst (λ (z : State (Option K) (View K)). Trace hist came p t.steps z (state b)) e t.trace;
    fewer = let f = t.fewer in let g = ap (λ (z : State (Option K) (View K)). steps_of p.stations z.views) e in omega arith;
    turns = λ j. let f = t.turns j in let g = run.falls a j in omega arith;
    count = t.count ∙ ap (λ (z : State (Option K) (View K)). length z.views) e;
    stay = λ q. subst (λ (z : State (Option K) (View K)). SomeStays z.views) e (t.stay q);
    either = ⊎_elim (λ (f : steps_at b < steps_at (suc a)). let g = ap (λ (z : State (Option K) (View K)). steps_of p.stations z.views) e in inl (omega arith)) (λ (f : (j : ℕ) → GetsOnByNone j t.steps). inr f) t.either;
  }

  stepped : (a b id : ℕ) (k : Kind) → Does hist came p (state a) (state (suc a)) id k → Finds (state a).words k → Between (suc a) b → Between a b
  stepped a b id k d finds t =
      let g = step_falls hist came p (state a) (state (suc a)) (rule_at a) id k d in record {
        steps = (id, k) ∷ t.steps;
        trace = (state (suc a), rule_at (suc a), d, finds, t.trace);
        fewer = let f = t.fewer in omega arith;
        turns = λ j. let f = t.turns j in let h = run.falls a j in omega arith;
        count = t.count ∙ step_count hist came p (state a) (state (suc a)) (rule_at a) id k d;
        stay = λ q. step_stays hist came p (state a) (state (suc a)) (rule_at a) id k d (t.stay q);
        either = ⊎_elim (λ (f : steps_at b < steps_at (suc a)). inl (omega arith))
            (λ (f : (j : ℕ) → GetsOnByNone j t.steps). dite (dec_le 1 (gets_on k)) (λ on. let h = t.fewer in inl (omega arith)) (λ off. let less = lt_of_not-le off in inr (λ j. (λ _. omega arith, f j))))
            t.either;
      }

  walk : (n a b : ℕ) → n + a ≡ b → Between a b
  walk zero a b e = subst (Between a) (let same : a ≡ b = omega arith in same) record { steps = []; trace = refl; fewer = omega arith; turns = λ j. omega arith; count = refl; stay = λ q. q; either = inr (λ j. tt) }
  walk (suc n) a b e =
      let t : Between (suc a) b = walk n (suc a) b (omega arith) in
      ⊎_elim (λ (q : state (suc a) ≡ state a). stood a b q t)
      (λ (q : Rule hist came p (state (suc a)) × ((id : ℕ) × (kind : Kind) × Does hist came p (state a) (state (suc a)) id kind × Finds (state a).words kind)). stepped a b q.1.0 q.1.1 q.1.2 q.1.3 t)
      (run.passes a)

  between : (a b : ℕ) → a ≤ b → Between a b
  between a b le = walk (b - a) a b (omega arith)

  -- What is left falls

  abbrev left_at : ℕ → ℕ
  left_at i = all_left hist came p state left i

  no_more : (a b : ℕ) → Between a b → left_at b ≤ left_at a
  no_more a b t =
      let f = t.fewer in
      let m = turns_stay (left a) (left b) t.turns (length (state a).views) in
      let c = ap (turns_of (left b)) t.count in
      omega arith

  by_step : (a b : ℕ) → Between a b → steps_at b < steps_at a → left_at b < left_at a
  by_step a b t less =
      let m = turns_stay (left a) (left b) t.turns (length (state a).views) in
      let c = ap (turns_of (left b)) t.count in
      omega arith

  by_turn : (a b j : ℕ) → Between a b → j < length (state a).views → left b j < left a j → left_at b < left_at a
  by_turn a b j t near less =
      let f = t.fewer in
      let m = turns_fall (left a) (left b) t.turns (length (state a).views) j near less in
      let c = ap (turns_of (left b)) t.count in
      omega arith

  abbrev Can : ℕ → ℕ → Type 0
  Can j i = CanStill hist came p j (state i)

  -- where a seat could get on at a and has a turn from x to y
  turned : (a b j x y : ℕ) → a ≤ x → x ≤ y → y ≤ b → Can j a → IsTurn hist came p state left j x y → left_at b < left_at a
  turned a b j x y ax xy yb c turn =
      let to_x = between a x ax in
      let to_y = between x y xy in
      let to_b = between y b yb in
      let all = between a b (omega arith) in
      ⊎_elim
      (λ (less : steps_at x < steps_at a). let f = to_y.fewer in let g = to_b.fewer in by_step a b all (omega arith))
      (λ (none : (i : ℕ) → GetsOnByNone i to_x.steps). ⊎_elim
      (λ (less : steps_at y < steps_at x). let f = to_x.fewer in let g = to_b.fewer in by_step a b all (omega arith))
      (λ (none_then : (i : ℕ) → GetsOnByNone i to_y.steps).
      let at_x = all_on hist came p to_x.steps (state a) (state x) j to_x.trace (none j) c in
      let at_y = all_on hist came p to_y.steps (state x) (state y) j to_y.trace (none_then j) at_x in
      ⊎_elim
      (λ (less : left y j < left x j). let f = to_x.turns j in let g = to_b.turns j in by_turn a b j all (at_below (state a).views j c.view c.at) (omega arith))
      (λ (waits : HasToWait p.places at_x.view at_y.view at_x.view.role). absurd ((need_not hist came p (state x) at_x.rule j at_x.view at_x.at at_x.can).turns to_y.steps (state y) at_y.view to_y.trace (none_then j) at_y.at waits))
      (turn at_x.view at_y.view at_x.at at_y.at))
      to_y.either)
      to_x.either

  pub one_less : (a b j : ℕ) → a ≤ b → Can j a → HasTurn hist came p state left a b j → left_at b < left_at a
  one_less a b j le c has =
      let all = between a b le in
      ⊎_elim
      (λ (less : steps_at b < steps_at a). by_step a b all less)
      (λ (none : (i : ℕ) → GetsOnByNone i all.steps).
      let then = all_on hist came p all.steps (state a) (state b) j all.trace (none j) c in
      let t = has then.view then.at (can_stays p.places (moment then.rule) then.view then.view.role then.can) in
      turned a b j t.0 t.1 t.2 t.3 t.4 c t.5)
      all.either

  -- some seat can get on
  some_can : (a : ℕ) → SomeStays (state a).views → (j : ℕ) × Can j a
  some_can a some_stays = let o = not_stuck hist came p (state a) (rule_at a) (seated_at a) some_stays in (o.0, record { rule = rule_at a; view = o.1; at = o.2; can = o.3 })

  windows_on : (n a b : ℕ) → Windows hist came p state left n a b → a ≤ b
  windows_on zero a b w = w
  windows_on (suc n) a b w = let q = windows_on n w.0 b w.2 in let f = w.1.0 in omega arith

  pub windows_fall : (n a b : ℕ) → Windows hist came p state left n a b → SomeStays (state b).views → n + left_at b ≤ left_at a
  windows_fall zero a b w some_stays = let f = no_more a b (between a b w) in omega arith
  windows_fall (suc n) a b w some_stays =
      let q = windows_fall n w.0 b w.2 some_stays in
      let on = windows_on n w.0 b w.2 in
      let le = w.1.0 in
      let c = some_can a ((between a b (omega arith)).stay some_stays) in
      let f = one_less a w.0 c.0 le c.1 (w.1.1 c.0) in
      omega arith

  pub few_windows : (n b : ℕ) → Windows hist came p state left n 0 b → SomeStays (state b).views → n < left_at 0
  few_windows n b w some_stays = let q = windows_fall n 0 b w some_stays in let some = some_left p.stations (state b).views some_stays in omega arith

  ends_by : (m a : ℕ) → IsFair hist came p state left → left_at a ≤ m → (i : ℕ) × (SomeStays (state i).views → ⊥)
  ends_by zero a fair le = ⊎_elim
      (λ (s : SomeStays (state a).views). let f = fair a (rule_at a) s in let g = one_less a f.0 f.1 f.3 record { rule = rule_at a; view = f.2; at = f.4; can = f.5 } f.6 in absurd (omega arith))
      (λ (none : SomeStays (state a).views → ⊥). (a, none))
      (some_or_none (state a).views)
  ends_by (suc m) a fair le = ⊎_elim
      (λ (s : SomeStays (state a).views). let f = fair a (rule_at a) s in let g = one_less a f.0 f.1 f.3 record { rule = rule_at a; view = f.2; at = f.4; can = f.5 } f.6 in ends_by m f.0 fair (omega arith))
      (λ (none : SomeStays (state a).views → ⊥). (a, none))
      (some_or_none (state a).views)

  pub ends : IsFair hist came p state left → (i : ℕ) × (SomeStays (state i).views → ⊥)
  ends fair = ends_by (left_at 0) 0 fair (omega arith)

  pub turns_are_fair : TakesTurns hist came p state left → IsFair hist came p state left
  turns_are_fair again = λ a r some_stays.
      let o = not_stuck hist came p (state a) r (seated_at a) some_stays in
      let w = again a in
      (w.0, o.0, o.1, w.1.0, o.2, o.3, w.1.1 o.0)
