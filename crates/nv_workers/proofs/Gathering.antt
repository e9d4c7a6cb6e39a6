-- The account of versions that ended beside each other, with planned changes of the leader, by stations.
use Rattle.std.proofs.Common.{◌≡◌, ◌∙◌, sym, ap, subst, refl, ℕ, zero, suc, ◌+◌, ◌≤◌, inl, inr, Bool, true, false, List, [], ◌∷◌, ◌++◌, length, take, Option, Some, None, arith, length-append}
use Rattle.std.specs.Prelude.{slice_get}
use Rattle.nv_calls.specs.Calls.{Entry}
use Rattle.nv_calls.specs.Logs.{Start, live_after}
use Rattle.nv_threads.specs.Behaviours.{Behaviour, IsProcess}
use Rattle.nv_replay.specs.declared.fate.Fate.{Fate}
use Rattle.nv_replay.specs.Follow.{Follower, Judge, IsInStep, is_exited}
use Rattle.nv_replay.specs.Lead.{Leader}
use Rattle.nv_replay.specs.Hands.{is_handed}
use Rattle.nv_replay.specs.Sequence.{is_going}
use Rattle.nv_replay.specs.Monitor.{Part, Run, begun, after_lead, tracked_by, leads_on, turn, lines_of, account_of, sequence}
use Rattle.nv_replay.proofs.Settled.{Reaches, reach_here, reach_first, stage_rests}
use Rattle.nv_workers.proofs.Stations.{SpanFrom, Tile, WentBy, LedBy, after_station, AreSeats}
use Rattle.nv_workers.proofs.Prefixes.{prefix_of, no_more, take_own, take_within, stop_by}
use Rattle.nv_replay.proofs.Rotating.{over_rests, empty_rests, dropped, led, sequence_is}
use Rattle.nv_replay.proofs.Turning.{take_all}

some_of : (f : Option Fate) → is_going f ≡ false → (x : Fate) × (f ≡ Some x)
some_of None h = cc
some_of (Some x) h = (x, refl)

pub after_log : {P : Type 0} (m : Run P) (i : ℕ) (order : List ℕ) (v : Part P) (f : Follower P) (l : Leader P) (b : Bool) → (after_lead m i order v f l b).log ≡ l.log
after_log m i order v f l true = refl
after_log m i order v f l false = refl

after_dead : {P : Type 0} (m : Run P) (i : ℕ) (order : List ℕ) (v : Part P) (f : Follower P) (l : Leader P) (D : Type 0) (b : Bool) → (is_exited l.fate ≡ true → D)
    → (after_lead m i order v f l b).over ≡ true → D
after_dead m i order v f l D true d h = cc
after_dead m i order v f l D false d h = d h

not_true : (b : Bool) → (b ≡ true → ⊥) → b ≡ false
not_true true h = absurd (h refl)
not_true false h = refl

module _ {P : Type 0} (g : Behaviour P) (laws : IsProcess g) (judges : ℕ → Judge) (start : Start) (most : ℕ) (cuts : ℕ → Option ℕ) (hands : List ℕ)
    (h : List Entry) (spans : ℕ → List (ℕ × ℕ)) (total : ℕ) where
  abbrev Turn : Run P → Run P
  Turn m = turn g judges start most cuts hands m

  abbrev Went : ℕ → ℕ → Part P → Type 0
  Went k i v = WentBy g judges start most cuts hands h spans total k i v

  abbrev Led : ℕ → ℕ → Part P → Type 0
  Led k i v = LedBy g judges start most cuts hands h spans total k i v

  abbrev Seats : ℕ → ℕ → Run P → Run P → Type 0
  Seats n k m last = AreSeats g judges start most cuts hands h spans total n k m last

  abbrev tracks : List Entry → ℕ → Part P → Follower P
  tracks log i v = tracked_by g judges start most cuts hands log i v

  -- where the definition comes to
  pub record Ends (m last : Run P) : Type 0 where
    pub end : Run P
    pub reach : Reaches (turn g judges start most cuts hands) m end
    pub rests : Turn end ≡ end
    pub log : end.log ≡ h
    pub parts : end.parts ≡ last.parts

  went_tile : (n k i : ℕ) (v : Part P) (w : Went k i v) (x : ℕ) → k + suc n ≡ total → Tile spans k (suc n) x (length h) → (length w.read ≤ x) × Tile spans (k + 1) n x (length h)
  went_tile n k i v w x m t =
      let s : t.0 ≡ x = subst (λ (y : List (ℕ × ℕ)). SpanFrom y x t.0) w.none t.1 in
      let t' : Tile spans (k + 1) n x (length h) = subst (λ (y : ℕ). Tile spans (k + 1) n y (length h)) s t.2 in
      let within : length w.read ≤ length h = omega (arith, length-append w.read w.rest, ap length w.prefix) in
      (stop_by spans n (k + 1) x (length h) (length w.read) t' within (λ j a b p u s. w.below j a b (omega arith) (omega arith) s), t')

  led_tile : (n k i : ℕ) (v : Part P) (x : Led k i v) (y : ℕ) → Tile spans k (suc n) y (length h) → (x.from ≡ y) × Tile spans (k + 1) n (length x.log) (length h)
  led_tile n k i v x y t =
      let s : (x.from ≡ y) × (length x.log ≡ t.0) = subst (λ (z : List (ℕ × ℕ)). SpanFrom z y t.0) x.span t.1 in
      (s.0, subst (λ (z : ℕ). Tile spans (k + 1) n z (length h)) (sym s.1) t.2)

  alive_not : (log : List Entry) (s : Follower P) → IsInStep g log s → live_after log ≡ [] → s.seen ≡ length log → s.fate ≡ None → ⊥
  alive_not log s i d l n =
      let all : take s.seen log ≡ log = ap (λ (m : ℕ). take m log) l ∙ take_all log in
      laws.ended s.process (i.live n ∙ (ap live_after all ∙ d)) (i.on n)

  -- a station that led
  record Stood (m : Run P) (k i : ℕ) (order : List ℕ) (v : Part P) (x : Led k i v) : Type 0 where
    prefix : take x.from x.log ≡ m.log
    over : m.over ≡ false
    turns : Turn m ≡ after_station g judges start most cuts hands h spans total m k i order v x

  stood : (m : Run P) (more : List Entry) (k i : ℕ) (order : List ℕ) (v : Part P) (x : Led k i v) → h ≡ m.log ++ more → x.from ≡ length m.log → (m.over ≡ true → live_after m.log ≡ [])
      → m.order ≡ i ∷ order → slice_get m.parts i ≡ Some v → Stood m k i order v x
  stood m more k i order v x e s dead o q =
      let log0 : take x.from x.log ≡ m.log = sym (take_within x.from x.log x.rest x.within) ∙ (ap (take x.from) (sym x.prefix ∙ e)
      ∙ (ap (λ (y : ℕ). take y (m.log ++ more)) s ∙ take_own m.log more)) in
      let on : (tracks m.log i v).fate ≡ None = subst (λ (y : List Entry). (tracks y i v).fate ≡ None) log0 x.on in
      let seen : (tracks m.log i v).seen ≡ length m.log = subst (λ (y : List Entry). (tracks y i v).seen ≡ x.from) log0 x.seen ∙ s in
      let step : IsInStep g m.log (tracks m.log i v) = subst (λ (y : List Entry). IsInStep g y (tracks y i v)) log0 x.in_step in
      let lead : leads_on g judges start most cuts hands m.log i (tracks m.log i v) ≡ x.end = subst
      (λ (y : List Entry). leads_on g judges start most cuts hands y i (tracks y i v) ≡ x.end) log0 x.lead in
      let over : m.over ≡ false = not_true m.over (λ z. alive_not m.log (tracks m.log i v) step (dead z) seen on) in record {
        prefix = log0;
        over = over;
        turns = led g judges start most cuts hands m i order v over o q on
            ∙ ap (λ (l : Leader P). after_lead m i order v (tracks m.log i v) l (is_handed hands (length m.log) l)) lead;
      }

  -- a station that went by
  went : (m last : Run P) (more : List Entry) (k i : ℕ) (order : List ℕ) (v : Part P) (w : Went k i v) (b : Bool) → m.over ≡ b → h ≡ m.log ++ more → length w.read ≤ length m.log
      → m.order ≡ i ∷ order → slice_get m.parts i ≡ Some v → Ends (record m { order = order }) last → Ends m last
  went m last more k i order v w true ov e l o q r =
      let m1 : Run P = record m { order = order } in
      let same : m1 ≡ r.end = sym (stage_rests (turn g judges start most cuts hands) r.reach.steps m1 (over_rests g judges start most cuts hands m1 ov)) ∙ r.reach.is in record {
        end = m;
        reach = reach_here (turn g judges start most cuts hands) m;
        rests = over_rests g judges start most cuts hands m ov;
        log = ap (λ (x : Run P). x.log) same ∙ r.log;
        parts = ap (λ (x : Run P). x.parts) same ∙ r.parts;
      }
  went m last more k i order v w false ov e l o q r =
      let f = prefix_of w.read m.log w.rest more (sym w.prefix ∙ e) l in
      let a : w.at ≡ tracks m.log i v = subst (λ (y : List Entry). w.at ≡ tracks y i v) (sym f.1) (sym (w.is f.0)) in
      let x = some_of w.at.fate w.ended in
      let t = dropped g judges start most cuts hands m i order v x.0 ov o q (ap (λ (y : Follower P). y.fate) (sym a) ∙ x.1) in record {
        end = r.end;
        reach = reach_first (turn g judges start most cuts hands) m r.end (subst (λ (y : Run P). Reaches (turn g judges start most cuts hands) y r.end) (sym t) r.reach);
        rests = r.rests;
        log = r.log;
        parts = r.parts;
      }

  pub gathers : (n k : ℕ) (m last : Run P) (more : List Entry) → Seats n k m last → Tile spans k n (length m.log) (length h) → h ≡ m.log ++ more → k + n ≡ total
      → (m.over ≡ true → live_after m.log ≡ []) → Ends m last
  gathers zero k m last more s t e c dead = record {
    end = m;
    reach = reach_here (turn g judges start most cuts hands) m;
    rests = empty_rests g judges start most cuts hands m s.0;
    log = sym (e ∙ no_more m.log more (t ∙ ap length e));
    parts = ap (λ (x : Run P). x.parts) s.1;
  }
  gathers (suc n) k m last more (i, order, v, o, q, inl (w, s)) t e c dead =
      let wt = went_tile n k i v w (length m.log) c t in
      went m last more k i order v w m.over refl e wt.0 o q (gathers n (k + 1) (record m { order = order }) last more s wt.1 e (omega arith) dead)
  gathers (suc n) k m last more (i, order, v, o, q, inr (x, s)) t e c dead =
      let lt = led_tile n k i v x (length m.log) t in
      let st = stood m more k i order v x e lt.0 dead o q in
      let f = tracks m.log i v in
      let b : Bool = is_handed hands (length m.log) x.end in
      let m1 : Run P = after_station g judges start most cuts hands h spans total m k i order v x in
      let l1 : m1.log ≡ x.log = after_log m i order v f x.end b ∙ x.end_log in
      let r = gathers n (k + 1) m1 last x.rest s (subst (λ (y : List Entry). Tile spans (k + 1) n (length y) (length h)) (sym l1) lt.1) (x.prefix ∙ ap (λ (y : List Entry). y ++ x.rest) (sym l1)) (omega arith)
      (λ z. ap live_after l1 ∙ after_dead m i order v f x.end (live_after x.log ≡ []) b x.exited z) in record {
        end = r.end;
        reach = reach_first (turn g judges start most cuts hands) m r.end (subst (λ (y : Run P). Reaches (turn g judges start most cuts hands) y r.end) (sym st.turns) r.reach);
        rests = r.rests;
        log = r.log;
        parts = r.parts;
      }

  -- the account of what the stations tell is the definition's
  pub gathered : (ps : List P) (last : Run P) → Seats total 0 (begun ps) last → Tile spans 0 total 0 (length h)
      → record { log = h; lines = lines_of g judges start most cuts hands h 0 last.parts } ≡ sequence g judges start most cuts hands ps
  gathered ps last s t =
      let r = gathers total 0 (begun ps) last h s t refl (omega arith) (λ z. cc) in
      let e : account_of g judges start most cuts hands r.end ≡ sequence g judges start most cuts hands ps = sequence_is g judges start most cuts hands ps r.end r.reach r.rests in
      let a : account_of g judges start most cuts hands r.end ≡ record { log = h; lines = lines_of g judges start most cuts hands h 0 last.parts } = λ j. record
      { log = r.log j; lines = lines_of g judges start most cuts hands (r.log j) 0 (r.parts j) } in
      sym a ∙ e
