-- The stations of a run, as what each version tells of its own spans gives them.
use Rattle.std.proofs.Common.{◌≡◌, ◌∙◌, sym, ap, subst, refl, ℕ, zero, suc, ◌+◌, ◌⊎◌, inl, inr, Bool, true, false, List, [], ◌∷◌, ◌++◌, length, take, set, Option, Some, None, arith, append-nil, cond}
use Rattle.std.specs.Prelude.{slice_get, ◌==◌}
use Rattle.std.proofs.lemmas.Option.{same_Some}
use Rattle.nv_calls.specs.Calls.{Entry}
use Rattle.nv_calls.specs.Logs.{Start}
use Rattle.nv_threads.specs.Behaviours.{Behaviour}
use Rattle.nv_replay.specs.Follow.{Follower, Judge, is_exited}
use Rattle.nv_replay.specs.Lead.{Leader}
use Rattle.nv_replay.specs.Hands.{is_handed}
use Rattle.nv_replay.specs.declared.standing.Standing.{Standing}
use Rattle.nv_replay.specs.Monitor.{Part, Run, led_line, after_lead, tracked_by}
use Rattle.nv_workers.proofs.Gathering.{after_log}
use Rattle.nv_workers.proofs.Stations.{SpanFrom, Tile, WentBy, LedBy, after_station, AreSeats}
use Rattle.nv_workers.proofs.Prefixes.{take_own, take_within}
use Rattle.nv_replay.proofs.Numbers.{get_set, get_other, length_set, eq_self, eq_same}

-- what there is to tell of a version that led: nothing where it goes on
abbrev pub told_by : {P : Type 0} → Part P → Follower P → Leader P → ℕ → Bool → Option Standing
told_by v f l from true = None
told_by v f l from false = Some (led_line v f from l)

module _ (spans : ℕ → List (ℕ × ℕ)) (who : ℕ → ℕ) where
  -- the parts that version i led at the stations below k
  abbrev pub led_below : ℕ → ℕ → List (ℕ × ℕ)
  led_below zero i = []
  led_below (suc k) i = led_below k i ++ cond (who k == i) (spans k) []

  abbrev pub seat : {P : Type 0} → P → ℕ → Part P
  seat p k = record { process = p; led = led_below k (who k); told = None }

  pub same_led : (k i : ℕ) (b : Bool) → spans k ≡ [] → led_below k i ++ cond b (spans k) [] ≡ led_below k i
  same_led k i true e = ap (λ (x : List (ℕ × ℕ)). led_below k i ++ x) e ∙ append-nil (led_below k i)
  same_led k i false e = append-nil (led_below k i)

  pub own_led : (k i : ℕ) (own : List (ℕ × ℕ)) → who k ≡ i → spans k ≡ own → led_below k i ++ own ≡ led_below (suc k) i
  own_led k i own e q =
      let b : (who k == i) ≡ true = ap (λ (x : ℕ). who k == x) (sym e) ∙ eq_self (who k) in
      rw b (ap (λ (x : List (ℕ × ℕ)). led_below k i ++ x) (sym q))

  pub other_led : (k i : ℕ) → (who k == i) ≡ false → led_below k i ≡ led_below (suc k) i
  other_led k i e = rw e (sym (append-nil (led_below k i)))

module _ {P : Type 0} (g : Behaviour P) (judges : ℕ → Judge) (start : Start) (most : ℕ) (cuts : ℕ → Option ℕ) (hands : List ℕ)
    (h : List Entry) (spans : ℕ → List (ℕ × ℕ)) (total : ℕ) (who : ℕ → ℕ) (tells : ℕ → ℕ → Option Standing) where
  -- what station k's version tells of it
  abbrev pub Told : P → ℕ → Type 0
  Told p k = WentBy g judges start most cuts hands h spans total k (who k) (seat spans who p k) ⊎ LedBy g judges start most cuts hands h spans total k (who k) (seat spans who p k)

  abbrev pub hands_over : (p : P) (k : ℕ) → Told p k → Bool
  hands_over p k (inl w) = false
  hands_over p k (inr x) = is_handed hands x.from x.end

  -- what is told of each version after station k
  abbrev pub TellsOn : (p : P) (k : ℕ) → Told p k → Type 0
  TellsOn p k (inl w) = (j : ℕ) → tells (suc k) j ≡ tells k j
  TellsOn p k (inr x) = (tells (suc k) (who k) ≡ told_by (seat spans who p k) (tracked_by g judges start most cuts hands (take x.from x.log) (who k) (seat spans who p k)) x.end x.from (is_handed hands x.from x.end))
      × ((j : ℕ) → (who k == j) ≡ false → tells (suc k) j ≡ tells k j)

  -- the versions of c stations, from number k on
  abbrev pub seating : ℕ → ℕ → List ℕ
  seating k zero = []
  seating k (suc c) = who k ∷ seating (k + 1) c

  whos_last : (k c : ℕ) → seating k (suc c) ≡ seating k c ++ who (k + c) ∷ []
  whos_last k zero = let n : k ≡ k + 0 = omega arith in ap (λ (x : ℕ). who x ∷ []) n
  whos_last k (suc c) = let n : k + 1 + c ≡ k + suc c = omega arith in ap (λ l. who k ∷ l) (whos_last (k + 1) c ∙ ap (λ (x : ℕ). seating (k + 1) c ++ who x ∷ []) n)

  -- of each version, where station k has its turn: its process, the parts that it led at the stations below, and what is told of it
  pub record Parts (ps : List P) (m : Run P) (k : ℕ) : Type 0 where
    pub same : length m.parts ≡ length ps
    pub each : (i : ℕ) (p : P) → slice_get ps i ≡ Some p
        → (v : Part P) × (slice_get m.parts i ≡ Some v) × (v.process ≡ p) × (v.led ≡ led_below spans who k i) × (v.told ≡ tells k i)

  -- c stations are open from number k on, in the order in which they were opened; a station that hands over opens the next one, for
  -- its own version
  abbrev pub Opens : List P → ℕ → ℕ → ℕ → Type 0
  Opens ps zero k c = c ≡ 0
  Opens ps (suc n) k zero = ⊥
  Opens ps (suc n) k (suc c) = (p : P) × (slice_get ps (who k) ≡ Some p) × ((t : Told p k) × TellsOn p k t × (
      ((hands_over p k t ≡ true) × (who (k + suc c) ≡ who k) × Opens ps n (k + 1) (suc c))
      ⊎ ((hands_over p k t ≡ false) × Opens ps n (k + 1) c)))

  went_parts : (ps : List P) (m : Run P) (k : ℕ) (order : List ℕ) → spans k ≡ [] → ((j : ℕ) → tells (suc k) j ≡ tells k j) → Parts ps m k → Parts ps (record m { order = order }) (suc k)
  went_parts ps m k order e t s = record {
    same = s.same;
    each = λ i p q. let v = s.each i p q in (v.0, v.1, v.2, v.3 ∙ sym (same_led spans who k i (who k == i) e), v.4 ∙ sym (t i));
  }

  put_parts : (ps : List P) (m : Run P) (k : ℕ) (v w : Part P) (p : P) (order : List ℕ) (log : List Entry) (over : Bool) → Parts ps m k → slice_get m.parts (who k) ≡ Some v
      → slice_get ps (who k) ≡ Some p → w.process ≡ p → w.led ≡ led_below spans who (suc k) (who k) → w.told ≡ tells (suc k) (who k) → ((j : ℕ) → (who k == j) ≡ false → tells (suc k) j ≡ tells k j)
      → Parts ps (record { log = log; over = over; order = order; parts = set m.parts (who k) w }) (suc k)
  put_parts ps m k v w p order log over s q hp wp wl wt others = record { same = length_set m.parts (who k) w ∙ s.same; each = λ i x r. put i x r (who k == i) refl } where
    put : (i : ℕ) (x : P) → slice_get ps i ≡ Some x → (b : Bool) → (who k == i) ≡ b
        → (u : Part P) × (slice_get (set m.parts (who k) w) i ≡ Some u) × (u.process ≡ x) × (u.led ≡ led_below spans who (suc k) i) × (u.told ≡ tells (suc k) i)
    put i x r true e =
        let ik : who k ≡ i = eq_same (who k) i e in
        let px : p ≡ x = same_Some p x (sym hp ∙ (ap (slice_get ps) ik ∙ r)) in
        (w, ap (slice_get (set m.parts (who k) w)) (sym ik) ∙ get_set m.parts (who k) v w q, wp ∙ px, wl ∙ ap (led_below spans who (suc k)) ik, wt ∙ ap (tells (suc k)) ik)
    put i x r false e =
        let u = s.each i x r in
        (u.0, get_other m.parts (who k) w i e ∙ u.1, u.2, u.3 ∙ other_led spans who k i e, u.4 ∙ sym (others i e))

  went_as : (k i : ℕ) (v u : Part P) → u.process ≡ v.process → u.led ≡ v.led → WentBy g judges start most cuts hands h spans total k i u → WentBy g judges start most cuts hands h spans total k i v
  went_as k i v u a b w =
      let x : WentBy g judges start most cuts hands h spans total k i (record v { told = u.told }) = subst (λ (y : Part P). WentBy g judges start most cuts hands h spans total k i y)
      (λ j. record { process = a j; led = b j; told = u.told }) w in
      record { read = x.read; rest = x.rest; prefix = x.prefix; none = x.none; below = x.below; at = x.at; is = x.is; ended = x.ended }

  led_as : (k i : ℕ) (v u : Part P) → u.process ≡ v.process → u.led ≡ v.led → (x : LedBy g judges start most cuts hands h spans total k i u)
      → (y : LedBy g judges start most cuts hands h spans total k i v) × (y.from ≡ x.from) × (y.end ≡ x.end) × (y.log ≡ x.log)
  led_as k i v u a b x =
      let e : u ≡ record v { told = u.told } = λ j. record { process = a j; led = b j; told = u.told } in
      let T : Part P → Type 0 = λ z. (y : LedBy g judges start most cuts hands h spans total k i z) × (y.from ≡ x.from) × (y.end ≡ x.end) × (y.log ≡ x.log) in
      let r : T (record v { told = u.told }) = subst T e (x, refl, refl, refl) in
      let y = r.0 in (
        record { from = y.from; log = y.log; rest = y.rest; prefix = y.prefix; span = y.span; within = y.within; on = y.on; seen = y.seen; in_step = y.in_step; end = y.end; lead = y.lead; end_log = y.end_log; exited = y.exited },
        r.1,
        r.2,
        r.3,
      )

  -- where the stations lead
  pub record Reads (ps : List P) (n k : ℕ) (m : Run P) : Type 0 where
    pub last : Run P
    pub seats : AreSeats g judges start most cuts hands h spans total n k m last
    pub parts : Parts ps last (k + n)

  after_parts : (ps : List P) (m : Run P) (k c : ℕ) (v : Part P) (p : P) (f : Follower P) (l : Leader P) (b : Bool) → Parts ps m k → slice_get m.parts (who k) ≡ Some v
      → slice_get ps (who k) ≡ Some p → v.process ≡ p → v.led ≡ led_below spans who k (who k) → spans k ≡ (length m.log, length l.log) ∷ []
      → tells (suc k) (who k) ≡ told_by v f l (length m.log) b → ((j : ℕ) → (who k == j) ≡ false → tells (suc k) j ≡ tells k j)
      → Parts ps (after_lead m (who k) (seating (k + 1) c) v f l b) (suc k)
  after_parts ps m k c v p f l true s q hp vp vl e t o =
      put_parts ps m k v (record v { led = v.led ++ (length m.log, length l.log) ∷ []; told = None }) p (seating (k + 1) c ++ who k ∷ []) l.log false s q hp vp
      (ap (λ (x : List (ℕ × ℕ)). x ++ (length m.log, length l.log) ∷ []) vl ∙ own_led spans who k (who k) ((length m.log, length l.log) ∷ []) refl e) (sym t) o
  after_parts ps m k c v p f l false s q hp vp vl e t o =
      put_parts ps m k v (record v { led = v.led ++ (length m.log, length l.log) ∷ []; told = Some (led_line v f (length m.log) l) }) p (seating (k + 1) c) l.log (is_exited l.fate) s q hp vp
      (ap (λ (x : List (ℕ × ℕ)). x ++ (length m.log, length l.log) ∷ []) vl ∙ own_led spans who k (who k) ((length m.log, length l.log) ∷ []) refl e) (sym t) o

  after_order : (m : Run P) (i : ℕ) (order : List ℕ) (v : Part P) (f : Follower P) (l : Leader P) (b : Bool) → b ≡ true → (after_lead m i order v f l b).order ≡ order ++ i ∷ []
  after_order m i order v f l true h = refl
  after_order m i order v f l false h = cc

  after_rest : (m : Run P) (i : ℕ) (order : List ℕ) (v : Part P) (f : Follower P) (l : Leader P) (b : Bool) → b ≡ false → (after_lead m i order v f l b).order ≡ order
  after_rest m i order v f l true h = cc
  after_rest m i order v f l false h = refl

  one_on : (k : ℕ) → suc k ≡ k + 1
  one_on k = omega arith

  -- the stations as the versions tell them, in the order in which they were opened
  pub reads : (ps : List P) (n k c : ℕ) (m : Run P) (more : List Entry) → h ≡ m.log ++ more → Parts ps m k → m.order ≡ seating k c → Opens ps n k c
      → Tile spans k n (length m.log) (length h) → Reads ps n k m
  reads ps zero k c m more he s o q t = record {
    last = m;
    seats = (o ∙ ap (seating k) q, refl);
    parts = subst (λ (x : ℕ). Parts ps m x) (let e : k ≡ k + 0 = omega arith in e) s;
  }
  reads ps (suc n) k zero m more he s o q t = absurd q
  reads ps (suc n) k (suc c) m more he s o (p, hp, (inl w, tl, inl r)) t = let z : false ≡ true = r.0 in cc
  reads ps (suc n) k (suc c) m more he s o (p, hp, (inl w, tl, inr r)) t =
      let v = s.each (who k) p hp in
      let w' = went_as k (who k) v.0 (seat spans who p k) (sym v.2) (sym v.3) w in
      let z : t.0 ≡ length m.log = subst (λ (y : List (ℕ × ℕ)). SpanFrom y (length m.log) t.0) w.none t.1 in
      let m1 : Run P = record m { order = seating (k + 1) c } in
      let s1 : Parts ps m1 (k + 1) = subst (λ (x : ℕ). Parts ps m1 x) (one_on k) (went_parts ps m k (seating (k + 1) c) w.none tl s) in
      let rec = reads ps n (k + 1) c m1 more he s1 refl r.1 (subst (λ (y : ℕ). Tile spans (k + 1) n y (length h)) z t.2) in
      let e : k + 1 + n ≡ k + suc n = omega arith in record {
        last = rec.last;
        seats = (who k, seating (k + 1) c, v.0, o, v.1, inl (w', rec.seats));
        parts = subst (λ (x : ℕ). Parts ps rec.last x) e rec.parts;
      }
  reads ps (suc n) k (suc c) m more he s o (p, hp, (inr x, tl, r)) t =
      let v = s.each (who k) p hp in
      let y = led_as k (who k) v.0 (seat spans who p k) (sym v.2) (sym v.3) x in
      let z : (y.0.from ≡ length m.log) × (length y.0.log ≡ t.0) = subst (λ (u : List (ℕ × ℕ)). SpanFrom u (length m.log) t.0) y.0.span t.1 in
      let f = tracked_by g judges start most cuts hands m.log (who k) v.0 in
      let b : Bool = is_handed hands (length m.log) y.0.end in
      let from : x.from ≡ length m.log = sym y.1 ∙ z.0 in
      let same : is_handed hands x.from x.end ≡ b = λ j. is_handed hands (from j) (sym y.2 j) in
      let log0 : take x.from x.log ≡ m.log = sym (take_within x.from x.log x.rest x.within) ∙ (ap (take x.from) (sym x.prefix ∙ he)
      ∙ (ap (λ (u : ℕ). take u (m.log ++ more)) from ∙ take_own m.log more)) in
      let seat0 : record (seat spans who p k) { told = v.0.told } ≡ v.0 = λ j. record { process = sym v.2 j; led = sym v.3 j; told = v.0.told } in
      let f0 : tracked_by g judges start most cuts hands (take x.from x.log) (who k) (seat spans who p k) ≡ f = λ j. tracked_by g judges start most cuts hands (log0 j) (who k) (seat0 j) in
      let tells0 : tells (suc k) (who k) ≡ told_by v.0 f y.0.end (length m.log) b = tl.0
      ∙ (λ j. told_by (seat0 j) (f0 j) (sym y.2 j) (from j) (same j)) in
      let m1 : Run P = after_station g judges start most cuts hands h spans total m k (who k) (seating (k + 1) c) v.0 y.0 in
      let l1 : m1.log ≡ y.0.log = after_log m (who k) (seating (k + 1) c) v.0 f y.0.end b ∙ y.0.end_log in
      let span : spans k ≡ (length m.log, length y.0.end.log) ∷ [] = y.0.span ∙ (λ j. (z.0 j, ap length (sym y.0.end_log) j) ∷ []) in
      let s0 = after_parts ps m k c v.0 p f y.0.end b s v.1 hp v.2 v.3 span tells0 tl.1 in
      let s1 : Parts ps m1 (k + 1) = subst (λ (u : ℕ). Parts ps m1 u) (one_on k) s0 in
      let t1 : Tile spans (k + 1) n (length m1.log) (length h) = subst (λ (u : ℕ). Tile spans (k + 1) n u (length h)) (sym (ap length l1 ∙ z.1)) t.2 in
      let h1 : h ≡ m1.log ++ y.0.rest = y.0.prefix ∙ ap (λ (u : List Entry). u ++ y.0.rest) (sym l1) in
      let e : k + 1 + n ≡ k + suc n = omega arith in
      let rec : Reads ps n (k + 1) m1 = elim r [
        | inl d ↦
            let j : k + suc c ≡ k + 1 + c = omega arith in
            let last : seating (k + 1) (suc c) ≡ seating (k + 1) c ++ who k ∷ [] = whos_last (k + 1) c ∙ ap (λ (u : ℕ). seating (k + 1) c ++ u ∷ []) (ap who (sym j) ∙ d.1) in
            reads ps n (k + 1) (suc c) m1 y.0.rest h1 s1 (after_order m (who k) (seating (k + 1) c) v.0 f y.0.end b (sym same ∙ d.0) ∙ sym last) d.2 t1
        | inr d ↦ reads ps n (k + 1) c m1 y.0.rest h1 s1 (after_rest m (who k) (seating (k + 1) c) v.0 f y.0.end b (sym same ∙ d.0)) d.1 t1
      ] in record {
        last = rec.last;
        seats = (who k, seating (k + 1) c, v.0, o, v.1, inr (y.0, rec.seats));
        parts = subst (λ (u : ℕ). Parts ps rec.last u) e rec.parts;
      }
