-- Only followers are let go, and the others come to the same without them.
use Rattle.std.proofs.Common.{◌≡◌, ◌∙◌, sym, ap, subst, refl, inl, inr, arith}
use Rattle.std.specs.Prelude.{ℕ, zero, suc, ◌+◌, ◌<◌, ◌≤◌, Bool, true, false, List, [], ◌∷◌, ◌++◌, length, take, map, Option, Some, None, slice_get, nat_lt, ◌==◌}
use Rattle.std.proofs.lemmas.Bool.Decides.{nat_tests}
use Rattle.std.proofs.lemmas.List.{length-take}
use Rattle.std.proofs.lemmas.Option.{same_Some}
use Rattle.nv_calls.specs.Calls.{Entry}
use Rattle.nv_calls.specs.Logs.{Start}
use Rattle.nv_threads.specs.Behaviours.{Behaviour}
use Rattle.nv_threads.specs.declared.turns.Want.TheVariants.{Any}
use Rattle.nv_threads.specs.declared.turns.Came.{Came}
use Rattle.nv_threads.specs.declared.turns.Came.TheVariants.{Asked, Fault}
use Rattle.nv_replay.specs.declared.fate.Fate.{Fate}
use Rattle.nv_replay.specs.declared.standing.Standing.{Standing}
use Rattle.nv_replay.specs.Settling.{stage}
use Rattle.nv_replay.specs.Follow.{Follower, Judge, fresh}
use Rattle.nv_replay.specs.Lead.{Leader}
use Rattle.nv_replay.specs.LettingGo.{is_let_go, front, left_behind, let_go}
use Rattle.nv_replay.specs.Hands.{is_handed, lead_to_hand}
use Rattle.nv_replay.specs.Tracks.{is_led, retraced_by, tracked, track_on, track_next, track}
use Rattle.nv_replay.specs.Monitor.{Part, Run, part, begun, after_lead, tracked_by, leads_on, turn_by, turn_of, turn_in, turn, told_standing, lines_of, sequence}
use Rattle.nv_replay.specs.Behind.{NeverLed, SameButFor}
use Rattle.nv_replay.proofs.Settled.{stage_zero, stage_one}
use Rattle.nv_replay.proofs.Falling.{within}
use Rattle.nv_replay.proofs.Stops.{tells_stays, track_tells, lead_stays}
use Rattle.nv_replay.proofs.Numbers.{set_cases, get_set, get_other, eq_same}
use Rattle.nv_replay.proofs.Tracking.{decided_one}
use Rattle.nv_replay.proofs.Covering.{Tiled, turn_keeps, stage_keeps, turn_tiled, none_told, none_led, zero_below}

-- how far a follower comes

module _ {P : Type 0} (g : Behaviour P) (judge : Judge) (spans : List (ℕ × ℕ)) where
  retraced_one : (e : Entry) (s : Follower P) (p : P) (came : Came) → (retraced_by g judge spans e s p came).seen ≤ s.seen + 1
  unfolding retraced_by
  retraced_one e s p (Fault k t pc) = omega arith
  retraced_one e s p (Asked t) = omega arith

  tracked_one : (e : Entry) (s : Follower P) (b : Bool) → (tracked g judge spans e s b).seen ≤ s.seen + 1
  tracked_one e s true = retraced_one e s (g.after s.process Any) (g.came s.process Any)
  tracked_one e s false = decided_one g judge s e

  on_within : (log : List Entry) (s : Follower P) (o : Option Entry) (f : Option Fate) → slice_get log s.seen ≡ o → s.seen ≤ length log → (track_on g judge spans s o f).seen ≤ length log
  on_within log s o (Some f) h l = l
  on_within log s None None h l = l
  on_within log s (Some e) None h l = omega (arith, within log s.seen e h, tracked_one e s (is_led spans s.seen))

  next_within : (log : List Entry) (s : Follower P) → s.seen ≤ length log → (track_next g judge spans log s).seen ≤ length log
  unfolding track_next
  next_within log s l = on_within log s (slice_get log s.seen) s.fate refl l

  stage_within : (log : List Entry) (n : ℕ) (s : Follower P) → s.seen ≤ length log → (stage (track_next g judge spans log) n s).seen ≤ length log
  stage_within log zero s l = rw (stage_zero (track_next g judge spans log) s) l
  stage_within log (suc n) s l = rw (stage_one (track_next g judge spans log) n s) (stage_within log n (track_next g judge spans log s) (next_within log s l))

  track_within : (log : List Entry) (p : P) → (track g judge spans log (fresh p)).seen ≤ length log
  unfolding track
  track_within log p = stage_within log _ (fresh p) (omega arith)

  track_stays : (log : List Entry) (p : P) → is_let_go (track g judge spans log (fresh p)).fate ≡ false
  unfolding track
  track_stays log p = tells_stays _ 0 (track_tells g judge 0 spans log _ (fresh p) refl)

  -- one that is let go has an event before it
  behind_by : (n : ℕ) (log : List Entry) (f : Follower P) (b : Bool) (o : Option Fate) → nat_lt n (length log) ≡ b → f.fate ≡ o → is_let_go f.fate ≡ false → f.seen ≤ n
      → is_let_go (left_behind f b o).fate ≡ true → (left_behind f b o).seen < length log
  behind_by n log f true None m e k l h = let lt : n < length log = grind (arith, nat_tests) in omega arith
  behind_by n log f true (Some x) m e k l h = let z : true ≡ false = sym h ∙ k in cc
  behind_by n log f false o m e k l h = let z : true ≡ false = sym h ∙ k in cc

  behind : (c : Option ℕ) (log : List Entry) (p : P) → is_let_go (let_go c log (track g judge spans (front c log) (fresh p))).fate ≡ true
      → (let_go c log (track g judge spans (front c log) (fresh p))).seen < length log
  behind None log p h = let z : true ≡ false = sym h ∙ track_stays log p in cc
  behind (Some n) log p h =
      let f = track g judge spans (take n log) (fresh p) in
      behind_by n log f (nat_lt n (length log)) f.fate refl refl (track_stays (take n log) p) (omega (arith, track_within (take n log) p, length-take n log)) h

-- who has ended as the leader wasn't let go

module _ {P : Type 0} (g : Behaviour P) (judges : ℕ → Judge) (start : Start) (most : ℕ) (cuts : ℕ → Option ℕ) (hands : List ℕ) where
  record Kept (m : Run P) : Type 0 where
    told : (k : ℕ) (v : Part P) (line : Standing) → slice_get m.parts k ≡ Some v → v.told ≡ Some line → is_let_go line.fate ≡ false

  after_kept : (m : Run P) (i : ℕ) (order : List ℕ) (v : Part P) (f : Follower P) (l : Leader P) (b : Bool) → is_let_go l.fate ≡ false → Kept m → Kept (after_lead m i order v f l b)
  after_kept m i order v f l true e s = record {
    told = λ k x line q h. elim (set_cases m.parts i (record v { led = v.led ++ (length m.log, length l.log) ∷ []; told = None }) k x q) [
      | inl (ik, y) ↦ (let z : None ≡ Some line = ap (λ (u : Part P). u.told) y ∙ h in cc)
      | inr (ik, y) ↦ s.told k x line y h
    ];
  }
  after_kept m i order v f l false e s =
      let line0 : Standing = record { fate = l.fate; seen = length l.log; led = v.led ++ (length m.log, length l.log) ∷ []; rewrites = f.rewrites } in
      record {
        told = λ k x line q h. elim (set_cases m.parts i (record v { led = v.led ++ (length m.log, length l.log) ∷ []; told = Some line0 }) k x q) [
          | inl (ik, y) ↦ ap (λ (u : Standing). is_let_go u.fate) (sym (same_Some line0 line (ap (λ (u : Part P). u.told) y ∙ h))) ∙ e
          | inr (ik, y) ↦ s.told k x line y h
        ];
      }

  leads_kept : (log : List Entry) (i : ℕ) (f : Follower P) → is_let_go (leads_on g judges start most cuts hands log i f).fate ≡ false
  unfolding lead_to_hand
  leads_kept log i f = lead_stays g start most (cuts i) hands (length log) _ (record { process = f.process; log = log; fate = None }) refl

  turn_kept : (m : Run P) → Kept m → Kept (turn g judges start most cuts hands m)
  turn_kept m s = turn_keeps g judges start most cuts hands (λ x. Kept x) m s (λ i order e. record { told = s.told })
      (λ i order v ov e h n.
      let f = tracked_by g judges start most cuts hands m.log i v in
      let l = leads_on g judges start most cuts hands m.log i f in
      after_kept m i order v f l (is_handed hands (length m.log) l) (leads_kept m.log i f) s)

  begun_kept : (ps : List P) (k : ℕ) (v : Part P) (line : Standing) → slice_get (map part ps) k ≡ Some v → v.told ≡ Some line → is_let_go line.fate ≡ false
  begun_kept [] k v line h q = cc
  begun_kept (p ∷ ps) zero v line h q = let z : None ≡ Some line = ap (λ (u : Part P). u.told) (same_Some (part p) v h) ∙ q in cc
  begun_kept (p ∷ ps) (suc k) v line h q = begun_kept ps k v line h q

  lines_at : (log : List Entry) (i : ℕ) (vs : List (Part P)) (k : ℕ) (line : Standing) → slice_get (lines_of g judges start most cuts hands log i vs) k ≡ Some line
      → (j : ℕ) × (v : Part P) × (slice_get vs k ≡ Some v) × (told_standing g judges start most cuts hands log j v v.told ≡ line)
  lines_at log i [] k line h = cc
  lines_at log i (v ∷ vs) zero line h = (i, v, refl, same_Some (told_standing g judges start most cuts hands log i v v.told) line h)
  lines_at log i (v ∷ vs) (suc k) line h = lines_at log (i + 1) vs k line h

  behind_line : (m : Run P) (j k : ℕ) (v : Part P) (o : Option Standing) (line : Standing) → Kept m → slice_get m.parts k ≡ Some v → v.told ≡ o
      → told_standing g judges start most cuts hands m.log j v o ≡ line → is_let_go line.fate ≡ true → line.seen < length m.log
  behind_line m j k v (Some told) line s h e q l = let z : true ≡ false = sym l ∙ (ap (λ (x : Standing). is_let_go x.fate) (sym q) ∙ s.told k v told h e) in cc
  behind_line m j k v None line s h e q l =
      subst (λ (x : Standing). x.seen < length m.log) q (behind g (judges j) v.led (cuts j) m.log v.process (ap (λ (x : Standing). is_let_go x.fate) q ∙ l))

  pub left_behind_lines : (ps : List P) (k : ℕ) (line : Standing) → slice_get (sequence g judges start most cuts hands ps).lines k ≡ Some line → is_let_go line.fate ≡ true
      → line.seen < length (sequence g judges start most cuts hands ps).log
  unfolding sequence
  left_behind_lines ps k line h l =
      let m = stage (turn g judges start most cuts hands) (length ps + length hands) (begun ps) in
      let s : Kept m = stage_keeps g judges start most cuts hands (λ x. Kept x) turn_kept (length ps + length hands) (begun ps) (record { told = begun_kept ps }) in
      let r = lines_at m.log 0 m.parts k line h in
      behind_line m r.0 k r.1 r.1.told line s r.2 refl r.3 l

-- two runs that differ in one version's cut

-- version i has led nothing so far
abbrev Quiet : {P : Type 0} → ℕ → Run P → Type 0
Quiet {P} i m = (v : Part P) → slice_get m.parts i ≡ Some v → v.led ≡ []

more_led : (spans : List (ℕ × ℕ)) (span : ℕ × ℕ) → spans ++ span ∷ [] ≡ [] → ⊥
more_led [] span h = cc
more_led (s ∷ spans) span h = cc

module _ {P : Type 0} (i : ℕ) where
  after_loud : (m : Run P) (order : List ℕ) (v : Part P) (f : Follower P) (l : Leader P) (b : Bool) → slice_get m.parts i ≡ Some v → Quiet i (after_lead m i order v f l b) → ⊥
  after_loud m order v f l true h q = more_led v.led (length m.log, length l.log) (q _ (get_set m.parts i v _ h))
  after_loud m order v f l false h q = more_led v.led (length m.log, length l.log) (q _ (get_set m.parts i v _ h))

  after_quiet : (m : Run P) (j : ℕ) (order : List ℕ) (v : Part P) (f : Follower P) (l : Leader P) (b : Bool) → (j == i) ≡ false → Quiet i (after_lead m j order v f l b) → Quiet i m
  after_quiet m j order v f l true ne q w h = q w (get_other m.parts j _ i ne ∙ h)
  after_quiet m j order v f l false ne q w h = q w (get_other m.parts j _ i ne ∙ h)

module _ {P : Type 0} (g : Behaviour P) (judges : ℕ → Judge) (start : Start) (most : ℕ) (hands : List ℕ) (i : ℕ) where
  abbrev Turn : (ℕ → Option ℕ) → Run P → Run P
  Turn cuts m = turn g judges start most cuts hands m

  module _ (cuts : ℕ → Option ℕ) where
    by_quiet : (m : Run P) (j : ℕ) (order : List ℕ) (v : Part P) (f : Follower P) (o : Option Fate) (b : Bool) → (j == i) ≡ b → slice_get m.parts j ≡ Some v
        → Quiet i (turn_by g judges start most cuts hands m j order v f o) → Quiet i m
    by_quiet m j order v f (Some x) b e h q = q
    by_quiet m j order v f None false e h q = after_quiet i m j order v f (leads_on g judges start most cuts hands m.log j f) (is_handed hands (length m.log) (leads_on g judges start most cuts hands m.log j f)) e q
    by_quiet m j order v f None true e h q =
        let l = leads_on g judges start most cuts hands m.log j f in
        let ji = eq_same j i e in
        absurd (after_loud i m order v f l (is_handed hands (length m.log) l) (subst (λ (n : ℕ). slice_get m.parts n ≡ Some v) ji h)
        (subst (λ (n : ℕ). Quiet i (after_lead m n order v f l (is_handed hands (length m.log) l))) ji q))

    of_quiet : (m : Run P) (j : ℕ) (order : List ℕ) (o : Option (Part P)) → slice_get m.parts j ≡ o → Quiet i (turn_of g judges start most cuts hands m j order o) → Quiet i m
    of_quiet m j order None h q = q
    of_quiet m j order (Some v) h q =
        let f = tracked_by g judges start most cuts hands m.log j v in
        by_quiet m j order v f f.fate (j == i) refl h q

    in_quiet : (m : Run P) (over : Bool) (order : List ℕ) → Quiet i (turn_in g judges start most cuts hands m over order) → Quiet i m
    in_quiet m true order q = q
    in_quiet m false [] q = q
    in_quiet m false (j ∷ order) q = of_quiet m j order (slice_get m.parts j) refl q

    -- who has led nothing had led nothing before
    turn_quiet : (m : Run P) → Quiet i (Turn cuts m) → Quiet i m
    unfolding turn
    turn_quiet m q = in_quiet m m.over m.order q

    stage_quiet : (n : ℕ) (m : Run P) → Quiet i (stage (Turn cuts) n m) → Quiet i m
    stage_quiet zero m q = subst (Quiet i) (stage_zero (Turn cuts) m) q
    stage_quiet (suc n) m q = turn_quiet m (stage_quiet n (Turn cuts m) (subst (Quiet i) (stage_one (Turn cuts) n m) q))

    -- it leaves the order where its turn comes
    by_leaves : (m : Run P) (order : List ℕ) (v : Part P) (f : Follower P) (o : Option Fate) → slice_get m.parts i ≡ Some v → Quiet i (turn_by g judges start most cuts hands m i order v f o)
        → turn_by g judges start most cuts hands m i order v f o ≡ record m { order = order }
    by_leaves m order v f (Some x) h q = refl
    by_leaves m order v f None h q =
        let l = leads_on g judges start most cuts hands m.log i f in
        absurd (after_loud i m order v f l (is_handed hands (length m.log) l) h q)

  module _ (cuts others : ℕ → Option ℕ) (same : (k : ℕ) → (i == k) ≡ false → cuts k ≡ others k) where
    of_same : (m : Run P) (j : ℕ) (order : List ℕ) (o : Option (Part P)) (b : Bool) → (i == j) ≡ b → slice_get m.parts j ≡ o
        → Quiet i (turn_of g judges start most cuts hands m j order o) → Quiet i (turn_of g judges start most others hands m j order o)
        → turn_of g judges start most cuts hands m j order o ≡ turn_of g judges start most others hands m j order o
    of_same m j order None b e h q r = refl
    of_same m j order (Some v) false e h q r = ap (λ (c : Option ℕ). turn_of g judges start most (λ k. c) hands m j order (Some v)) (same j e)
    of_same m j order (Some v) true e h q r =
        let ij : i ≡ j = eq_same i j e in
        let T : (ℕ → Option ℕ) → ℕ → Run P = λ c n. turn_of g judges start most c hands m n order (Some v) in
        let h' = subst (λ (n : ℕ). slice_get m.parts n ≡ Some v) (sym ij) h in
        let a : T cuts i ≡ record m { order = order } = by_leaves cuts m order v (tracked_by g judges start most cuts hands m.log i v)
        (tracked_by g judges start most cuts hands m.log i v).fate h' (subst (λ (n : ℕ). Quiet i (T cuts n)) (sym ij) q) in
        let b : T others i ≡ record m { order = order } = by_leaves others m order v (tracked_by g judges start most others hands m.log i v)
        (tracked_by g judges start most others hands m.log i v).fate h' (subst (λ (n : ℕ). Quiet i (T others n)) (sym ij) r) in
        subst (λ (n : ℕ). T cuts n ≡ T others n) ij (a ∙ sym b)

    in_same : (m : Run P) (over : Bool) (order : List ℕ) → Quiet i (turn_in g judges start most cuts hands m over order) → Quiet i (turn_in g judges start most others hands m over order)
        → turn_in g judges start most cuts hands m over order ≡ turn_in g judges start most others hands m over order
    in_same m true order q r = refl
    in_same m false [] q r = refl
    in_same m false (j ∷ order) q r = of_same m j order (slice_get m.parts j) (i == j) refl refl q r

    turn_same : (m : Run P) → Quiet i (Turn cuts m) → Quiet i (Turn others m) → Turn cuts m ≡ Turn others m
    unfolding turn
    turn_same m q r = in_same m m.over m.order q r

    stage_same : (n : ℕ) (m : Run P) → Quiet i (stage (Turn cuts) n m) → Quiet i (stage (Turn others) n m) → stage (Turn cuts) n m ≡ stage (Turn others) n m
    stage_same zero m q r = stage_zero (Turn cuts) m ∙ sym (stage_zero (Turn others) m)
    stage_same (suc n) m q r =
        let q1 = subst (Quiet i) (stage_one (Turn cuts) n m) q in
        let r1 = subst (Quiet i) (stage_one (Turn others) n m) r in
        let t : Turn cuts m ≡ Turn others m = turn_same m (stage_quiet cuts n (Turn cuts m) q1) (stage_quiet others n (Turn others m) r1) in
        stage_one (Turn cuts) n m ∙ (stage_same n (Turn cuts m) q1 (subst (λ (x : Run P). Quiet i (stage (Turn others) n x)) (sym t) r1)
        ∙ (ap (stage (Turn others) n) t ∙ sym (stage_one (Turn others) n m)))

    line_same : (log : List Entry) (b : ℕ) (vs : List (Part P)) (k : ℕ) → (i == b + k) ≡ false
        → slice_get (lines_of g judges start most cuts hands log b vs) k ≡ slice_get (lines_of g judges start most others hands log b vs) k
    line_same log b [] k e = refl
    line_same log b (v ∷ vs) zero e =
        let n : b + 0 ≡ b = omega arith in
        ap (λ (c : Option ℕ). Some (told_standing g judges start most (λ k. c) hands log b v v.told)) (same b (ap (λ (x : ℕ). i == x) (sym n) ∙ e))
    line_same log b (v ∷ vs) (suc k) e = let n : b + suc k ≡ b + 1 + k = omega arith in line_same log (b + 1) vs k (ap (λ (x : ℕ). i == x) (sym n) ∙ e)

  module _ (cuts : ℕ → Option ℕ) where
    line_led : (log : List Entry) (b : ℕ) (v : Part P) (o : Option Standing) → v.told ≡ o → ((line : Standing) → v.told ≡ Some line → line.led ≡ v.led)
        → (told_standing g judges start most cuts hands log b v o).led ≡ v.led
    line_led log b v None e h = refl
    line_led log b v (Some line) e h = h line e

    line_there : (log : List Entry) (b : ℕ) (vs : List (Part P)) (k : ℕ) (v : Part P) → slice_get vs k ≡ Some v
        → (j : ℕ) × (slice_get (lines_of g judges start most cuts hands log b vs) k ≡ Some (told_standing g judges start most cuts hands log j v v.told))
    line_there log b [] k v h = cc
    line_there log b (u ∷ vs) zero v h = (b, ap (λ (x : Part P). Some (told_standing g judges start most cuts hands log b x x.told)) (same_Some u v h))
    line_there log b (u ∷ vs) (suc k) v h = line_there log (b + 1) vs k v h

    quiet_end : (ps : List P) → NeverLed i (sequence g judges start most cuts hands ps) → Quiet i (stage (Turn cuts) (length ps + length hands) (begun ps))
    unfolding sequence
    quiet_end ps never v h =
        let m = stage (Turn cuts) (length ps + length hands) (begun ps) in
        let t : Tiled m = stage_keeps g judges start most cuts hands (λ x. Tiled x) (turn_tiled g judges start most cuts hands) (length ps + length hands) (begun ps)
        (record { covers = λ n. none_led g judges start most cuts hands ps n ∙ sym (zero_below g judges start most cuts hands n); told = λ k u line q r. none_told g judges start most cuts hands ps k u line q r }) in
        let l = line_there m.log 0 m.parts i v h in
        sym (line_led m.log l.0 v v.told refl (λ line e. t.told i v line h e)) ∙ never _ l.1

  pub no_other : (cuts others : ℕ → Option ℕ) (ps : List P) → ((k : ℕ) → (i == k) ≡ false → cuts k ≡ others k)
      → NeverLed i (sequence g judges start most cuts hands ps) → NeverLed i (sequence g judges start most others hands ps)
      → SameButFor i (sequence g judges start most cuts hands ps) (sequence g judges start most others hands ps)
  unfolding sequence
  no_other cuts others ps same a b =
      let n = length ps + length hands in
      let e = stage_same cuts others same n (begun ps) (quiet_end cuts ps a) (quiet_end others ps b) in
      let m = stage (Turn cuts) n (begun ps) in
      record {
        log = ap (λ (x : Run P). x.log) e;
        lines = λ k ne. line_same cuts others same m.log 0 m.parts k (let z : 0 + k ≡ k = omega arith in ap (λ (x : ℕ). i == x) z ∙ ne)
            ∙ ap (λ (x : Run P). slice_get (lines_of g judges start most others hands x.log 0 x.parts) k) e;
      }
