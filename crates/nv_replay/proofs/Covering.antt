-- The parts of the log that the versions led are disjoint and cover it.
use Rattle.std.proofs.Common.{◌≡◌, ◌∙◌, sym, ap, subst, refl, inl, inr, arith, length-append, cond}
use Rattle.std.specs.Prelude.{ℕ, zero, suc, ◌+◌, ◌≤◌, Bool, true, false, List, [], ◌∷◌, ◌++◌, length, map, set, Option, Some, None, slice_get, not, ◌&&◌, nat_le}
use Rattle.std.proofs.lemmas.Option.{same_Some}
use Rattle.std.proofs.lemmas.Bool.Decides.{nat_tests}
use Rattle.nv_calls.specs.Calls.{Entry}
use Rattle.nv_calls.specs.Logs.{Start}
use Rattle.nv_threads.specs.Behaviours.{Behaviour}
use Rattle.nv_replay.specs.declared.fate.Fate.{Fate}
use Rattle.nv_replay.specs.declared.standing.Standing.{Standing}
use Rattle.nv_replay.specs.Settling.{stage}
use Rattle.nv_replay.specs.Follow.{Follower, Judge}
use Rattle.nv_replay.specs.Lead.{Leader}
use Rattle.nv_replay.specs.Tracks.{is_in}
use Rattle.nv_replay.specs.Hands.{is_handed}
use Rattle.nv_replay.specs.Monitor.{Part, Run, part, begun, after_lead, tracked_by, leads_on, turn_by, turn_of, turn_in, turn, told_standing, lines_of, sequence}
use Rattle.nv_replay.proofs.Settled.{stage_zero, stage_one}
use Rattle.nv_replay.specs.Covers.{times, led_times, Covers}
use Rattle.nv_replay.proofs.Numbers.{set_cases}
use Rattle.nv_replay.proofs.Stretches.{hand_grows}

times_last : (spans : List (ℕ × ℕ)) (a b n : ℕ) → times (spans ++ (a, b) ∷ []) n ≡ times spans n + cond (is_in (a, b) n) 1 0
times_last [] a b n = omega arith
times_last (s ∷ spans) a b n = omega (arith, times_last spans a b n)

by_tests : (x y : Bool) → (x ≡ false → y ≡ true → ⊥) → cond x 0 1 + cond (x && not y) 1 0 ≡ cond y 0 1
by_tests true true h = refl
by_tests true false h = refl
by_tests false true h = absurd (h refl refl)
by_tests false false h = refl

one_more : (a b n : ℕ) → a ≤ b → cond (nat_le a n) 0 1 + cond (is_in (a, b) n) 1 0 ≡ cond (nat_le b n) 0 1
one_more a b n l = by_tests (nat_le a n) (nat_le b n) (λ h k. let z : ⊥ = grind (arith, nat_tests) in z)

abbrev part_times : {P : Type 0} → List (Part P) → ℕ → ℕ
part_times [] n = 0
part_times (v ∷ vs) n = times v.led n + part_times vs n

times_set : {P : Type 0} (vs : List (Part P)) (i : ℕ) (v w : Part P) (n : ℕ) → slice_get vs i ≡ Some v
    → part_times (set vs i w) n + times v.led n ≡ part_times vs n + times w.led n
times_set [] i v w n h = cc
times_set {P = P} (u ∷ vs) zero v w n h = let e : times u.led n ≡ times v.led n = ap (λ (x : Part P). times x.led n) (same_Some u v h) in omega arith
times_set (u ∷ vs) (suc i) v w n h = omega (arith, times_set vs i v w n h)

pub record Tiled {P : Type 0} (m : Run P) : Type 0 where
  pub covers : (n : ℕ) → part_times m.parts n ≡ cond (nat_le (length m.log) n) 0 1
  pub told : (k : ℕ) (v : Part P) (line : Standing) → slice_get m.parts k ≡ Some v → v.told ≡ Some line → line.led ≡ v.led

module _ {P : Type 0} (g : Behaviour P) (judges : ℕ → Judge) (start : Start) (most : ℕ) (cuts : ℕ → Option ℕ) (hands : List ℕ) where
  abbrev pub after : Run P → ℕ → List ℕ → Part P → Run P
  after m i order v =
      let f = tracked_by g judges start most cuts hands m.log i v in
      after_lead m i order v f (leads_on g judges start most cuts hands m.log i f) (is_handed hands (length m.log) (leads_on g judges start most cuts hands m.log i f))

  by_keeps : (I : Run P → Type 0) (m : Run P) (i : ℕ) (order : List ℕ) (v : Part P) (o : Option Fate) → (tracked_by g judges start most cuts hands m.log i v).fate ≡ o
      → I (record m { order = order }) → ((tracked_by g judges start most cuts hands m.log i v).fate ≡ None → I (after m i order v))
      → I (turn_by g judges start most cuts hands m i order v (tracked_by g judges start most cuts hands m.log i v) o)
  by_keeps I m i order v (Some x) h a b = a
  by_keeps I m i order v None h a b = b h

  of_keeps : (I : Run P → Type 0) (m : Run P) (i : ℕ) (order : List ℕ) (o : Option (Part P)) → slice_get m.parts i ≡ o → I (record m { order = order })
      → ((v : Part P) → slice_get m.parts i ≡ Some v → (tracked_by g judges start most cuts hands m.log i v).fate ≡ None → I (after m i order v))
      → I (turn_of g judges start most cuts hands m i order o)
  of_keeps I m i order None h a b = a
  of_keeps I m i order (Some v) h a b = by_keeps I m i order v (tracked_by g judges start most cuts hands m.log i v).fate refl a (b v h)

  in_keeps : (I : Run P → Type 0) (m : Run P) (over : Bool) (order : List ℕ) → m.over ≡ over → m.order ≡ order → I m
      → ((i : ℕ) (order : List ℕ) → m.order ≡ i ∷ order → I (record m { order = order }))
      → ((i : ℕ) (order : List ℕ) (v : Part P) → m.over ≡ false → m.order ≡ i ∷ order → slice_get m.parts i ≡ Some v
      → (tracked_by g judges start most cuts hands m.log i v).fate ≡ None → I (after m i order v)) → I (turn_in g judges start most cuts hands m over order)
  in_keeps I m true order h k s a b = s
  in_keeps I m false [] h k s a b = s
  in_keeps I m false (i ∷ order) h k s a b = of_keeps I m i order (slice_get m.parts i) refl (a i order k) (λ v q n. b i order v h k q n)

  -- what each of a turn's ends keeps, a turn keeps
  pub turn_keeps : (I : Run P → Type 0) (m : Run P) → I m → ((i : ℕ) (order : List ℕ) → m.order ≡ i ∷ order → I (record m { order = order }))
      → ((i : ℕ) (order : List ℕ) (v : Part P) → m.over ≡ false → m.order ≡ i ∷ order → slice_get m.parts i ≡ Some v
      → (tracked_by g judges start most cuts hands m.log i v).fate ≡ None → I (after m i order v)) → I (turn g judges start most cuts hands m)
  unfolding turn
  turn_keeps I m s a b = in_keeps I m m.over m.order refl refl s a b

  pub stage_keeps : (I : Run P → Type 0) → ((m : Run P) → I m → I (turn g judges start most cuts hands m)) → (k : ℕ) (m : Run P) → I m → I (stage (turn g judges start most cuts hands) k m)
  stage_keeps I f zero m t = subst I (sym (stage_zero (turn g judges start most cuts hands) m)) t
  stage_keeps I f (suc k) m t = subst I (sym (stage_one (turn g judges start most cuts hands) k m)) (stage_keeps I f k (turn g judges start most cuts hands m) (f m t))

  covers_on : (m : Run P) (i : ℕ) (v w : Part P) (b n : ℕ) → Tiled m → slice_get m.parts i ≡ Some v → w.led ≡ v.led ++ (length m.log, b) ∷ [] → length m.log ≤ b
      → part_times (set m.parts i w) n ≡ cond (nat_le b n) 0 1
  covers_on m i v w b n t h e l =
      omega (arith, times_set m.parts i v w n h, ap (λ (x : List (ℕ × ℕ)). times x n) e, times_last v.led (length m.log) b n, t.covers n, one_more (length m.log) b n l)

  after_tiled : (m : Run P) (i : ℕ) (order : List ℕ) (v : Part P) (f : Follower P) (l : Leader P) (b : Bool) → Tiled m → slice_get m.parts i ≡ Some v
      → length m.log ≤ length l.log → Tiled (after_lead m i order v f l b)
  after_tiled m i order v f l true t h le =
      let w : Part P = record v { led = v.led ++ (length m.log, length l.log) ∷ []; told = None } in record {
        covers = λ n. covers_on m i v w (length l.log) n t h refl le;
        told = λ k x line q r. elim (set_cases m.parts i w k x q) [
          | inl (e, y) ↦ (let z : None ≡ Some line = ap (λ (u : Part P). u.told) y ∙ r in cc)
          | inr (e, y) ↦ t.told k x line y r
        ];
      }
  after_tiled m i order v f l false t h le =
      let line0 : Standing = record { fate = l.fate; seen = length l.log; led = v.led ++ (length m.log, length l.log) ∷ []; rewrites = f.rewrites } in
      let w : Part P = record v { led = v.led ++ (length m.log, length l.log) ∷ []; told = Some line0 } in record {
        covers = λ n. covers_on m i v w (length l.log) n t h refl le;
        told = λ k x line q r. elim (set_cases m.parts i w k x q) [
          | inl (e, y) ↦ (let z : line0 ≡ line = same_Some line0 line (ap (λ (u : Part P). u.told) y ∙ r) in ap (λ (u : Standing). u.led) (sym z) ∙ ap (λ (u : Part P). u.led) y)
          | inr (e, y) ↦ t.told k x line y r
        ];
      }

  pub turn_tiled : (m : Run P) → Tiled m → Tiled (turn g judges start most cuts hands m)
  turn_tiled m t = turn_keeps (λ x. Tiled x) m t (λ i order q. record { covers = t.covers; told = t.told })
      (λ i order v o q h n.
      let f = tracked_by g judges start most cuts hands m.log i v in
      let l = leads_on g judges start most cuts hands m.log i f in
      let k = hand_grows g start most (cuts i) hands (length m.log) (record { process = f.process; log = m.log; fate = None }) in
      after_tiled m i order v f l (is_handed hands (length m.log) l) t h (omega (arith, ap length k.1, length-append m.log k.0)))

  pub none_led : (ps : List P) (n : ℕ) → part_times (map part ps) n ≡ 0
  none_led [] n = refl
  none_led (p ∷ ps) n = omega (arith, none_led ps n)

  pub none_told : (ps : List P) (k : ℕ) (v : Part P) (line : Standing) → slice_get (map part ps) k ≡ Some v → v.told ≡ Some line → line.led ≡ v.led
  none_told [] k v line h q = cc
  none_told (p ∷ ps) zero v line h q = let z : None ≡ Some line = ap (λ (u : Part P). u.told) (same_Some (part p) v h) ∙ q in cc
  none_told (p ∷ ps) (suc k) v line h q = none_told ps k v line h q

  pub zero_below : (n : ℕ) → ◌≡◌ {A = ℕ} (cond (nat_le 0 n) 0 1) 0
  zero_below n = let h : nat_le 0 n ≡ true = grind (arith, nat_tests) in rw h refl

  line_led : (log : List Entry) (i : ℕ) (v : Part P) (o : Option Standing) → v.told ≡ o → ((line : Standing) → v.told ≡ Some line → line.led ≡ v.led)
      → (told_standing g judges start most cuts hands log i v o).led ≡ v.led
  line_led log i v None e h = refl
  line_led log i v (Some line) e h = h line e

  lines_led : (log : List Entry) (i : ℕ) (vs : List (Part P)) (n : ℕ) → ((k : ℕ) (v : Part P) (line : Standing) → slice_get vs k ≡ Some v → v.told ≡ Some line → line.led ≡ v.led)
      → led_times (lines_of g judges start most cuts hands log i vs) n ≡ part_times vs n
  lines_led log i [] n h = refl
  lines_led log i (v ∷ vs) n h =
      omega (arith, ap (λ (x : List (ℕ × ℕ)). times x n) (line_led log i v v.told refl (λ line q. h 0 v line refl q)), lines_led log (i + 1) vs n (λ k u line q r. h (suc k) u line q r))

  pub covers : (ps : List P) → Covers (sequence g judges start most cuts hands ps).lines (sequence g judges start most cuts hands ps).log
  unfolding sequence
  covers ps n =
      let m = stage (turn g judges start most cuts hands) (length ps + length hands) (begun ps) in
      let t : Tiled m = stage_keeps (λ x. Tiled x) turn_tiled (length ps + length hands) (begun ps) (record { covers = λ k. none_led ps k ∙ sym (zero_below k); told = λ k v line h q. none_told ps k v line h q }) in
      lines_led m.log 0 m.parts n t.told ∙ t.covers n
