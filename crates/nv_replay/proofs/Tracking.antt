-- A version over a log of which it has led parts: what it has come to holds over each longer log, and after its parts it follows.
use Rattle.std.proofs.Common.{◌≡◌, ◌∙◌, sym, ap, subst, refl, ℕ, zero, suc, ◌+◌, ◌<◌, ◌≤◌, ◌⊎◌, inl, inr, Bool, true, false, List, [], ◌∷◌, ◌++◌, length, Option, Some, None, arith, cond}
use Rattle.std.specs.Prelude.{slice_get, not, ◌&&◌, ◌||◌, nat_le}
use Rattle.std.proofs.lemmas.Bool.Decides.{nat_tests}
use Rattle.nv_calls.specs.Calls.{Entry, is_same}
use Rattle.nv_threads.specs.Behaviours.{Behaviour, IsProcess}
use Rattle.nv_threads.specs.declared.turns.Want.TheVariants.{Any}
use Rattle.nv_threads.specs.declared.turns.Came.{Came}
use Rattle.nv_threads.specs.declared.turns.Came.TheVariants.{Asked, Fault}
use Rattle.nv_replay.specs.declared.fate.Fate.{Fate}
use Rattle.nv_replay.specs.Settling.{stage}
use Rattle.nv_replay.specs.Permits.{Permit, Give, Pass, Consume, No}
use Rattle.nv_replay.specs.Spans.{EndBy}
use Rattle.nv_replay.specs.Follow.{Follower, Judge, fresh, decided, met, judged, consumed, permit_by, refusal_by, follow_next, on_next, follow}
use Rattle.nv_replay.specs.Sequence.{is_going}
use Rattle.nv_replay.proofs.Settled.{Reaches, reach_here, reach_first, reached, stage_zero, stage_one, stage_rests, Falls}
use Rattle.nv_replay.proofs.Extending.{get_prefix, follow_reached, follow_rests, reach_all}
use Rattle.nv_replay.proofs.Falling.{size, decided_falls, consumed_falls, within}
use Rattle.nv_replay.proofs.Wholes.{bound}
use Rattle.nv_replay.specs.Tracks.{is_in, is_led, tracked, track_on, track_next, track, retraced_by}

off_some : (f : Option Fate) → is_going f ≡ false → f ≡ None → ⊥
off_some None h e = cc
off_some (Some x) h e = cc

module _ {P : Type 0} (g : Behaviour P) (judge : Judge) (spans : List (ℕ × ℕ)) (log more : List Entry) where
  abbrev short : Follower P → Follower P
  short = track_next g judge spans log

  abbrev long : Follower P → Follower P
  long = track_next g judge spans (log ++ more)

  same_on : (s : Follower P) (o : Option Entry) (f : Option Fate) → slice_get log s.seen ≡ o
      → (track_on g judge spans s o f ≡ s) ⊎ (track_on g judge spans s o f ≡ track_on g judge spans s (slice_get (log ++ more) s.seen) f)
  same_on s o (Some f) h = inl refl
  same_on s None None h = inl refl
  same_on s (Some e) None h = let k : slice_get (log ++ more) s.seen ≡ Some e = get_prefix log more s.seen e h in inr (rw k refl)

  next_same : (s : Follower P) → (short s ≡ s) ⊎ (short s ≡ long s)
  unfolding track_next
  next_same s = same_on s (slice_get log s.seen) s.fate refl

  pub track_extended : (n : ℕ) (s t : Follower P) → stage short n s ≡ t → Reaches long s t
  track_extended zero s t h = subst (λ (x : Follower P). Reaches long s x) (sym (stage_zero short s) ∙ h) (reach_here long s)
  track_extended (suc n) s t h = elim (next_same s) [
    | inl e ↦ subst (λ (x : Follower P). Reaches long s x) (sym (stage_rests short (suc n) s e) ∙ h) (reach_here long s)
    | inr e ↦ reach_first long s t (subst (λ (x : Follower P). Reaches long x t) e (track_extended n (short s) t (sym (stage_one short n s) ∙ h)))
  ]

module _ {P : Type 0} (g : Behaviour P) (laws : IsProcess g) (judge : Judge) (spans : List (ℕ × ℕ)) where
  retraced_falls : (n : ℕ) (e : Entry) (s : Follower P) (p : P) (came : Came) → s.seen < n → s.fate ≡ None
      → ((t : ℕ) → came ≡ Asked t → g.pending p t ≡ true) → g.calls_left p ≤ g.calls_left s.process
      → size g n (retraced_by g judge spans e s p came) < size g n s
  unfolding size retraced_by
  retraced_falls n e s p (Fault k t pc) l f h c = rw f (omega arith)
  retraced_falls n e s p (Asked t) l f h c = consumed_falls g laws judge n s p t e.reply l f (h t refl) c

  tracked_falls : (n : ℕ) (e : Entry) (s : Follower P) (b : Bool) → s.seen < n → s.fate ≡ None → size g n (tracked g judge spans e s b) < size g n s
  tracked_falls n e s true l f = retraced_falls n e s (g.after s.process Any) (g.came s.process Any) l f (λ t h. laws.asked s.process Any t h) (laws.keeps s.process Any)
  tracked_falls n e s false l f = decided_falls g laws judge n e s l f

  on_falls : (log : List Entry) (s : Follower P) (o : Option Entry) (f : Option Fate) → o ≡ slice_get log s.seen → f ≡ s.fate
      → (track_on g judge spans s o f ≡ s) ⊎ (size g (length log) (track_on g judge spans s o f) < size g (length log) s)
  on_falls log s o (Some f) h k = inl refl
  on_falls log s None None h k = inl refl
  on_falls log s (Some e) None h k = inr (tracked_falls (length log) e s (is_led spans s.seen) (within log s.seen e (sym h)) (sym k))

  track_falls : (log : List Entry) → Falls (track_next g judge spans log) (size g (length log))
  unfolding track_next
  track_falls log = record { each = λ s. on_falls log s (slice_get log s.seen) s.fate refl refl }

  rests_on : (s : Follower P) (o : Option Entry) (f : Option Fate) → (f ≡ None → ⊥) → track_on g judge spans s o f ≡ s
  rests_on s o (Some f) h = refl
  rests_on s o None h = absurd (h refl)

  track_rests : (log : List Entry) (s : Follower P) → (s.fate ≡ None → ⊥) → track_next g judge spans log s ≡ s
  unfolding track_next
  track_rests log s h = rests_on s (slice_get log s.seen) s.fate h

  -- what has ended within a part of the log has Track's value over each longer part
  pub track_ended : (p : P) (at : Follower P) (read m : List Entry) → Reaches (track_next g judge spans read) (fresh p) at → is_going at.fate ≡ false → at ≡ track g judge spans (read ++ m) (fresh p)
  unfolding track
  track_ended p at read m r e =
      let x = track_extended g judge spans read m r.steps (fresh p) at r.is in
      let log : List Entry = read ++ m in
      sym (reached (track_next g judge spans log) (size g (length log)) (track_falls log) (length log + g.calls_left p + 1) (fresh p)
      (bound g laws judge log (fresh p) None refl) x.steps at x.is (track_rests log at (off_some at.fate e)))

  pub track_reached : (log : List Entry) (s : Follower P) → Reaches (track_next g judge spans log) s (track g judge spans log s)
  unfolding track
  track_reached log s = record { steps = length log + g.calls_left s.process + 1; is = refl }

  -- what rests and was reached is the whole
  pub track_is : (log : List Entry) (s t : Follower P) → Reaches (track_next g judge spans log) s t → track_next g judge spans log t ≡ t
      → t ≡ track g judge spans log s
  unfolding track size
  track_is log s t r h = sym (reached (track_next g judge spans log) (size g (length log)) (track_falls log)
      (length log + g.calls_left s.process + 1) s (bound g laws judge log s s.fate refl) r.steps t r.is h)

and_not : (x y : Bool) → y ≡ true → (x && not y) ≡ false
and_not true y h = rw h refl
and_not false y h = refl

-- after all parts that end at n or before
not_within : (span : ℕ × ℕ) (n : ℕ) → span.1 ≤ n → is_in span n ≡ false
not_within (a, b) n h = let k : nat_le b n ≡ true = grind (arith, nat_tests) in and_not (nat_le a n) (nat_le b n) k

or_not : (x y : Bool) → x ≡ false → y ≡ false → (x || y) ≡ false
or_not true y h k = cc
or_not false y h k = k

pub not_led_after : (spans : List (ℕ × ℕ)) (m n : ℕ) → EndBy m spans → m ≤ n → is_led spans n ≡ false
not_led_after [] m n e l = refl
not_led_after (span ∷ spans) m n e l = or_not (is_in span n) (is_led spans n)
    (not_within span n (let h = e.each 0 span refl in omega arith))
    (not_led_after spans m n (record { each = λ i x h. e.each (suc i) x h }) l)

pub ends_later : (spans : List (ℕ × ℕ)) (m n : ℕ) → EndBy m spans → m ≤ n → EndBy n spans
ends_later spans m n e l = record { each = λ i x h. let k = e.each i x h in omega arith }

module _ {P : Type 0} (g : Behaviour P) (judge : Judge) where
  judged_seen : (s : Follower P) (p : P) (t : ℕ) (f : Fate) (o : Permit) → s.seen ≤ (judged g s p t f o).seen
  unfolding judged
  judged_seen s p t f (Give r) = omega arith
  judged_seen s p t f Pass = omega arith
  judged_seen s p t f (Consume r) = omega arith
  judged_seen s p t f No = omega arith

  met_seen : (s : Follower P) (e : Entry) (p : P) (came : Came) → s.seen ≤ (met g judge e s p came).seen
  unfolding met
  met_seen s e p (Fault k t pc) = omega arith
  met_seen s e p (Asked u) = elim (is_same (g.call p u) e.call) as
      (λ b. s.seen ≤ (cond b (consumed g s (g.answered p u e.reply))
      (judged g s p u (refusal_by judge e (g.call p u)) (permit_by judge e (g.call p u)))).seen)
      [ true ↦ omega arith | false ↦ judged_seen s p u _ _ ]

  pub decided_seen : (s : Follower P) (e : Entry) → s.seen ≤ (decided g judge e s).seen
  unfolding decided
  decided_seen s e = met_seen s e _ _

  on_seen : (log : List Entry) (s : Follower P) (o : Option Entry) (f : Option Fate) → s.seen ≤ (on_next g judge log s o f).seen
  on_seen log s o (Some f) = omega arith
  on_seen log s None None = omega arith
  on_seen log s (Some e) None = decided_seen s e

  pub next_seen : (log : List Entry) (s : Follower P) → s.seen ≤ (follow_next g judge log s).seen
  unfolding follow_next
  next_seen log s = on_seen log s (slice_get log s.seen) s.fate

  pub stage_seen : (log : List Entry) (n : ℕ) (s : Follower P) → s.seen ≤ (stage (follow_next g judge log) n s).seen
  stage_seen log zero s = rw (stage_zero (follow_next g judge log) s) (omega arith)
  stage_seen log (suc n) s = rw (stage_one (follow_next g judge log) n s) (omega (arith, next_seen log s, stage_seen log n (follow_next g judge log s)))

  on_after : (spans : List (ℕ × ℕ)) (log : List Entry) (s : Follower P) (o : Option Entry) (f : Option Fate) → is_led spans s.seen ≡ false
      → track_on g judge spans s o f ≡ on_next g judge log s o f
  on_after spans log s o (Some f) h = refl
  on_after spans log s None None h = refl
  on_after spans log s (Some e) None h = rw h refl

  -- after its parts a version follows
  pub next_after : (spans : List (ℕ × ℕ)) (log : List Entry) (s : Follower P) → EndBy s.seen spans → track_next g judge spans log s ≡ follow_next g judge log s
  unfolding track_next follow_next
  next_after spans log s e = on_after spans log s (slice_get log s.seen) s.fate (not_led_after spans s.seen s.seen e (omega arith))

  pub stage_after : (spans : List (ℕ × ℕ)) (log : List Entry) (n : ℕ) (s t : Follower P) → EndBy s.seen spans
      → stage (follow_next g judge log) n s ≡ t → Reaches (track_next g judge spans log) s t
  stage_after spans log zero s t e h = subst (λ (x : Follower P). Reaches (track_next g judge spans log) s x)
      (sym (stage_zero (follow_next g judge log) s) ∙ h) (reach_here (track_next g judge spans log) s)
  stage_after spans log (suc n) s t e h = reach_first (track_next g judge spans log) s t
      (subst (λ (x : Follower P). Reaches (track_next g judge spans log) x t) (sym (next_after spans log s e))
      (stage_after spans log n (follow_next g judge log s) t (ends_later spans s.seen (follow_next g judge log s).seen e (next_seen log s))
      (sym (stage_one (follow_next g judge log) n s) ∙ h)))

-- what it comes to over the log is what it comes to by following from after its parts
pub track_from : {P : Type 0} (g : Behaviour P) (laws : IsProcess g) (judge : Judge) (spans : List (ℕ × ℕ)) (log : List Entry) (s t : Follower P)
    → Reaches (track_next g judge spans log) s t → EndBy t.seen spans → track g judge spans log s ≡ follow g judge log t
track_from {P = P} g laws judge spans log s t r e =
    let f = follow g judge log t in
    let a = follow_reached g laws judge log [] t in
    let b = stage_after g judge spans log a.steps t f e a.is in
    let more : t.seen ≤ f.seen = subst (λ (x : Follower P). t.seen ≤ x.seen) a.is (stage_seen g judge log a.steps t) in
    let rest : track_next g judge spans log f ≡ f = next_after g judge spans log f (ends_later spans t.seen f.seen e more) ∙ follow_rests g laws judge log t in
    sym (track_is g laws judge spans log s f (reach_all (track_next g judge spans log) s t f r b) rest)

module _ {P : Type 0} (g : Behaviour P) (judge : Judge) where
  judged_one : (s : Follower P) (p : P) (t : ℕ) (f : Fate) (o : Permit) → (judged g s p t f o).seen ≤ s.seen + 1
  unfolding judged
  judged_one s p t f (Give r) = omega arith
  judged_one s p t f Pass = omega arith
  judged_one s p t f (Consume r) = omega arith
  judged_one s p t f No = omega arith

  met_one : (s : Follower P) (e : Entry) (p : P) (came : Came) → (met g judge e s p came).seen ≤ s.seen + 1
  unfolding met
  met_one s e p (Fault k t pc) = omega arith
  met_one s e p (Asked u) = elim (is_same (g.call p u) e.call) as
      (λ b. (cond b (consumed g s (g.answered p u e.reply))
      (judged g s p u (refusal_by judge e (g.call p u)) (permit_by judge e (g.call p u)))).seen ≤ s.seen + 1)
      [ true ↦ omega arith | false ↦ judged_one s p u _ _ ]

  pub decided_one : (s : Follower P) (e : Entry) → (decided g judge e s).seen ≤ s.seen + 1
  unfolding decided
  decided_one s e = met_one s e _ _

  on_within : (log : List Entry) (s : Follower P) (o : Option Entry) (f : Option Fate) → slice_get log s.seen ≡ o → s.seen ≤ length log
      → (on_next g judge log s o f).seen ≤ length log
  on_within log s o (Some f) h l = l
  on_within log s None None h l = l
  on_within log s (Some e) None h l = omega (arith, within log s.seen e h, decided_one s e)

  next_within : (log : List Entry) (s : Follower P) → s.seen ≤ length log → (follow_next g judge log s).seen ≤ length log
  unfolding follow_next
  next_within log s l = on_within log s (slice_get log s.seen) s.fate refl l

  stage_within : (log : List Entry) (n : ℕ) (s : Follower P) → s.seen ≤ length log → (stage (follow_next g judge log) n s).seen ≤ length log
  stage_within log zero s l = rw (stage_zero (follow_next g judge log) s) l
  stage_within log (suc n) s l = rw (stage_one (follow_next g judge log) n s) (stage_within log n (follow_next g judge log s) (next_within log s l))

  still_on : (laws : IsProcess g) (log : List Entry) (s : Follower P) (o : Option Entry) → slice_get log s.seen ≡ o → s.fate ≡ None
      → on_next g judge log s o s.fate ≡ s → o ≡ None
  still_on laws log s None h n e = refl
  still_on laws log s (Some x) h n e =
      let d : decided g judge x s ≡ s = sym (ap (λ (f : Option Fate). on_next g judge log s (Some x) f) n) ∙ e in
      let l = decided_falls g laws judge (length log) x s (within log s.seen x h) n in
      let l' : size g (length log) s < size g (length log) s = subst (λ (y : Follower P). size g (length log) y < size g (length log) s) d l in
      absurd (omega arith)

  rests_past : (laws : IsProcess g) (log : List Entry) (s : Follower P) → s.fate ≡ None → follow_next g judge log s ≡ s → slice_get log s.seen ≡ None
  unfolding follow_next
  rests_past laws log s n e = still_on laws log s (slice_get log s.seen) refl n e

past_end : (log : List Entry) (i : ℕ) → slice_get log i ≡ None → length log ≤ i
past_end [] i h = omega arith
past_end (e ∷ log) zero h = cc
past_end (e ∷ log) (suc i) h = omega (arith, past_end log i h)

-- who goes on has seen the whole log
pub followed_seen : {P : Type 0} (g : Behaviour P) (laws : IsProcess g) (judge : Judge) (log : List Entry) (s : Follower P) → s.seen ≤ length log
    → (follow g judge log s).fate ≡ None → (follow g judge log s).seen ≡ length log
followed_seen g laws judge log s l n =
    let f = follow g judge log s in
    let r = follow_reached g laws judge log [] s in
    let a : f.seen ≤ length log = subst (λ (x : Follower _). x.seen ≤ length log) r.is (stage_within g judge log r.steps s l) in
    let b = past_end log f.seen (rests_past g judge laws log f n (follow_rests g laws judge log s)) in
    omega arith

pub follow_seen : {P : Type 0} (g : Behaviour P) (laws : IsProcess g) (judge : Judge) (log : List Entry) (p : P)
    → (follow g judge log (fresh p)).fate ≡ None → (follow g judge log (fresh p)).seen ≡ length log
follow_seen g laws judge log p n = followed_seen g laws judge log (fresh p) (omega arith) n

pub follow_more : {P : Type 0} (g : Behaviour P) (laws : IsProcess g) (judge : Judge) (log : List Entry) (s : Follower P) → s.seen ≤ (follow g judge log s).seen
follow_more g laws judge log s =
    let r = follow_reached g laws judge log [] s in
    subst (λ (x : Follower _). s.seen ≤ x.seen) r.is (stage_seen g judge log r.steps s)
