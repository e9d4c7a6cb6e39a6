-- who gives up the lead stands where Track over the log brings it.
use Rattle.std.proofs.Common.{◌≡◌, ◌∙◌, sym, ap, subst, refl, ℕ, zero, suc, ◌+◌, ◌<◌, ◌≤◌, Bool, true, false, List, [], ◌∷◌, ◌++◌, length, Option, Some, None, arith, cond, length-append}
use Rattle.std.specs.Prelude.{slice_get, nat_le, option_map}
use Rattle.nv_calls.specs.Calls.{Entry}
use Rattle.nv_calls.specs.Logs.{Start, served}
use Rattle.nv_threads.specs.Behaviours.{Behaviour}
use Rattle.nv_machine.specs.declared.outcome.FaultKind.TheVariants.{Calls}
use Rattle.nv_threads.specs.declared.turns.Want.TheVariants.{Any}
use Rattle.nv_threads.specs.declared.turns.Came.{Came}
use Rattle.nv_threads.specs.declared.turns.Came.TheVariants.{Asked, Fault}
use Rattle.nv_replay.specs.declared.fate.Fate.{Fate}
use Rattle.nv_replay.specs.declared.fate.Fate.TheVariants.{Exited, Fault as Faulted, Memory}
use Rattle.nv_replay.specs.Settling.{stage}
use Rattle.nv_replay.specs.Follow.{Follower, Judge, consumed}
use Rattle.nv_replay.specs.Lead.{Leader, is_cut, led, logged, unless_ended, next_call}
use Rattle.nv_replay.proofs.Settled.{Reaches, reach_here, reach_first, stage_zero, stage_one, stage_rests}
use Rattle.nv_replay.proofs.Extending.{stage_grows, get_prefix}
use Rattle.nv_replay.proofs.Turning.{get_last}
use Rattle.nv_replay.specs.Tracks.{is_led, track_next, retraced_by}

module _ {P : Type 0} (g : Behaviour P) (replies : Start) (most : ℕ) (cut : Option ℕ) where
  abbrev event : Leader P → ℕ → Entry
  event l t = served replies l.log (g.call (g.after l.process Any) t)

  -- it has served a call
  pub record HasServed (l n : Leader P) : Type 0 where
    pub thread : ℕ
    pub came : g.came l.process Any ≡ Asked thread
    pub new : n ≡ logged g replies most cut l (g.answered (g.after l.process Any) thread (event l thread).reply) (event l thread)

  served_if : (l : Leader P) (t : ℕ) (b d : Bool) (n : Leader P) → g.came l.process Any ≡ Asked t
      → n ≡ cond b (record l { process = g.after l.process Any; fate = Some (Faulted Calls t (g.pc (g.after l.process Any) t)) })
      (cond d (record l { process = g.after l.process Any; fate = Some Memory })
      (logged g replies most cut l (g.answered (g.after l.process Any) t (event l t).reply) (event l t)))
      → n.fate ≡ None → HasServed l n
  served_if l t true d n c e f = cc
  served_if l t false true n c e f = cc
  served_if l t false false n c e f = record { thread = t; came = c; new = e }

  served_by : (l : Leader P) (came : Came) (n : Leader P) → g.came l.process Any ≡ came → n ≡ led g replies most cut l (g.after l.process Any) came → n.fate ≡ None → HasServed l n
  served_by l (Fault k t pc) n c e f = cc
  served_by l (Asked t) n c e f = served_if l t (nat_le most (length l.log)) (is_cut cut (length l.log)) n c e f

  next_is_led : (l : Leader P) → l.fate ≡ None → next_call g replies most cut l ≡ led g replies most cut l (g.after l.process Any) (g.came l.process Any)
  unfolding next_call
  next_is_led l h = rw h refl

  pub goes_on : (l : Leader P) → l.fate ≡ None → (next_call g replies most cut l).fate ≡ None → HasServed l (next_call g replies most cut l)
  goes_on l h f = served_by l (g.came l.process Any) (next_call g replies most cut l) refl (next_is_led l h) f

  rests_if : (l : Leader P) (f : Option Fate) (x : Fate) → f ≡ Some x → unless_ended g replies most cut l f ≡ l
  rests_if l None x h = cc
  rests_if l (Some y) x h = refl

  next_rests : (l : Leader P) (x : Fate) → l.fate ≡ Some x → next_call g replies most cut l ≡ l
  unfolding next_call
  next_rests l x h = rests_if l l.fate x h

  back_if : (n : ℕ) (l m : Leader P) (f : Option Fate) → l.fate ≡ f → stage (next_call g replies most cut) n l ≡ m → m.fate ≡ None → f ≡ None
  back_if n l m None e h k = refl
  back_if n l m (Some x) e h k =
      let r : l ≡ m = sym (stage_rests (next_call g replies most cut) n l (next_rests l x e)) ∙ h in
      sym e ∙ (ap (λ (y : Leader P). y.fate) r ∙ k)

  -- who goes on in the end went on before
  pub back : (n : ℕ) (l m : Leader P) → stage (next_call g replies most cut) n l ≡ m → m.fate ≡ None → l.fate ≡ None
  back n l m h k = back_if n l m l.fate refl h k

-- a follower that stands where this leader does, and goes on
abbrev pub beside : {P : Type 0} → ℕ → Leader P → Follower P
beside rewrites l = record { process = l.process; seen = length l.log; rewrites = rewrites; fate = None }

module _ {P : Type 0} (g : Behaviour P) (judge : Judge) (replies : Start) (most : ℕ) (cut : Option ℕ) (spans : List (ℕ × ℕ)) (final : List Entry) where
  abbrev step : Follower P → Follower P
  step = track_next g judge spans final

  -- a step of Track within a span
  retraces : (s : Follower P) (e : Entry) (t : ℕ) → slice_get final s.seen ≡ Some e → s.fate ≡ None → is_led spans s.seen ≡ true
      → g.came s.process Any ≡ Asked t → step s ≡ consumed g s (g.answered (g.after s.process Any) t e.reply)
  unfolding track_next retraced_by
  retraces s e t a n l c = rw (a, n, l, c) refl

  pub hands_back : (n : ℕ) (s : Follower P) (l m : Leader P) (rest : List Entry) → stage (next_call g replies most cut) n l ≡ m → m.fate ≡ None
      → s.process ≡ l.process → s.seen ≡ length l.log → s.fate ≡ None → final ≡ m.log ++ rest
      → ((j : ℕ) → length l.log ≤ j → j < length m.log → is_led spans j ≡ true)
      → Reaches step s (beside s.rewrites m)
  hands_back zero s l m rest h f p q n e u =
      let k : l ≡ m = sym (stage_zero (next_call g replies most cut) l) ∙ h in
      let here : s ≡ beside s.rewrites l = λ j. record { process = p j; seen = q j; rewrites = s.rewrites; fate = n j } in
      subst (λ (y : Follower P). Reaches step s y) (here ∙ ap (beside s.rewrites) k) (reach_here step s)
  hands_back (suc n) s l m rest h f p q nf e u =
      let l1 : Leader P = next_call g replies most cut l in
      let h1 : stage (next_call g replies most cut) n l1 ≡ m = sym (stage_one (next_call g replies most cut) n l) ∙ h in
      let on1 : l1.fate ≡ None = back g replies most cut n l1 m h1 f in
      let on : l.fate ≡ None = back g replies most cut (suc n) l m h f in
      let d = goes_on g replies most cut l on on1 in
      let ev : Entry = event g replies most cut l d.thread in
      let log1 : l1.log ≡ l.log ++ ev ∷ [] = ap (λ (y : Leader P). y.log) d.new in
      let more = stage_grows g replies most cut n l1 in
      let mlog : m.log ≡ l1.log ++ more.0 = sym (ap (λ (y : Leader P). y.log) h1) ∙ more.1 in
      let one : length l1.log ≡ length l.log + 1 = ap length log1 ∙ length-append l.log (ev ∷ []) in
      let at1 : slice_get l1.log (length l.log) ≡ Some ev = ap (λ (y : List Entry). slice_get y (length l.log)) log1 ∙ get_last l.log ev in
      let at2 : slice_get m.log (length l.log) ≡ Some ev = ap (λ (y : List Entry). slice_get y (length l.log)) mlog ∙ get_prefix l1.log more.0 (length l.log) ev at1 in
      let at3 : slice_get final s.seen ≡ Some ev = ap (slice_get final) q ∙ (ap (λ (y : List Entry). slice_get y (length l.log)) e ∙ get_prefix m.log rest (length l.log) ev at2) in
      let short : length l.log < length m.log = omega (arith, one, ap length mlog, length-append l1.log more.0) in
      let in_span : is_led spans s.seen ≡ true = ap (is_led spans) q ∙ u (length l.log) (omega arith) short in
      let came : g.came s.process Any ≡ Asked d.thread = ap (λ (y : P). g.came y Any) p ∙ d.came in
      let s1 : Follower P = consumed g s (g.answered (g.after s.process Any) d.thread ev.reply) in
      let goes : step s ≡ s1 = retraces s ev d.thread at3 nf in_span came in
      let p1 : s1.process ≡ l1.process = ap (λ (y : P). g.answered (g.after y Any) d.thread ev.reply) p ∙ sym (ap (λ (y : Leader P). y.process) d.new) in
      let q1 : s1.seen ≡ length l1.log = omega (arith, q, one) in
      let n1 : s1.fate ≡ None = ap (λ (y : P). option_map Exited (g.ended (g.answered (g.after y Any) d.thread ev.reply))) p ∙ (sym (ap (λ (y : Leader P). y.fate) d.new) ∙ on1) in
      let r = hands_back n s1 l1 m rest h1 f p1 q1 n1 e (λ j a b. u j (omega arith) b) in
      reach_first step s (beside s.rewrites m) (subst (λ (y : Follower P). Reaches step y (beside s.rewrites m)) (sym goes) r)
