-- What a version comes to by its own calls is never that it was let go, nor, while it follows, that memory was wanted.
use Rattle.std.proofs.Common.{◌≡◌, ◌∙◌, ap, refl, ℕ, zero, suc, Bool, true, false, ◌<◌, List, length, Option, Some, None, arith, cond}
use Rattle.std.specs.Prelude.{nat_le, option_map, slice_get}
use Rattle.std.proofs.lemmas.Bool.Decides.{nat_tests}
use Rattle.std.proofs.lemmas.Option.{same_Some}
use Rattle.nv_calls.specs.Calls.{Entry, is_same}
use Rattle.nv_calls.specs.Logs.{Start, served}
use Rattle.nv_threads.specs.Behaviours.{Behaviour}
use Rattle.nv_threads.specs.declared.turns.Want.TheVariants.{Any}
use Rattle.nv_threads.specs.declared.turns.Came.{Came}
use Rattle.nv_threads.specs.declared.turns.Came.TheVariants.{Asked, Fault as Faults}
use Rattle.nv_machine.specs.declared.outcome.FaultKind.TheVariants.{Calls}
use Rattle.nv_replay.specs.declared.fate.Fate.{Fate}
use Rattle.nv_replay.specs.declared.fate.Fate.TheVariants.{Exited, Fault, Refused, Memory, LetGo}
use Rattle.nv_replay.specs.Settling.{stage}
use Rattle.nv_replay.specs.Permits.{Permit, Give, Pass, Consume, No}
use Rattle.nv_replay.specs.Follow.{Follower, Judge, judged, met, decided, consumed, refusal_by, permit_by}
use Rattle.nv_replay.specs.Lead.{Leader, led, logged, is_cut, cut_of, unless_ended, next_call}
use Rattle.nv_replay.specs.LettingGo.{is_let_go, stop_of}
use Rattle.nv_replay.specs.Hands.{is_handed, unless_handed, next_or_hand}
use Rattle.nv_replay.specs.Tracks.{is_led, retraced_by, tracked, track_on, track_next}
use Rattle.nv_replay.proofs.Settled.{stage_zero, stage_one}

pub stop_same : (f : Option Fate) (n : ℕ) → is_let_go f ≡ false → stop_of f n ≡ cut_of f n
stop_same None n h = refl
stop_same (Some (Exited s)) n h = refl
stop_same (Some (Fault a b c)) n h = refl
stop_same (Some (Refused a b c d)) n h = refl
stop_same (Some Memory) n h = refl
stop_same (Some LetGo) n h = cc

-- who tells no cut wasn't let go
pub tells_stays : (f : Option Fate) (n : ℕ) → stop_of f n ≡ None → is_let_go f ≡ false
tells_stays None n h = refl
tells_stays (Some (Exited s)) n h = refl
tells_stays (Some (Fault a b c)) n h = refl
tells_stays (Some (Refused a b c d)) n h = refl
tells_stays (Some Memory) n h = refl
tells_stays (Some LetGo) n h = cc

-- a cut is where the version ended
pub stop_at : (f : Option Fate) (n k : ℕ) → stop_of f n ≡ Some k → n ≡ k
stop_at None n k h = cc
stop_at (Some (Exited s)) n k h = cc
stop_at (Some (Fault a b c)) n k h = cc
stop_at (Some (Refused a b c d)) n k h = cc
stop_at (Some Memory) n k h = same_Some n k h
stop_at (Some LetGo) n k h = same_Some n k h

none_before : (n k : ℕ) → k < n → is_cut (Some n) k ≡ false
none_before n k h = grind (arith, nat_tests)

-- no leader meets it below
pub stop_below : (f : Option Fate) (n k : ℕ) → k < n → is_cut (stop_of f n) k ≡ false
stop_below None n k h = refl
stop_below (Some (Exited s)) n k h = refl
stop_below (Some (Fault a b c)) n k h = refl
stop_below (Some (Refused a b c d)) n k h = refl
stop_below (Some Memory) n k h = none_before n k h
stop_below (Some LetGo) n k h = none_before n k h

exit_stays : (o : Option ℕ) → is_let_go (option_map Exited o) ≡ false
exit_stays None = refl
exit_stays (Some s) = refl

exit_tells : (o : Option ℕ) (k : ℕ) → stop_of (option_map Exited o) k ≡ None
exit_tells None k = refl
exit_tells (Some s) k = refl

module _ {P : Type 0} (g : Behaviour P) (start : Start) (most : ℕ) (cut : Option ℕ) where
  stays_if : (s : Leader P) (p : P) (t : ℕ) (b d : Bool)
      → is_let_go (cond b (record s { process = p; fate = Some (Fault Calls t (g.pc p t)) })
      (cond d (record s { process = p; fate = Some Memory })
      (logged g start most cut s (g.answered p t (served start s.log (g.call p t)).reply) (served start s.log (g.call p t))))).fate ≡ false
  stays_if s p t true d = refl
  stays_if s p t false true = refl
  stays_if s p t false false = exit_stays (g.ended (g.answered p t (served start s.log (g.call p t)).reply))

  led_stays : (s : Leader P) (p : P) (came : Came) → is_let_go (led g start most cut s p came).fate ≡ false
  led_stays s p (Faults a b d) = refl
  led_stays s p (Asked t) = stays_if s p t (nat_le most (length s.log)) (is_cut cut (length s.log))

  by_stays : (s : Leader P) (f : Option Fate) → s.fate ≡ f → is_let_go f ≡ false → is_let_go (unless_ended g start most cut s f).fate ≡ false
  by_stays s (Some f) e h = ap is_let_go e ∙ h
  by_stays s None e h = led_stays s (g.after s.process Any) (g.came s.process Any)

  next_stays : (s : Leader P) → is_let_go s.fate ≡ false → is_let_go (next_call g start most cut s).fate ≡ false
  unfolding next_call
  next_stays s h = by_stays s s.fate refl h

  module _ (hands : List ℕ) (from : ℕ) where
    unless_stays : (s : Leader P) (b : Bool) → is_let_go s.fate ≡ false → is_let_go (unless_handed g start most cut hands from s b).fate ≡ false
    unless_stays s true h = h
    unless_stays s false h = next_stays s h

    hand_stays : (s : Leader P) → is_let_go s.fate ≡ false → is_let_go (next_or_hand g start most cut hands from s).fate ≡ false
    unfolding next_or_hand
    hand_stays s h = unless_stays s (is_handed hands from s) h

    -- a leader is never let go
    pub lead_stays : (n : ℕ) (s : Leader P) → is_let_go s.fate ≡ false → is_let_go (stage (next_or_hand g start most cut hands from) n s).fate ≡ false
    lead_stays zero s h = ap (λ (x : Leader P). is_let_go x.fate) (stage_zero (next_or_hand g start most cut hands from) s) ∙ h
    lead_stays (suc n) s h = ap (λ (x : Leader P). is_let_go x.fate) (stage_one (next_or_hand g start most cut hands from) n s)
        ∙ lead_stays n (next_or_hand g start most cut hands from s) (hand_stays s h)

module _ {P : Type 0} (g : Behaviour P) (judge : Judge) (k : ℕ) where
  abbrev Tells : Follower P → Type 0
  Tells s = stop_of s.fate k ≡ None

  judged_tells : (s : Follower P) (p : P) (t tid nr stamp value : ℕ) (o : Permit) → Tells s → Tells (judged g s p t (Refused tid nr stamp value) o)
  unfolding judged
  judged_tells s p t a b c d (Give r) h = h
  judged_tells s p t a b c d Pass h = h
  judged_tells s p t a b c d (Consume r) h = h
  judged_tells s p t a b c d No h = refl

  met_tells : (s : Follower P) (e : Entry) (p : P) (came : Came) → Tells s → Tells (met g judge e s p came)
  unfolding met
  met_tells s e p (Faults a t pc) h = refl
  met_tells s e p (Asked u) h = elim (is_same (g.call p u) e.call) as
      (λ b. Tells (cond b (consumed g s (g.answered p u e.reply))
      (judged g s p u (refusal_by judge e (g.call p u)) (permit_by judge e (g.call p u)))))
      [ true ↦ exit_tells (g.ended (g.answered p u e.reply)) k | false ↦ judged_tells s p u _ _ _ _ _ h ]

  decided_tells : (s : Follower P) (e : Entry) → Tells s → Tells (decided g judge e s)
  unfolding decided
  decided_tells s e h = met_tells s e _ _ h

  module _ (spans : List (ℕ × ℕ)) where
    retraced_tells : (e : Entry) (s : Follower P) (p : P) (came : Came) → Tells (retraced_by g judge spans e s p came)
    unfolding retraced_by
    retraced_tells e s p (Faults a t pc) = refl
    retraced_tells e s p (Asked t) = exit_tells (g.ended (g.answered p t e.reply)) k

    tracked_tells : (e : Entry) (s : Follower P) (b : Bool) → Tells s → Tells (tracked g judge spans e s b)
    tracked_tells e s true h = retraced_tells e s (g.after s.process Any) (g.came s.process Any)
    tracked_tells e s false h = decided_tells s e h

    on_tells : (s : Follower P) (o : Option Entry) (f : Option Fate) → Tells s → Tells (track_on g judge spans s o f)
    on_tells s o (Some f) h = h
    on_tells s None None h = h
    on_tells s (Some e) None h = tracked_tells e s (is_led spans s.seen) h

    next_tells : (log : List Entry) (s : Follower P) → Tells s → Tells (track_next g judge spans log s)
    unfolding track_next
    next_tells log s h = on_tells s (slice_get log s.seen) s.fate h

    -- what a follower comes to tells no cut
    pub track_tells : (log : List Entry) (n : ℕ) (s : Follower P) → Tells s → Tells (stage (track_next g judge spans log) n s)
    track_tells log zero s h = ap (λ (x : Follower P). stop_of x.fate k) (stage_zero (track_next g judge spans log) s) ∙ h
    track_tells log (suc n) s h = ap (λ (x : Follower P). stop_of x.fate k) (stage_one (track_next g judge spans log) n s)
        ∙ track_tells log n (track_next g judge spans log s) (next_tells log s h)
