-- To follow a log and then the longer log is to follow the longer log; to lead is to append.
use Rattle.std.proofs.Common.{◌≡◌, ◌∙◌, sym, ap, subst, refl, arith, append_assoc, append-nil, length-append, cond}
use Rattle.std.specs.Prelude.{ℕ, zero, suc, ◌+◌, ◌≤◌, Bool, true, false, List, [], ◌∷◌, ◌++◌, length, take, Option, Some, None, slice_get, nat_le}
use Rattle.nv_calls.specs.Calls.{Entry}
use Rattle.nv_calls.specs.Logs.{Start, served, live_after}
use Rattle.nv_threads.specs.Behaviours.{Behaviour, IsProcess}
use Rattle.nv_threads.specs.declared.turns.Want.TheVariants.{Any}
use Rattle.nv_threads.specs.declared.turns.Came.{Came}
use Rattle.nv_threads.specs.declared.turns.Came.TheVariants.{Asked, Fault}
use Rattle.nv_replay.specs.declared.fate.Fate.{Fate}
use Rattle.nv_replay.specs.declared.fate.Fate.TheVariants.{Fault as Faulted, Memory}
use Rattle.nv_machine.specs.declared.outcome.FaultKind.TheVariants.{Calls}
use Rattle.nv_replay.specs.Settling.{stage}
use Rattle.nv_replay.specs.Follow.{Follower, Judge, follow_next, follow, IsInStep}
use Rattle.nv_replay.specs.Lead.{Leader, is_cut, led, logged, unless_ended, next_call}
use Rattle.nv_replay.proofs.Settled.{Reaches, reach_first, at_rest, stage_zero, stage_one}
use Rattle.nv_replay.proofs.Falling.{size, follow_falls}
use Rattle.nv_replay.proofs.Wholes.{bound}

pub get_prefix : (log more : List Entry) (i : ℕ) (e : Entry) → slice_get log i ≡ Some e → slice_get (log ++ more) i ≡ Some e
get_prefix [] more i e h = cc
get_prefix (d ∷ log) more zero e h = h
get_prefix (d ∷ log) more (suc i) e h = get_prefix log more i e h

pub take_prefix_of : (log more : List Entry) (n : ℕ) → n ≤ length log → take n (log ++ more) ≡ take n log
take_prefix_of log more zero h = refl
take_prefix_of [] more (suc n) h = absurd (omega arith)
take_prefix_of (d ∷ log) more (suc n) h = ap (λ x. d ∷ x) (take_prefix_of log more n (omega arith))

module _ {P : Type 0} (g : Behaviour P) (laws : IsProcess g) (judge : Judge) (log more : List Entry) where
  -- what follow comes to is reached, and rests
  pub follow_reached : (s : Follower P) → Reaches (follow_next g judge log) s (follow g judge log s)
  unfolding follow
  follow_reached s = record { steps = length log + g.calls_left s.process + 1; is = refl }

module _ {P : Type 0} (g : Behaviour P) (laws : IsProcess g) (judge : Judge) (log : List Entry) where
  pub follow_rests : (s : Follower P) → follow_next g judge log (follow g judge log s) ≡ follow g judge log s
  unfolding follow size
  follow_rests s = at_rest (follow_next g judge log) (size g (length log)) (follow_falls g laws judge log)
      (length log + g.calls_left s.process + 1) s (bound g laws judge log s s.fate refl)

reach_by : {S : Type 0} (step : S → S) (n : ℕ) (s t u : S) → stage step n s ≡ t → Reaches step t u → Reaches step s u
reach_by {S} step zero s t u h q = subst (λ (x : S). Reaches step x u) (sym (sym (stage_zero step s) ∙ h)) q
reach_by step (suc n) s t u h q = reach_first step s u (reach_by step n (step s) t u (sym (stage_one step n s) ∙ h) q)

pub reach_all : {S : Type 0} (step : S → S) (s t u : S) → Reaches step s t → Reaches step t u → Reaches step s u
reach_all step s t u r q = reach_by step r.steps s t u r.is q

-- in step with the log is in step with the longer one
pub in_step_on : {P : Type 0} (g : Behaviour P) (log more : List Entry) (s : Follower P) → IsInStep g log s → IsInStep g (log ++ more) s
in_step_on g log more s i = record {
  within = omega (arith, i.within, length-append log more);
  live = λ z. i.live z ∙ ap live_after (sym (take_prefix_of log more s.seen i.within));
  on = i.on;
  exited = λ z. ap live_after (take_prefix_of log more s.seen i.within) ∙ i.exited z;
}

module _ {P : Type 0} (g : Behaviour P) (replies : Start) (most : ℕ) (cut : Option ℕ) where
  if_grows : (s : Leader P) (p : P) (t : ℕ) (b d : Bool)
      → (more : List Entry) × ((cond b (record s { process = p; fate = Some (Faulted Calls t (g.pc p t)) })
      (cond d (record s { process = p; fate = Some Memory })
      (logged g replies most cut s (g.answered p t (served replies s.log (g.call p t)).reply)
      (served replies s.log (g.call p t))))).log ≡ s.log ++ more)
  if_grows s p t true d = ([], sym (append-nil s.log))
  if_grows s p t false true = ([], sym (append-nil s.log))
  if_grows s p t false false = (served replies s.log (g.call p t) ∷ [], refl)

  led_grows : (s : Leader P) (p : P) (came : Came) → (more : List Entry) × ((led g replies most cut s p came).log ≡ s.log ++ more)
  led_grows s p (Fault k t pc) = ([], sym (append-nil s.log))
  led_grows s p (Asked t) = if_grows s p t (nat_le most (length s.log)) (is_cut cut (length s.log))

  ended_grows : (s : Leader P) (f : Option Fate) → (more : List Entry) × ((unless_ended g replies most cut s f).log ≡ s.log ++ more)
  ended_grows s (Some f) = ([], sym (append-nil s.log))
  ended_grows s None = led_grows s (g.after s.process Any) (g.came s.process Any)

  pub next_grows : (s : Leader P) → (more : List Entry) × ((next_call g replies most cut s).log ≡ s.log ++ more)
  unfolding next_call
  next_grows s = ended_grows s s.fate

  pub stage_grows : (n : ℕ) (s : Leader P) → (more : List Entry) × ((stage (next_call g replies most cut) n s).log ≡ s.log ++ more)
  unfolding stage
  stage_grows zero s = ([], sym (append-nil s.log))
  stage_grows (suc n) s =
      let a = next_grows s in
      let b = stage_grows n (next_call g replies most cut s) in
      (a.0 ++ b.0, b.1 ∙ (ap (λ x. x ++ b.0) a.1 ∙ append_assoc s.log a.0 b.0))
