-- One decision, by what the guest came to.
use Rattle.std.proofs.Common.{◌≡◌, sym, ap, refl, ℕ, ◌+◌, true, false, Option, Some, None, cond}
use Rattle.nv_calls.specs.Calls.{Entry, Response, is_same}
use Rattle.nv_threads.specs.Behaviours.{Behaviour}
use Rattle.nv_threads.specs.declared.turns.Want.TheVariants.{Only}
use Rattle.nv_threads.specs.declared.turns.Came.{Came}
use Rattle.nv_threads.specs.declared.turns.Came.TheVariants.{Asked, Fault}
use Rattle.nv_machine.specs.declared.outcome.FaultKind.{FaultKind}
use Rattle.nv_replay.specs.declared.fate.Fate.{Fate}
use Rattle.nv_replay.specs.declared.fate.Fate.TheVariants.{Fault as Faulted}
use Rattle.nv_replay.specs.Permits.{Permit, Give, Pass, Consume, No, HasGiven}
use Rattle.nv_replay.specs.Follow.{Follower, Judge, decided, met, judged, consumed, permit_by, refusal_by}

module _ {P : Type 0} (g : Behaviour P) (judge : Judge) (e : Entry) (s : Follower P) where
  judged_again : (q p : P) (t : ℕ) (f : Fate) (o : Permit) → judged g (record s { process = q }) p t f o ≡ judged g s p t f o
  unfolding judged
  judged_again q p t f (Give r) = refl
  judged_again q p t f Pass = refl
  judged_again q p t f (Consume r) = refl
  judged_again q p t f No = refl

  -- the process before is of no account
  pub met_again : (q p : P) (came : Came) → met g judge e (record s { process = q }) p came ≡ met g judge e s p came
  unfolding met
  met_again q p (Fault kind tid pc) = refl
  met_again q p (Asked t) =
      ap (λ x. cond (is_same (g.call p t) e.call) (consumed g s (g.answered p t e.reply)) x)
      (judged_again q p t (refusal_by judge e (g.call p t)) (permit_by judge e (g.call p t)))

  pub decided_fault : (k : FaultKind) (t pc : ℕ) → g.came s.process (Only e.call.tid) ≡ Fault k t pc
      → decided g judge e s ≡ record s { process = g.after s.process (Only e.call.tid); fate = Some (Faulted k t pc) }
  unfolding decided met
  decided_fault k t pc h = rw h refl

  pub decided_asked : (t : ℕ) → g.came s.process (Only e.call.tid) ≡ Asked t
      → decided g judge e s ≡ met g judge e (record s { process = g.after s.process (Only e.call.tid) })
      (g.after s.process (Only e.call.tid)) (Asked t)
  unfolding decided
  decided_asked t h = rw h (sym (met_again (g.after s.process (Only e.call.tid)) (g.after s.process (Only e.call.tid)) (Asked t)))

  pub met_same : (p : P) (t : ℕ) → is_same (g.call p t) e.call ≡ true → met g judge e s p (Asked t) ≡ consumed g s (g.answered p t e.reply)
  unfolding met
  met_same p t h = rw h refl

  pub met_other : (p : P) (t : ℕ) → is_same (g.call p t) e.call ≡ false
      → met g judge e s p (Asked t) ≡ judged g s p t (refusal_by judge e (g.call p t)) (permit_by judge e (g.call p t))
  unfolding met
  met_other p t h = rw h refl

module _ {P : Type 0} (g : Behaviour P) (s : Follower P) (p : P) (t : ℕ) (f : Fate) where
  pub judged_give : (o : Permit) (r : Response) → o ≡ Give r
      → judged g s p t f o ≡ record s { process = g.given p t r; rewrites = s.rewrites + 1 }
  unfolding judged
  judged_give o r h = rw h refl

  pub judged_drop : (o : Permit) → o ≡ Pass → judged g s p t f o ≡ record s { process = p; seen = s.seen + 1; rewrites = s.rewrites + 1 }
  unfolding judged
  judged_drop o h = rw h refl

  pub judged_consume : (o : Permit) (r : Response) → o ≡ Consume r
      → judged g s p t f o ≡ record s { process = g.answered p t r; seen = s.seen + 1; rewrites = s.rewrites + 1 }
  unfolding judged
  judged_consume o r h = rw h refl

  pub judged_no : (o : Permit) → o ≡ No → judged g s p t f o ≡ record s { process = p; fate = Some f }
  unfolding judged
  judged_no o h = rw h refl

-- what an answer by a constant tells
module _ {P : Type 0} (g : Behaviour P) (t : ℕ) (old new : P) where
  pub not_given : (o : Option Response) → HasGiven g o t old new false → (o ≡ None) × (new ≡ old)
  not_given None h = (refl, h.0)
  not_given (Some r) h = let z : false ≡ true = h.1 in cc

  pub was_given : (o : Option Response) → HasGiven g o t old new true → (r : Response) × (o ≡ Some r) × (new ≡ g.given old t r)
  was_given None h = let z : true ≡ false = h.1 in cc
  was_given (Some r) h = (r, refl, h.0)
