-- One event more, or none.
use Rattle.std.proofs.Common.{◌≡◌, ◌≤◌, ◌∙◌, refl, ap, subst, ◌++◌, ℕ, Bool, true, false, List, [], ◌∷◌, length, Some, arith, length-append, cond}
use Rattle.std.specs.Prelude.{nat_le}
use Rattle.nv_threads.specs.Behaviours.{Behaviour}
use Rattle.nv_threads.specs.declared.turns.Want.TheVariants.{Any}
use Rattle.nv_threads.specs.declared.turns.Came.{Came}
use Rattle.nv_threads.specs.declared.turns.Came.TheVariants.{Asked, Fault}
use Rattle.nv_machine.specs.declared.outcome.FaultKind.TheVariants.{Calls}
use Rattle.nv_replay.specs.declared.fate.Fate.TheVariants.{Fault as Faulted}
use Rattle.nv_rules.specs.declared.outcome.Verdict.{Verdict}
use Rattle.nv_replay.specs.declared.version.Followed.{Followed}
use Rattle.nv_replay.specs.declared.version.Followed.TheVariants.{Matched, Rewrote, Skipped, Took, Dropped}
use Rattle.nv_replay.specs.Follow.{Follower, IsCounted}
use Rattle.nv_replay.specs.Version.{Running, asking_by, asking_next}
use Rattle.nv_workers.specs.Growing.{OneMoreAtMost}

pub none_more : (old new : List (List ℕ)) → new ≡ old → OneMoreAtMost (length old) (length new)
none_more old new e = let same = ap (λ (x : List (List ℕ)). length x) e in (omega arith, omega arith)

pub one_more : (old new : List (List ℕ)) (words : List ℕ) → new ≡ old ++ words ∷ [] → OneMoreAtMost (length old) (length new)
one_more old new words e =
    let long = length-append old (words ∷ []) in
    let same = ap (λ (x : List (List ℕ)). length x) e in
    (omega arith, omega arith)

-- where nothing was seen before that
pub one_after : (old mid new : List (List ℕ)) → mid ≡ old → OneMoreAtMost (length mid) (length new) → OneMoreAtMost (length old) (length new)
one_after old mid new e one = subst (λ (x : List (List ℕ)). OneMoreAtMost (length x) (length new)) e one

-- a decision makes the rewrites no fewer
pub counted_rises : {P : Type 0} (x : Followed) (t : Verdict) (old new : Follower P) → IsCounted t x old new → old.rewrites ≤ new.rewrites
counted_rises Matched t old new k = let a = k.1 in omega arith
counted_rises (Rewrote w) t old new k = let a = k.1 in omega arith
counted_rises Skipped t old new k = let a = k.1 in omega arith
counted_rises Took t old new k = let a = k.1 in omega arith
counted_rises (Dropped f) t old new k = let a = k.1 in omega arith

-- nor does a leader that comes to its next call
module _ {P : Type 0} (g : Behaviour P) (most : ℕ) (r : Running P) where
  asking_if : (p : P) (t : ℕ) (b : Bool)
      → (cond b (record r { at = record r.at { process = p; fate = Some (Faulted Calls t (g.pc p t)) } }) (record r { at = record r.at { process = p }; asked = Some t })).at.rewrites ≡ r.at.rewrites
  asking_if p t true = refl
  asking_if p t false = refl

  asking_by_keeps : (p : P) (came : Came) → (asking_by g most r p came).at.rewrites ≡ r.at.rewrites
  unfolding asking_by
  asking_by_keeps p (Fault kind tid pc) = refl
  asking_by_keeps p (Asked t) = asking_if p t (nat_le most r.at.seen)

  pub asking_keeps : (asking_next g most r).at.rewrites ≡ r.at.rewrites
  unfolding asking_next
  asking_keeps = asking_by_keeps (g.after r.at.process Any) (g.came r.at.process Any)

  pub asked_rises : (n : Running P) → n ≡ asking_next g most r → r.at.rewrites ≤ n.at.rewrites
  asked_rises n e = let a = ap (λ (x : Running P). x.at.rewrites) e ∙ asking_keeps in omega arith
