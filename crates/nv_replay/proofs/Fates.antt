-- A version that goes on, and a fate.
use Rattle.std.proofs.Common.{◌≡◌, inr, ◌∙◌, ap, refl, ℕ, true, false, List, [], length, take, Option, Some, None}
use Rattle.nv_calls.specs.Calls.{Entry}
use Rattle.nv_calls.specs.Logs.{live_after}
use Rattle.nv_threads.specs.Behaviours.{Behaviour, IsProcess}
use Rattle.nv_replay.specs.declared.fate.Fate.{Fate}
use Rattle.nv_replay.specs.Follow.{Follower, Judge, follow, follow_next, IsInStep}
use Rattle.nv_replay.specs.Sequence.{is_going}
use Rattle.nv_replay.proofs.Settled.{stage_rests}
use Rattle.nv_replay.proofs.Turning.{take_all}
use Rattle.nv_replay.proofs.Wholes.{rests}

pub off_some : (f : Option Fate) → is_going f ≡ false → f ≡ None → ⊥
off_some None h e = cc
off_some (Some x) h e = cc

pub none_on : (f : Option Fate) → is_going f ≡ true → f ≡ None
none_on None h = refl
none_on (Some x) h = cc

pub fate_if : (f : Option Fate) → (f ≡ None → ⊥) → is_going f ≡ false
fate_if None h = absurd (h refl)
fate_if (Some x) h = refl

module _ {P : Type 0} (g : Behaviour P) (laws : IsProcess g) where
  -- a version with a fate follows no further
  pub fated_follow : (judge : Judge) (log : List Entry) (s : Follower P) → is_going s.fate ≡ false → follow g judge log s ≡ s
  unfolding follow
  fated_follow judge log s h = stage_rests (follow_next g judge log) _ s (rests g laws judge log s (inr (off_some s.fate h)))

  -- a version in step with a whole log after which no thread lives has a fate
  pub alive_not : (log : List Entry) (s : Follower P) → IsInStep g log s → live_after log ≡ [] → s.seen ≡ length log → s.fate ≡ None → ⊥
  alive_not log s i d l n =
      let all : take s.seen log ≡ log = ap (λ (m : ℕ). take m log) l ∙ take_all log in
      laws.ended s.process (i.live n ∙ (ap live_after all ∙ d)) (i.on n)
