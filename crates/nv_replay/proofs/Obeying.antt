-- What a rule permits, on a version whose thread's call isn't the event's.
use Rattle.std.proofs.Common.{◌≡◌, ◌∙◌, sym, ap, refl, ℕ, ◌+◌, ◌<◌, Bool, true, false, Some, arith, cond}
use Rattle.std.specs.Prelude.{nat_le, not, ◌&&◌, [], pos, ◌-ℤ◌}
use Rattle.std.proofs.lemmas.Bool.Decides.{nat_tests}
use Rattle.nv_calls.specs.Calls.{Request, Response, Entry}
use Rattle.nv_threads.specs.Behaviours.{Behaviour}
use Rattle.nv_rules.specs.declared.outcome.Verdict.{Verdict}
use Rattle.nv_replay.specs.declared.version.Followed.{Followed}
use Rattle.nv_replay.specs.declared.version.Followed.TheVariants.{Matched, Rewrote, Skipped, Took, Dropped}
use Rattle.nv_calls.specs.Numbers.{is_of_threads}
use Rattle.nv_replay.specs.Permits.{Permit, Give, Pass, Consume, No, failed, passed}
use Rattle.nv_replay.specs.Follow.{Follower, IsCounted, judged, refusal_of}
use Rattle.nv_replay.specs.Version.{Running}
use Rattle.nv_replay.proofs.Following.{judged_give, judged_drop, judged_consume, judged_no}

module _ {P : Type 0} (g : Behaviour P) (t value : ℕ) (e : Entry) where
  -- as the call is permitted
  abbrev pub obeyed : (Request → Permit) → Running P → Running P
  obeyed o r = record r { at = judged g r.at r.at.process t (refusal_of (g.call r.at.process t) e value) (o (g.call r.at.process t)) }

  pub is_refused : (o : Request → Permit) (r n : Running P) → o (g.call r.at.process t) ≡ No
      → n ≡ record r { at = record r.at { fate = Some (refusal_of (g.call r.at.process t) e value) } } → n ≡ obeyed o r
  is_refused o r n h k = k ∙ ap (λ (x : Follower P). record r { at = x }) (sym (judged_no g r.at r.at.process t _ _ h))

  pub is_given : (o : Request → Permit) (r n : Running P) (reply : Response) → o (g.call r.at.process t) ≡ Give reply
      → n ≡ record r { at = record r.at { process = g.given r.at.process t reply; rewrites = r.at.rewrites + 1 } } → n ≡ obeyed o r
  is_given o r n reply h k = k ∙ ap (λ (x : Follower P). record r { at = x }) (sym (judged_give g r.at r.at.process t _ _ reply h))

  pub is_passed : (o : Request → Permit) (r n : Running P) → o (g.call r.at.process t) ≡ Pass
      → n ≡ record r { at = record r.at { seen = r.at.seen + 1; rewrites = r.at.rewrites + 1 } } → n ≡ obeyed o r
  is_passed o r n h k = k ∙ ap (λ (x : Follower P). record r { at = x }) (sym (judged_drop g r.at r.at.process t _ _ h))

  pub is_taken : (o : Request → Permit) (r n : Running P) (reply : Response) → o (g.call r.at.process t) ≡ Consume reply
      → n ≡ record r { at = record r.at { process = g.answered r.at.process t reply; seen = r.at.seen + 1; rewrites = r.at.rewrites + 1 } } → n ≡ obeyed o r
  is_taken o r n reply h k = k ∙ ap (λ (x : Follower P). record r { at = x }) (sym (judged_consume g r.at r.at.process t _ _ reply h))

-- errors end at 4,095
pub failed_far : (c : Request) (k : ℕ) → 4095 < k → failed c k ≡ No
failed_far c k h = let b : nat_le k 4095 ≡ false = grind (arith, nat_tests) in rw b refl

no_and : (a b : Bool) (x : Permit) → b ≡ true → cond (a && not b) x No ≡ No
no_and true true x h = refl
no_and false true x h = refl
no_and a false x h = cc

pub failed_threads : (c : Request) (k : ℕ) → is_of_threads c.nr ≡ true → failed c k ≡ No
failed_threads c k h = no_and (nat_le k 4095) (is_of_threads c.nr) _ h

and_not : (a b : Bool) (x : Permit) → a ≡ true → b ≡ false → cond (a && not b) x No ≡ x
and_not true false x h k = refl
and_not true true x h k = cc
and_not false b x h k = cc

pub failed_gives : (c : Request) (k : ℕ) → k < 4096 → is_of_threads c.nr ≡ false
    → failed c k ≡ Give (record { ret = pos 0 -ℤ pos k; payload = [] })
failed_gives c k l h = let b : nat_le k 4095 ≡ true = grind (arith, nat_tests) in and_not (nat_le k 4095) (is_of_threads c.nr) _ b h

pub passed_not : (e : Entry) → is_of_threads e.call.nr ≡ true → passed e ≡ No
passed_not e h = rw h refl

pub passed_drops : (e : Entry) → is_of_threads e.call.nr ≡ false → passed e ≡ Pass
passed_drops e h = rw h refl

-- what is told doesn't speak of the process before
pub told_again : {P : Type 0} (v : Verdict) (f : Followed) (a b n : Follower P) → a.seen ≡ b.seen → a.rewrites ≡ b.rewrites → IsCounted v f a n → IsCounted v f b n
told_again v Matched a b n h k t = (t.0 ∙ ap (λ x. x + 1) h, t.1 ∙ k)
told_again v (Rewrote w) a b n h k t = (t.0 ∙ h, t.1 ∙ ap (λ x. x + 1) k, t.2, t.3)
told_again v Skipped a b n h k t = (t.0 ∙ ap (λ x. x + 1) h, t.1 ∙ ap (λ x. x + 1) k, t.2, t.3)
told_again v Took a b n h k t = (t.0 ∙ ap (λ x. x + 1) h, t.1 ∙ ap (λ x. x + 1) k, t.2, t.3)
told_again v (Dropped fate) a b n h k t = (t.0 ∙ h, t.1 ∙ k, t.2)
