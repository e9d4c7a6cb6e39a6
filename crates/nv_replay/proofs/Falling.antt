-- Each decision leaves fewer events, fewer calls, or a fate.
use Rattle.std.proofs.Common.{◌≡◌, sym, subst, refl, ℕ, zero, suc, ◌+◌, ◌-◌, ◌<◌, ◌≤◌, ◌⊎◌, inl, inr, Bool, true, false, List, [], ◌∷◌, length, Option, Some, None, cond, arith}
use Rattle.std.specs.Prelude.{slice_get, option_map, nat_le}
use Rattle.nv_calls.specs.Calls.{Response, Entry, is_same}
use Rattle.nv_threads.specs.Behaviours.{Behaviour, IsProcess}
use Rattle.nv_threads.specs.declared.turns.Want.TheVariants.{Only, Any}
use Rattle.nv_threads.specs.declared.turns.Came.{Came}
use Rattle.nv_threads.specs.declared.turns.Came.TheVariants.{Asked, Fault}
use Rattle.nv_replay.specs.declared.fate.Fate.{Fate}
use Rattle.nv_replay.specs.declared.fate.Fate.TheVariants.{Exited, Fault as Faulted, Memory}
use Rattle.nv_machine.specs.declared.outcome.FaultKind.TheVariants.{Calls}
use Rattle.nv_calls.specs.Logs.{Start, served}
use Rattle.nv_replay.specs.Lead.{Leader, is_cut, logged, led, unless_ended, next_call}
use Rattle.nv_replay.specs.Permits.{Permit, Give, Pass, Consume, No}
use Rattle.nv_replay.specs.Follow.{Follower, Judge, decided, met, judged, consumed, permit_by, refusal_by, follow_next, on_next}
use Rattle.nv_replay.proofs.Settled.{Falls}

abbrev pub one_if_on : Option Fate → ℕ
one_if_on None = 1
one_if_on (Some fate) = 0

one_at_most : (f : Option Fate) → one_if_on f ≤ 1
one_at_most None = omega arith
one_at_most (Some f) = omega arith

pub within : {X : Type 0} (xs : List X) (i : ℕ) (x : X) → slice_get xs i ≡ Some x → i < length xs
within [] i x h = cc
within (y ∷ ys) zero x h = omega arith
within (y ∷ ys) (suc i) x h = omega (arith, within ys i x h)

-- what a follower can still do with so many events
unfoldable pub size : {P : Type 0} → Behaviour P → ℕ → Follower P → ℕ
size g n s = (n - s.seen) + g.calls_left s.process + one_if_on s.fate

module _ {P : Type 0} (g : Behaviour P) (laws : IsProcess g) (judge : Judge) where
  judged_falls : (n : ℕ) (s : Follower P) (p : P) (t : ℕ) (f : Fate) (o : Permit) → s.seen < n → s.fate ≡ None → g.pending p t ≡ true
      → g.calls_left p ≤ g.calls_left s.process → size g n (judged g s p t f o) < size g n s
  unfolding size judged
  judged_falls n s p t f (Give r) l e h k = omega (arith, laws.gives p t r h)
  judged_falls n s p t f Pass l e h k = omega arith
  judged_falls n s p t f (Consume r) l e h k = omega (arith, laws.falls p t r h)
  judged_falls n s p t f No l e h k = rw e (omega arith)

  pub consumed_falls : (n : ℕ) (s : Follower P) (p : P) (t : ℕ) (r : Response) → s.seen < n → s.fate ≡ None → g.pending p t ≡ true
      → g.calls_left p ≤ g.calls_left s.process → size g n (consumed g s (g.answered p t r)) < size g n s
  unfolding size
  consumed_falls n s p t r l e h k = rw e (omega (arith, laws.falls p t r h, one_at_most (option_map Exited (g.ended (g.answered p t r)))))

  met_falls : (n : ℕ) (e : Entry) (s : Follower P) (p : P) (came : Came) → s.seen < n → s.fate ≡ None
      → ((t : ℕ) → came ≡ Asked t → g.pending p t ≡ true) → g.calls_left p ≤ g.calls_left s.process → size g n (met g judge e s p came) < size g n s
  unfolding met size
  met_falls n e s p (Fault kind tid pc) l f h k = rw f (omega arith)
  met_falls n e s p (Asked t) l f h k =
      elim (is_same (g.call p t) e.call) as (λ b. size g n
      (cond b (consumed g s (g.answered p t e.reply))
      (judged g s p t (refusal_by judge e (g.call p t)) (permit_by judge e (g.call p t)))) < size g n s) [
        | true ↦ consumed_falls n s p t e.reply l f (h t refl) k
        | false ↦ judged_falls n s p t _ _ l f (h t refl) k
      ]

  pub decided_falls : (n : ℕ) (e : Entry) (s : Follower P) → s.seen < n → s.fate ≡ None → size g n (decided g judge e s) < size g n s
  unfolding decided
  decided_falls n e s l f = met_falls n e s _ _ l f (λ t h. laws.asked s.process (Only e.call.tid) t h) (laws.keeps s.process (Only e.call.tid))

  next_by : (log : List Entry) (s : Follower P) (o : Option Entry) (f : Option Fate) → (o ≡ slice_get log s.seen) → f ≡ s.fate
      → (on_next g judge log s o f ≡ s) ⊎ (size g (length log) (on_next g judge log s o f) < size g (length log) s)
  next_by log s o (Some f) h k = inl refl
  next_by log s None None h k = inl refl
  next_by log s (Some e) None h k = inr (decided_falls (length log) e s (within log s.seen e (sym h)) (sym k))

  pub follow_falls : (log : List Entry) → Falls (follow_next g judge log) (size g (length log))
  unfolding follow_next
  follow_falls log = record { each = λ s. next_by log s (slice_get log s.seen) s.fate refl refl }

-- what a leader can still do
unfoldable pub lead_size : {P : Type 0} → Behaviour P → Leader P → ℕ
lead_size g s = g.calls_left s.process + one_if_on s.fate

module _ {P : Type 0} (g : Behaviour P) (laws : IsProcess g) (replies : Start) (most : ℕ) (cut : Option ℕ) where
  served_falls : (s : Leader P) (p : P) (t : ℕ) (r : Response) → s.fate ≡ None → g.pending p t ≡ true
      → g.calls_left p ≤ g.calls_left s.process → g.calls_left (g.answered p t r) + one_if_on
      (option_map Exited (g.ended (g.answered p t r))) < g.calls_left s.process + one_if_on s.fate
  served_falls s p t r f h k = rw f (omega (arith, laws.falls p t r h, one_at_most (option_map Exited (g.ended (g.answered p t r)))))

  by_tests : (s : Leader P) (p : P) (t : ℕ) (b d : Bool) → s.fate ≡ None → g.pending p t ≡ true → g.calls_left p ≤ g.calls_left s.process
      → lead_size g (cond b (record s { process = p; fate = Some (Faulted Calls t (g.pc p t)) })
      (cond d (record s { process = p; fate = Some Memory })
      (logged g replies most cut s (g.answered p t (served replies s.log (g.call p t)).reply) (served replies s.log (g.call p t))))) < lead_size g s
  unfolding lead_size
  by_tests s p t true d f h k = rw f (omega arith)
  by_tests s p t false true f h k = rw f (omega arith)
  by_tests s p t false false f h k = served_falls s p t _ f h k

  led_falls : (s : Leader P) (p : P) (came : Came) → s.fate ≡ None → ((t : ℕ) → came ≡ Asked t → g.pending p t ≡ true)
      → g.calls_left p ≤ g.calls_left s.process → lead_size g (led g replies most cut s p came) < lead_size g s
  unfolding lead_size
  led_falls s p (Fault kind tid pc) f h k = rw f (omega arith)
  led_falls s p (Asked t) f h k = by_tests s p t (nat_le most (length s.log)) (is_cut cut (length s.log)) f (h t refl) k

  by_fate : (s : Leader P) (f : Option Fate) → f ≡ s.fate
      → (unless_ended g replies most cut s f ≡ s) ⊎ (lead_size g (unless_ended g replies most cut s f) < lead_size g s)
  by_fate s (Some f) h = inl refl
  by_fate s None h = inr (led_falls s (g.after s.process Any) (g.came s.process Any) (sym h) (λ t k. laws.asked s.process Any t k)
      (laws.keeps s.process Any))

  pub lead_falls : Falls (next_call g replies most cut) (lead_size g)
  unfolding next_call
  lead_falls = record { each = λ s. by_fate s s.fate refl }

  pub next_call_falls : (s : Leader P) → s.fate ≡ None → lead_size g (next_call g replies most cut s) < lead_size g s
  unfolding next_call
  next_call_falls s h = subst (λ (f : Option Fate). lead_size g (unless_ended g replies most cut s f) < lead_size g s) (sym h)
      (led_falls s (g.after s.process Any) (g.came s.process Any) h (λ t k. laws.asked s.process Any t k) (laws.keeps s.process Any))
