-- The survivor's clause, over the definitions.
use Rattle.std.proofs.Common.{◌≡◌, ◌∙◌, sym, ap, subst, refl, ℕ, zero, suc, ◌<◌, ◌≤◌, inl, inr, Bool, true, false, ◌==◌, List, [], ◌∷◌, ◌++◌, length, Option, Some, None, arith}
use Rattle.std.specs.Prelude.{slice_get, Contains, nat_le}
use Rattle.std.proofs.lemmas.Bool.{cases_lt}
use Rattle.std.proofs.lemmas.Bool.Decides.{nat_tests}
use Rattle.nv_calls.specs.Calls.{Entry}
use Rattle.nv_calls.specs.Logs.{Start, IsLawful, MayFollow, live_after, child_of}
use Rattle.nv_threads.specs.Behaviours.{Behaviour, IsProcess, IsStarted}
use Rattle.nv_threads.specs.declared.turns.Want.TheVariants.{Any}
use Rattle.nv_threads.specs.declared.turns.Came.{Came}
use Rattle.nv_threads.specs.declared.turns.Came.TheVariants.{Asked, Fault as Faults}
use Rattle.nv_replay.specs.declared.fate.Fate.{Fate}
use Rattle.nv_replay.specs.declared.fate.Fate.TheVariants.{Exited, Fault, Refused, Memory, LetGo}
use Rattle.nv_replay.specs.Settling.{stage}
use Rattle.nv_replay.specs.Follow.{Follower, Judge, fresh, follow_next, IsInStep, is_exited}
use Rattle.nv_replay.specs.Lead.{Leader, next_call, unless_ended, led, is_cut, is_memory}
use Rattle.nv_replay.specs.Sequence.{is_going}
use Rattle.nv_replay.proofs.Settled.{Reaches, reach_here, reach_first, stage_zero, stage_one, stage_rests}
use Rattle.nv_replay.proofs.Extending.{get_prefix, take_prefix_of}
use Rattle.nv_replay.proofs.Stepping.{decided_in_step, made_none}
use Rattle.nv_replay.proofs.Surviving.{cases, is_well}
use Rattle.nv_replay.proofs.Falling.{within}

pub no_child : (e : Entry) → (e.call.nr ≡ 220 → ⊥) → child_of e ≡ None
no_child e n = by (e.call.nr == 220) refl
  where
    by : (b : Bool) → (e.call.nr == 220) ≡ b → child_of e ≡ None
    by true h = absurd (n (grind (arith, nat_tests)))
    by false h = made_none e.call.nr e.reply.ret h

pub exited_no_memory : (f : Option Fate) → is_exited f ≡ true → is_memory f ≡ false
exited_no_memory None h = cc
exited_no_memory (Some (Exited s)) h = refl
exited_no_memory (Some (Fault a b c)) h = cc
exited_no_memory (Some (Refused a b c d)) h = cc
exited_no_memory (Some Memory) h = cc
exited_no_memory (Some LetGo) h = refl

pub exited_is_well : (f : Option Fate) → is_exited f ≡ true → is_well f ≡ true
exited_is_well None h = refl
exited_is_well (Some (Exited s)) h = refl
exited_is_well (Some (Fault a b c)) h = h
exited_is_well (Some (Refused a b c d)) h = h
exited_is_well (Some Memory) h = h
exited_is_well (Some LetGo) h = h

pub exited_well : (f : Option Fate) → is_exited f ≡ true → is_going f ≡ false
exited_well None h = cc
exited_well (Some f) h = refl

some_at : (log : List Entry) (i : ℕ) → i < length log → (e : Entry) × (slice_get log i ≡ Some e)
some_at [] i h = absurd (omega arith)
some_at (d ∷ log) zero h = (d, refl)
some_at (d ∷ log) (suc i) h = some_at log i (omega arith)

empty_has : (t : ℕ) → Contains [] t → ⊥
empty_has t (k, h, e) = omega arith

module _ {P : Type 0} (g : Behaviour P) (laws : IsProcess g) (replies : Start) (most : ℕ) where
  -- a cut that has not come changes nothing
  uncut_by : (c : Option ℕ) (s : Leader P) (p : P) (t : ℕ) (b d : Bool) → nat_le most (length s.log) ≡ b → is_cut c (length s.log) ≡ d
      → is_memory (led g replies most c s p (Asked t)).fate ≡ false → led g replies most c s p (Asked t) ≡ led g replies most None s p (Asked t)
  uncut_by c s p t true d m k h = rw m refl
  uncut_by c s p t false false m k h = rw (m, k) refl
  uncut_by c s p t false true m k h = let z : true ≡ false = rw (m, k) at h in cc

  uncut_led : (c : Option ℕ) (s : Leader P) (p : P) (came : Came) → is_memory (led g replies most c s p came).fate ≡ false
      → led g replies most c s p came ≡ led g replies most None s p came
  uncut_led c s p (Faults a b d) h = refl
  uncut_led c s p (Asked t) h = uncut_by c s p t (nat_le most (length s.log)) (is_cut c (length s.log)) refl refl h

  uncut_if : (c : Option ℕ) (s : Leader P) (f : Option Fate) → is_memory (unless_ended g replies most c s f).fate ≡ false
      → unless_ended g replies most c s f ≡ unless_ended g replies most None s f
  uncut_if c s (Some f) h = refl
  uncut_if c s None h = uncut_led c s (g.after s.process Any) (g.came s.process Any) h

  uncut : (c : Option ℕ) (s : Leader P) → is_memory (next_call g replies most c s).fate ≡ false
      → next_call g replies most c s ≡ next_call g replies most None s
  unfolding next_call
  uncut c s h = uncut_if c s s.fate h

  memory_by : (c : Option ℕ) (s : Leader P) (f : Option Fate) → is_memory f ≡ true → unless_ended g replies most c s f ≡ s
  memory_by c s None h = cc
  memory_by c s (Some f) h = refl

  memory_rests : (c : Option ℕ) (s : Leader P) → is_memory s.fate ≡ true → next_call g replies most c s ≡ s
  unfolding next_call
  memory_rests c s h = memory_by c s s.fate h

  uncut_on : (c : Option ℕ) (n : ℕ) (s t : Leader P) (b : Bool) → is_memory (next_call g replies most c s).fate ≡ b
      → stage (next_call g replies most c) n (next_call g replies most c s) ≡ t → is_memory t.fate ≡ false
      → Reaches (next_call g replies most None) (next_call g replies most c s) t → Reaches (next_call g replies most None) s t
  uncut_on c n s t true m h w r =
      let e : next_call g replies most c s ≡ t = sym (stage_rests (next_call g replies most c) n (next_call g replies most c s)
      (memory_rests c (next_call g replies most c s) m)) ∙ h in
      let z : true ≡ false = sym m ∙ (ap (λ (x : Leader P). is_memory x.fate) e ∙ w) in cc
  uncut_on c n s t false m h w r = reach_first (next_call g replies most None) s t
      (subst (λ (x : Leader P). Reaches (next_call g replies most None) x t) (uncut c s m) r)

  -- what a leader comes to without want of memory it comes to without a cut
  pub uncut_reach : (c : Option ℕ) (n : ℕ) (s t : Leader P) → stage (next_call g replies most c) n s ≡ t → is_memory t.fate ≡ false
      → Reaches (next_call g replies most None) s t
  uncut_reach c zero s t h w = subst (λ (x : Leader P). Reaches (next_call g replies most None) s x)
      (sym (stage_zero (next_call g replies most c) s) ∙ h) (reach_here (next_call g replies most None) s)
  uncut_reach c (suc n) s t h w =
      let h' : stage (next_call g replies most c) n (next_call g replies most c s) ≡ t = sym (stage_one (next_call g replies most c) n s) ∙ h in
      uncut_on c n s t (is_memory (next_call g replies most c s).fate) refl h' w (uncut_reach c n (next_call g replies most c s) t h' w)

  pub fresh_in_step : (log : List Entry) (p : P) → IsStarted g p → IsInStep g log (fresh p)
  fresh_in_step log p s = record { within = omega arith; live = λ z. s.live; on = λ z. s.on; exited = λ z. cc }

module _ {P : Type 0} (g : Behaviour P) (laws : IsProcess g) (judge : Judge) (replies : Start) (most : ℕ) (log : List Entry) where
  pub stage_in_step : (n : ℕ) (s : Follower P) → IsLawful log → IsInStep g log s → IsInStep g log (stage (follow_next g judge log) n s)
  stage_in_step zero s l i = rw (stage_zero (follow_next g judge log) s) i
  stage_in_step (suc n) s l i = rw (stage_one (follow_next g judge log) n s) (elim (cases g laws judge replies most log s) [
    | inl e ↦ rw e (stage_in_step n s l i)
    | inr (e, k, none, q) ↦ rw q (stage_in_step n _ l (decided_in_step g laws judge log e s l k i none))
  ])

  none_lives : (s : Follower P) → IsLawful log → IsInStep g log s → is_exited s.fate ≡ true → s.seen < length log → ⊥
  none_lives s l i x h = let a = some_at log s.seen h in empty_has a.0.call.tid
      (subst (λ (y : List ℕ). Contains y a.0.call.tid) (i.exited x) (l s.seen a.0 a.1).lives)

  -- who has exited has seen the whole log
  pub exited_all : (s : Follower P) → IsLawful log → IsInStep g log s → is_exited s.fate ≡ true → s.seen ≡ length log
  exited_all s l i x = elim (cases_lt s.seen (length log)) [ inl h ↦ absurd (none_lives s l i x h) | inr h ↦ (let w = i.within in omega arith) ]

pub lawful_prefix : (log more : List Entry) → IsLawful (log ++ more) → IsLawful log
lawful_prefix log more l i e h =
    let m = l i e (get_prefix log more i e h) in
    let w : i ≤ length log = (let a = within log i e h in omega arith) in
    subst (λ (x : List Entry). MayFollow i (live_after x) e) (take_prefix_of log more i w) m
