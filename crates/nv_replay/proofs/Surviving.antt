-- Who follows without a rewrite does what it would do alone.
use Rattle.std.proofs.Common.{◌≡◌, ◌∙◌, sym, ap, subst, refl, ℕ, zero, suc, ◌+◌, ◌≤◌, ◌⊎◌, inl, inr, Bool, true, false, List, [], ◌∷◌, ◌++◌, length, take, Option, Some, None, arith, cond}
use Rattle.std.specs.Prelude.{slice_get, Contains, nat_le, option_map}
use Rattle.std.proofs.lemmas.Bool.Decides.{nat_tests}
use Rattle.nv_calls.specs.Calls.{Entry, is_same}
use Rattle.nv_calls.specs.Logs.{Start, served, IsLawful, IsLegal, child_of}
use Rattle.nv_calls.proofs.SameLaws.{same_is}
use Rattle.nv_threads.specs.Behaviours.{Behaviour, IsProcess, event_answered}
use Rattle.nv_threads.specs.declared.turns.Want.TheVariants.{Any, Only}
use Rattle.nv_threads.specs.declared.turns.Came.{Came}
use Rattle.nv_threads.specs.declared.turns.Came.TheVariants.{Asked, Fault}
use Rattle.nv_replay.specs.declared.fate.Fate.{Fate}
use Rattle.nv_replay.specs.declared.fate.Fate.TheVariants.{Exited, Fault as Faulted, Refused, Memory, LetGo}
use Rattle.nv_replay.specs.Settling.{stage}
use Rattle.nv_replay.specs.Permits.{Permit, Give, Pass, Consume, No}
use Rattle.nv_replay.specs.Follow.{Follower, Judge, decided, met, judged, consumed, permit_by, refusal_by, follow_next, on_next, IsInStep}
use Rattle.nv_replay.specs.Lead.{Leader, next_call}
use Rattle.nv_replay.specs.Version.{Running}
use Rattle.nv_replay.proofs.Settled.{Reaches, reach_here, reach_first, stage_zero, stage_one, stage_rests}
use Rattle.nv_replay.proofs.Falling.{within}
use Rattle.nv_replay.proofs.Stepping.{decided_in_step}
use Rattle.nv_replay.proofs.Leading.{led_if}

-- no fault, no refusal
abbrev pub is_well : Option Fate → Bool
is_well None = true
is_well (Some (Exited s)) = true
is_well (Some (Faulted a b c)) = false
is_well (Some (Refused a b c d)) = false
is_well (Some Memory) = false
is_well (Some LetGo) = false

-- it has made no rewrite, and has met no fault and no refusal
pub record IsTrueTo {P : Type 0} (s : Follower P) : Type 0 where
  pub rewrites : s.rewrites ≡ 0
  pub well : is_well s.fate ≡ true

pub take_one : (log : List Entry) (i : ℕ) (e : Entry) → slice_get log i ≡ Some e → take (i + 1) log ≡ take i log ++ e ∷ []
take_one [] i e h = cc
take_one (d ∷ log) zero e h = let k : d ≡ e = cc in ap (λ x. x ∷ []) k
take_one (d ∷ log) (suc i) e h = let k : suc i + 1 ≡ suc (i + 1) = omega arith in rw k (ap (λ x. d ∷ x) (take_one log i e h))

pub length_take : (log : List Entry) (i : ℕ) → i ≤ length log → length (take i log) ≡ i
length_take log zero h = refl
length_take [] (suc i) h = absurd (omega arith)
length_take (d ∷ log) (suc i) h = ap suc (length_take log i (omega arith))

module _ {P : Type 0} (g : Behaviour P) (laws : IsProcess g) (judge : Judge) (replies : Start) (most : ℕ) (log : List Entry) where
  -- a log that a kernel has, within the limit, with no clone
  pub record IsPlainLog : Type 0 where
    pub lawful : IsLawful log
    pub legal : IsLegal replies log
    pub short : length log ≤ most
    pub childless : (i : ℕ) (e : Entry) → slice_get log i ≡ Some e → child_of e ≡ None

  -- what the follower would have come to as a leader
  abbrev pub copied : Follower P → Leader P
  copied s = record { process = s.process; log = take s.seen log; fate = s.fate }

  -- one consumed event is one served call
  consumed_copied : (s : Follower P) (e : Entry) (u : ℕ) → IsPlainLog → slice_get log s.seen ≡ Some e → IsInStep g log s → s.fate ≡ None
      → g.is_alone s.process ≡ true → g.came s.process (Only e.call.tid) ≡ Asked u
      → is_same (g.call (g.after s.process (Only e.call.tid)) u) e.call ≡ true
      → next_call g replies most None (copied s) ≡ copied (consumed g s (g.answered (g.after s.process (Only e.call.tid)) u e.reply))
  consumed_copied s e u pl h i n al c sm =
      let may = pl.lawful s.seen e h in
      let lives : Contains (g.live s.process) e.call.tid = subst (λ (x : List ℕ). Contains x e.call.tid) (sym (i.live n)) may.lives in
      let t : e.call.tid ≡ 100 = laws.sole s.process e.call.tid al lives in
      let c' : g.came s.process Any ≡ Asked u = laws.alone s.process al ∙ (ap (λ x. g.came s.process (Only x)) (sym t) ∙ c) in
      let a : g.after s.process Any ≡ g.after s.process (Only e.call.tid) = laws.alone_after s.process al ∙ ap
      (λ x. g.after s.process (Only x)) (sym t) in
      let l : length (take s.seen log) ≡ s.seen = length_take log s.seen i.within in
      let m : nat_le most (length (take s.seen log)) ≡ false = rw l (let w = within log s.seen e h in let y = pl.short in grind (arith, nat_tests)) in
      let call : g.call (g.after s.process (Only e.call.tid)) u ≡ e.call = same_is _ _ sm in
      let ev : served replies (take s.seen log) (g.call (g.after s.process Any) u) ≡ e = rw (a, call) (sym (pl.legal s.seen e h)) in
      let one : take (s.seen + 1) log ≡ take s.seen log ++ e ∷ [] = take_one log s.seen e h in
      let r : Running P = record { index = 0; at = s; led = []; leading = true; asked = None; eager = false } in
      let F : P → Entry → Leader P = λ p x. record {
        process = g.answered p u x.reply;
        log = take s.seen log ++ x ∷ [];
        fate = option_map
            Exited (g.ended (g.answered p u x.reply));
      } in
      led_if g replies most None r (take s.seen log) u false false m refl c' n ∙
      (ap (λ x. F (g.after s.process Any) x) ev ∙ (ap (λ p. F p e) a ∙ ap
      (λ (x : List Entry). record {
        process = g.answered (g.after s.process (Only e.call.tid)) u e.reply;
        log = x;
        fate = option_map
            Exited (g.ended (g.answered (g.after s.process (Only e.call.tid)) u e.reply));
      }) (sym one)))

  judged_not : (s : Follower P) (p : P) (t : ℕ) (f : Fate) (o : Permit) → is_well (Some f) ≡ false → IsTrueTo (judged g s p t f o) → ⊥
  unfolding judged
  judged_not s p t f (Give r) w h = omega (arith, h.rewrites)
  judged_not s p t f Pass w h = omega (arith, h.rewrites)
  judged_not s p t f (Consume r) w h = omega (arith, h.rewrites)
  judged_not s p t f No w h = let z : false ≡ true = sym w ∙ h.well in cc

  same_copied : (s : Follower P) (e : Entry) (u : ℕ) (b : Bool) → is_same (g.call (g.after s.process (Only e.call.tid)) u) e.call ≡ b
      → IsPlainLog → slice_get log s.seen ≡ Some e → IsInStep g log s → s.fate ≡ None → g.is_alone s.process ≡ true
      → g.came s.process (Only e.call.tid) ≡ Asked u
      → IsTrueTo (cond b (consumed g s (g.answered (g.after s.process (Only e.call.tid)) u e.reply))
      (judged g s (g.after s.process (Only e.call.tid)) u (refusal_by judge e (g.call (g.after s.process (Only e.call.tid)) u))
      (permit_by judge e (g.call (g.after s.process (Only e.call.tid)) u))))
      → next_call g replies most None (copied s) ≡ copied
      (cond b (consumed g s (g.answered (g.after s.process (Only e.call.tid)) u e.reply))
      (judged g s (g.after s.process (Only e.call.tid)) u (refusal_by judge e (g.call (g.after s.process (Only e.call.tid)) u))
      (permit_by judge e (g.call (g.after s.process (Only e.call.tid)) u))))
  same_copied s e u true b pl h i n al c w = consumed_copied s e u pl h i n al c b
  same_copied s e u false b pl h i n al c w = absurd (judged_not s (g.after s.process (Only e.call.tid)) u _ _ refl w)

  met_copied : (s : Follower P) (e : Entry) (came : Came) → IsPlainLog → slice_get log s.seen ≡ Some e → IsInStep g log s → s.fate ≡ None
      → g.is_alone s.process ≡ true → g.came s.process (Only e.call.tid) ≡ came
      → IsTrueTo (met g judge e s (g.after s.process (Only e.call.tid)) came)
      → next_call g replies most None (copied s) ≡ copied (met g judge e s (g.after s.process (Only e.call.tid)) came)
  unfolding met
  met_copied s e (Fault kind tid pc) pl h i n al c w = let z : false ≡ true = w.well in cc
  met_copied s e (Asked u) pl h i n al c w = same_copied s e u (is_same (g.call (g.after s.process (Only e.call.tid)) u) e.call) refl pl h i n al c w

  -- a decision that is true to the log is a step of Lead
  pub decided_copied : (s : Follower P) (e : Entry) → IsPlainLog → slice_get log s.seen ≡ Some e → IsInStep g log s → s.fate ≡ None
      → g.is_alone s.process ≡ true → IsTrueTo (decided g judge e s) → next_call g replies most None (copied s) ≡ copied (decided g judge e s)
  unfolding decided
  decided_copied s e pl h i n al w = met_copied s e (g.came s.process (Only e.call.tid)) pl h i n al refl w

  -- what comes later has no fewer rewrites, and keeps a fate
  judged_more : (s : Follower P) (p : P) (t : ℕ) (f : Fate) (o : Permit) → s.rewrites ≤ (judged g s p t f o).rewrites
  unfolding judged
  judged_more s p t f (Give r) = omega arith
  judged_more s p t f Pass = omega arith
  judged_more s p t f (Consume r) = omega arith
  judged_more s p t f No = omega arith

  met_more : (s : Follower P) (e : Entry) (p : P) (came : Came) → s.rewrites ≤ (met g judge e s p came).rewrites
  unfolding met
  met_more s e p (Fault k t pc) = omega arith
  met_more s e p (Asked u) = elim (is_same (g.call p u) e.call) as
      (λ b. s.rewrites ≤ (cond b (consumed g s (g.answered p u e.reply))
      (judged g s p u (refusal_by judge e (g.call p u)) (permit_by judge e (g.call p u)))).rewrites)
      [ true ↦ omega arith | false ↦ judged_more s p u _ _ ]

  decided_more : (s : Follower P) (e : Entry) → s.rewrites ≤ (decided g judge e s).rewrites
  unfolding decided
  decided_more s e = met_more s e _ _

  -- either it rests, or it decides on the next event
  next_cases : (s : Follower P) (o : Option Entry) (f : Option Fate) → slice_get log s.seen ≡ o → s.fate ≡ f
      → (on_next g judge log s o f ≡ s) ⊎ ((e : Entry) × (slice_get log s.seen ≡ Some e) × (s.fate ≡ None) ×
      (on_next g judge log s o f ≡ decided g judge e s))
  next_cases s o (Some f) h k = inl refl
  next_cases s None None h k = inl refl
  next_cases s (Some e) None h k = inr (e, h, k, refl)

  pub cases : (s : Follower P) → (follow_next g judge log s ≡ s) ⊎
      ((e : Entry) × (slice_get log s.seen ≡ Some e) × (s.fate ≡ None) × (follow_next g judge log s ≡ decided g judge e s))
  unfolding follow_next
  cases s = next_cases s (slice_get log s.seen) s.fate refl refl

  later : (n : ℕ) (s : Follower P) → s.rewrites ≤ (stage (follow_next g judge log) n s).rewrites
  later zero s = rw (stage_zero (follow_next g judge log) s) (omega arith)
  later (suc n) s = rw (stage_one (follow_next g judge log) n s)
      (elim (cases s) [ inl e ↦ rw e (later n s) | inr (e, h, k, q) ↦ rw q (omega (arith, decided_more s e, later n (decided g judge e s))) ])

  fated : (s : Follower P) (f : Fate) (o : Option Entry) → s.fate ≡ Some f → on_next g judge log s o s.fate ≡ s
  fated s f o h = rw h refl

  fate_rests : (s : Follower P) (f : Fate) → s.fate ≡ Some f → follow_next g judge log s ≡ s
  unfolding follow_next
  fate_rests s f h = fated s f (slice_get log s.seen) h

  well_by : (n : ℕ) (s t : Follower P) (f : Option Fate) → s.fate ≡ f → stage (follow_next g judge log) n s ≡ t → is_well t.fate ≡ true
      → is_well s.fate ≡ true
  well_by n s t None k h w = rw k refl
  well_by n s t (Some f) k h w = let e : s ≡ t = sym (stage_rests (follow_next g judge log) n s (fate_rests s f k)) ∙ h in rw e w

  -- who is true to the log in the end was so before
  pub true_before : (n : ℕ) (s t : Follower P) → stage (follow_next g judge log) n s ≡ t → IsTrueTo t → IsTrueTo s
  true_before n s t h w = record {
    rewrites = let a = later n s in let b : s.rewrites ≤ t.rewrites = subst (λ (x : Follower P). s.rewrites ≤ x.rewrites) h a in omega
        (arith, w.rewrites);
    well = well_by n s t s.fate refl h w.well;
  }

  answered_alone : (s : Follower P) (e : Entry) (p : P) (u : ℕ) → g.is_alone p ≡ true → g.call p u ≡ e.call → child_of e ≡ None
      → g.is_alone (g.answered p u e.reply) ≡ true
  answered_alone s e p u al c k =
      let ev : event_answered g p u e.reply e.stamp ≡ e = λ i. record { stamp = e.stamp; call = c i; reply = e.reply } in
      laws.alone_answer p u e.stamp e.reply al (ap child_of ev ∙ k)

  same_alone : (s : Follower P) (e : Entry) (p : P) (u : ℕ) (b : Bool) → is_same (g.call p u) e.call ≡ b → g.is_alone p ≡ true → child_of e ≡ None
      → IsTrueTo (cond b (consumed g s (g.answered p u e.reply)) (judged g s p u (refusal_by judge e (g.call p u)) (permit_by judge e (g.call p u))))
      → g.is_alone (cond b (consumed g s (g.answered p u e.reply))
      (judged g s p u (refusal_by judge e (g.call p u)) (permit_by judge e (g.call p u)))).process ≡ true
  same_alone s e p u true b al k w = answered_alone s e p u al (same_is _ _ b) k
  same_alone s e p u false b al k w = absurd (judged_not s p u _ _ refl w)

  met_alone : (s : Follower P) (e : Entry) (p : P) (came : Came) → g.is_alone p ≡ true → child_of e ≡ None
      → IsTrueTo (met g judge e s p came) → g.is_alone (met g judge e s p came).process ≡ true
  unfolding met
  met_alone s e p (Fault kind tid pc) al k w = al
  met_alone s e p (Asked u) al k w = same_alone s e p u (is_same (g.call p u) e.call) refl al k w

  pub decided_alone : (s : Follower P) (e : Entry) → g.is_alone s.process ≡ true → child_of e ≡ None → IsTrueTo (decided g judge e s)
      → g.is_alone (decided g judge e s).process ≡ true
  unfolding decided
  decided_alone s e al k w = met_alone s e _ _ (laws.stays_alone s.process (Only e.call.tid) al) k w

  -- the induction along the log
  pub copies : (n : ℕ) (s t : Follower P) → stage (follow_next g judge log) n s ≡ t → IsTrueTo t → IsPlainLog → IsInStep g log s
      → g.is_alone s.process ≡ true → Reaches (next_call g replies most None) (copied s) (copied t)
  copies zero s t h w pl i al = subst (λ (x : Follower P). Reaches (next_call g replies most None) (copied s) (copied x))
      (sym (stage_zero (follow_next g judge log) s) ∙ h) (reach_here (next_call g replies most None) (copied s))
  copies (suc n) s t h w pl i al = elim (cases s) [
    | inl e ↦ subst (λ (x : Follower P). Reaches (next_call g replies most None) (copied s) (copied x))
        (sym (stage_rests (follow_next g judge log) (suc n) s e) ∙ h) (reach_here (next_call g replies most None) (copied s))
    | inr (e, k, none, q) ↦
        let h' : stage (follow_next g judge log) n (decided g judge e s) ≡ t = ap (stage (follow_next g judge log) n) (sym q) ∙
        (sym (stage_one (follow_next g judge log) n s) ∙ h) in
        let w' = true_before n (decided g judge e s) t h' w in
        let go = copies n (decided g judge e s) t h' w pl (decided_in_step g laws judge log e s pl.lawful k i none)
        (decided_alone s e al (pl.childless s.seen e k) w') in
        reach_first (next_call g replies most None) (copied s) (copied t)
        (subst (λ (x : Leader P). Reaches (next_call g replies most None) x (copied t)) (sym (decided_copied s e pl k i none al w')) go)
  ]
