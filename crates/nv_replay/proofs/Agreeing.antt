-- The survivor's clause on the account of a run with planned changes of the leader.
use Rattle.std.proofs.Common.{◌≡◌, ◌∙◌, sym, ap, subst, refl, ℕ, zero, suc, ◌+◌, ◌<◌, ◌≤◌, Bool, true, false, List, [], ◌∷◌, length, map, Option, Some, None, arith, cond, length-append}
use Rattle.std.specs.Prelude.{slice_get, nat_le}
use Rattle.std.proofs.lemmas.Bool.Decides.{nat_tests}
use Rattle.nv_calls.specs.Calls.{Entry}
use Rattle.nv_calls.specs.Logs.{Start, served, IsLawful, IsLegal}
use Rattle.nv_threads.specs.Behaviours.{Behaviour, IsProcess, IsStarted}
use Rattle.nv_threads.specs.declared.turns.Want.TheVariants.{Any}
use Rattle.nv_threads.specs.declared.turns.Came.{Came}
use Rattle.nv_threads.specs.declared.turns.Came.TheVariants.{Asked, Fault as Faults}
use Rattle.nv_machine.specs.declared.outcome.FaultKind.TheVariants.{Calls}
use Rattle.nv_replay.specs.declared.fate.Fate.{Fate}
use Rattle.nv_replay.specs.declared.standing.Standing.{Standing}
use Rattle.nv_replay.specs.declared.fate.Fate.TheVariants.{Fault as Faulted, Memory}
use Rattle.nv_replay.specs.Settling.{stage}
use Rattle.nv_replay.specs.Follow.{Judge}
use Rattle.nv_replay.specs.Lead.{Leader, led, logged, is_cut, unless_ended, next_call}
use Rattle.nv_replay.specs.Hands.{is_handed}
use Rattle.nv_replay.specs.Sequence.{Account, cuts_of}
use Rattle.nv_replay.specs.Monitor.{Part, Run, begun, after_lead, tracked_by, leads_on, turn, sequence}
use Rattle.nv_replay.specs.Follow as following
use Rattle.nv_replay.specs.Version.{Running, process_of}
use Rattle.nv_replay.specs.Account.{AreFresh}
use Rattle.nv_replay.specs.Survivors.{HasNoClone}
use Rattle.nv_replay.specs.Survivors.{SurvivorsAgree}
use Rattle.nv_replay.proofs.Covering.{turn_keeps, stage_keeps}
use Rattle.nv_replay.proofs.Stretches.{hand_leads}
use Rattle.nv_replay.proofs.Lone.{IsPlain}
use Rattle.nv_replay.proofs.Survivor.{no_child}
use Rattle.nv_replay.proofs.Survivors.{survives}
use Rattle.nv_replay.proofs.OneVersion.{one_leads}

module _ {P : Type 0} (g : Behaviour P) (replies : Start) (most : ℕ) (cut : Option ℕ) where
  short_if : (s : Leader P) (p : P) (t : ℕ) (b d : Bool) → nat_le most (length s.log) ≡ b → length s.log ≤ most
      → length (cond b (record s { process = p; fate = Some (Faulted Calls t (g.pc p t)) })
      (cond d (record s { process = p; fate = Some Memory })
      (logged g replies most cut s (g.answered p t (served replies s.log (g.call p t)).reply) (served replies s.log (g.call p t))))).log ≤ most
  short_if s p t true d m h = h
  short_if s p t false true m h = h
  short_if s p t false false m h =
      let l : length s.log < most = grind (arith, nat_tests) in
      omega (arith, length-append s.log (served replies s.log (g.call p t) ∷ []))

  short_led : (s : Leader P) (p : P) (came : Came) → length s.log ≤ most → length (led g replies most cut s p came).log ≤ most
  short_led s p (Faults a b d) h = h
  short_led s p (Asked t) h = short_if s p t (nat_le most (length s.log)) (is_cut cut (length s.log)) refl h

  short_by : (s : Leader P) (f : Option Fate) → length s.log ≤ most → length (unless_ended g replies most cut s f).log ≤ most
  short_by s (Some f) h = h
  short_by s None h = short_led s (g.after s.process Any) (g.came s.process Any) h

  short_next : (s : Leader P) → length s.log ≤ most → length (next_call g replies most cut s).log ≤ most
  unfolding next_call
  short_next s h = short_by s s.fate h

  pub short_stage : (n : ℕ) (s : Leader P) → length s.log ≤ most → length (stage (next_call g replies most cut) n s).log ≤ most
  unfolding stage
  short_stage zero s h = h
  short_stage (suc n) s h = short_stage n (next_call g replies most cut s) (short_next s h)

module _ {P : Type 0} (g : Behaviour P) (judges : ℕ → Judge) (start : Start) (most : ℕ) (cuts : ℕ → Option ℕ) (hands : List ℕ) where
  abbrev Short : Run P → Type 0
  Short m = length m.log ≤ most

  after_short : (m : Run P) (i : ℕ) (order : List ℕ) (v : Part P) (f : following.Follower P) (l : Leader P) (b : Bool) → length l.log ≤ most → Short (after_lead m i order v f l b)
  after_short m i order v f l true h = h
  after_short m i order v f l false h = h

  turn_short : (m : Run P) → Short m → Short (turn g judges start most cuts hands m)
  turn_short m s = turn_keeps g judges start most cuts hands (λ x. Short x) m s (λ i order e. s)
      (λ i order v ov e h n.
      let f = tracked_by g judges start most cuts hands m.log i v in
      let l = leads_on g judges start most cuts hands m.log i f in
      let l0 : Leader P = record { process = f.process; log = m.log; fate = None } in
      let r = hand_leads g start most (cuts i) hands (length m.log) l0 in
      let k : length l.log ≤ most = subst (λ (x : Leader P). length x.log ≤ most) r.is (short_stage g start most (cuts i) r.steps l0 s) in
      after_short m i order v f l (is_handed hands (length m.log) l) k)

  pub sequence_short : (ps : List P) → length (sequence g judges start most cuts hands ps).log ≤ most
  unfolding sequence
  sequence_short ps = stage_keeps g judges start most cuts hands (λ x. Short x) turn_short (length ps + length hands) (begun ps) (omega arith)

module _ {P : Type 0} (g : Behaviour P) (laws : IsProcess g) (start : Start) (most : ℕ) (hands : List ℕ) where
  started_at : (rs : List (Running P)) (i k : ℕ) (p : P) → AreFresh g i rs → slice_get (map process_of rs) k ≡ Some p → IsStarted g p
  started_at [] i k p a h = cc
  started_at (r ∷ rs) i zero p a h = let e : r.at.process ≡ p = cc in subst (λ (x : P). IsStarted g x) e a.0.started
  started_at (r ∷ rs) i (suc k) p a h = started_at rs (i + 1) k p a.1 h

  pub survivors : (judges : ℕ → Judge) (rs : List (Running P)) (lines : List Standing) (log : List Entry) → AreFresh g 0 rs
      → record { log = log; lines = lines } ≡ sequence g judges start most (cuts_of lines) hands (map process_of rs)
      → IsLawful log → IsLegal start log → SurvivorsAgree g start most hands (map process_of rs) lines log
  survivors judges rs lines log fresh e law legal k p line h h' s no_clone =
      let started = started_at rs 0 k p fresh h in
      let a : Account = sequence g judges start most (cuts_of lines) hands (map process_of rs) in
      let el : log ≡ a.log = ap (λ (x : Account). x.log) e in
      let at : slice_get a.lines k ≡ Some line = sym (ap (λ (x : Account). slice_get x.lines k) e) ∙ h' in
      let pl : IsPlain start most a.log = record {
        lawful = subst IsLawful el law;
        legal = subst (IsLegal start) el legal;
        short = sequence_short g judges start most (cuts_of lines) hands (map process_of rs);
        childless = λ i x q. no_child x (subst HasNoClone el no_clone i x q);
      } in
      let same = survives g laws judges start most (cuts_of lines) hands (map process_of rs) k p line h started pl at s.exited s.rewrites in
      one_leads g laws (λ i c e. 0) start most hands p ∙ (same ∙ sym el)
