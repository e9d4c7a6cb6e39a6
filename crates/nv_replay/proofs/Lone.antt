-- A version that made no rewrite did what it would do alone, as a follower and as a leader.
use Rattle.std.proofs.Common.{◌≡◌, ◌∙◌, sym, ap, subst, refl, inl, inr, arith, length-append}
use Rattle.std.specs.Prelude.{ℕ, zero, suc, ◌+◌, ◌≤◌, true, List, [], ◌∷◌, ◌++◌, length, take, Option, Some, None, slice_get, Contains, option_map}
use Rattle.nv_calls.specs.Calls.{Entry}
use Rattle.nv_calls.specs.Logs.{Start, served, IsLawful, IsLegal, child_of}
use Rattle.nv_threads.specs.Behaviours.{Behaviour, IsProcess}
use Rattle.nv_threads.specs.declared.turns.Want.TheVariants.{Any}
use Rattle.nv_replay.specs.declared.fate.Fate.{Fate}
use Rattle.nv_replay.specs.declared.fate.Fate.TheVariants.{Exited}
use Rattle.nv_replay.specs.Spans.{EndBy}
use Rattle.nv_replay.specs.Settling.{stage}
use Rattle.nv_replay.specs.Follow.{Follower, Judge, decided, follow, fresh, follow_next, IsInStep, no_rules}
use Rattle.nv_replay.specs.Lead.{Leader, next_call}
use Rattle.nv_replay.specs.Tracks.{track_next}
use Rattle.nv_replay.proofs.Settled.{Reaches, stage_zero, stage_one, stage_rests}
use Rattle.nv_replay.proofs.Extending.{follow_reached, get_prefix, stage_grows, in_step_on, reach_all, take_prefix_of}
use Rattle.nv_replay.proofs.Stepping.{consumed_in_step}
use Rattle.nv_replay.proofs.Surviving.{IsTrueTo, IsPlainLog, copied, copies, cases, true_before, decided_alone}
use Rattle.nv_replay.proofs.Falling.{within}
use Rattle.nv_replay.proofs.Turning.{get_last}
use Rattle.nv_replay.proofs.Retracing.{beside, HasServed, goes_on, back}
use Rattle.nv_replay.proofs.Survivor.{stage_in_step, lawful_prefix}

-- no event makes a thread
abbrev pub IsChildless : List Entry → Type 0
IsChildless log = (i : ℕ) (e : Entry) → slice_get log i ≡ Some e → child_of e ≡ None

-- within the limits of a run, by one thread
pub record IsPlain (start : Start) (most : ℕ) (log : List Entry) : Type 0 where
  pub lawful : IsLawful log
  pub legal : IsLegal start log
  pub short : length log ≤ most
  pub childless : IsChildless log

childless_prefix : (log more : List Entry) → IsChildless (log ++ more) → IsChildless log
childless_prefix log more f i e h = f i e (get_prefix log more i e h)

legal_prefix : (start : Start) (log more : List Entry) → IsLegal start (log ++ more) → IsLegal start log
legal_prefix start log more l i e h =
    let m = l i e (get_prefix log more i e h) in
    let w : i ≤ length log = (let a = within log i e h in omega arith) in
    subst (λ (x : List Entry). e ≡ served start x e.call) (take_prefix_of log more i w) m

pub plain_prefix : (start : Start) (most : ℕ) (log more : List Entry) → IsPlain start most (log ++ more) → IsPlain start most log
plain_prefix start most log more p = record {
  lawful = lawful_prefix log more p.lawful;
  legal = legal_prefix start log more p.legal;
  short = (let q = p.short in omega (arith, length-append log more));
  childless = childless_prefix log more p.childless;
}

module _ {P : Type 0} (g : Behaviour P) (laws : IsProcess g) (start : Start) (most : ℕ) where
  abbrev pub follower : Leader P → ℕ → Follower P
  follower l rewrites = record { process = l.process; seen = length l.log; rewrites = rewrites; fate = l.fate }

  -- a leader keeps in step with the log that it makes, and makes no second thread
  pub record Keeps (l : Leader P) (rewrites : ℕ) : Type 0 where
    pub in_step : IsInStep g l.log (follower l rewrites)
    pub alone : rewrites ≡ 0 → g.is_alone l.process ≡ true

  serves : (cut : Option ℕ) (l : Leader P) (rewrites : ℕ) → IsLawful (next_call g start most cut l).log → IsChildless (next_call g start most cut l).log → l.fate ≡ None → (next_call g start most cut l).fate ≡ None
      → HasServed g start most cut l (next_call g start most cut l) → Keeps l rewrites → Keeps (next_call g start most cut l) rewrites
  serves cut l rewrites law none n m d k =
      let p : P = g.after l.process Any in
      let t : ℕ = d.thread in
      let ev : Entry = served start l.log (g.call p t) in
      let log1 : List Entry = l.log ++ ev ∷ [] in
      let l1 : Leader P = next_call g start most cut l in
      let s : Follower P = beside rewrites l in
      let logs : l1.log ≡ log1 = ap (λ (x : Leader P). x.log) d.new in
      let law1 : IsLawful log1 = subst IsLawful logs law in
      let st : IsInStep g l.log s = subst (λ (f : Option Fate). IsInStep g l.log (record { process = l.process; seen = length l.log; rewrites = rewrites; fate = f })) n k.in_step in
      let pending : g.pending p t ≡ true = laws.asked l.process Any t d.came in
      let la : g.live p ≡ g.live l.process = laws.live_after l.process Any in
      let lives : Contains (g.live p) t = subst (λ (x : List ℕ). Contains x t) (sym la) (laws.any l.process t (st.on refl) d.came) in
      let child : child_of ev ≡ None = subst IsChildless logs none (length l.log) ev (get_last l.log ev) in
      let c = consumed_in_step g laws no_rules log1 ev s p t (get_last l.log ev) (in_step_on g l.log (ev ∷ []) s st) refl la pending lives refl in
      let n1 : option_map Exited (g.ended (g.answered p t ev.reply)) ≡ None = ap (λ (x : Leader P). x.fate) (sym d.new) ∙ m in
      let one : length log1 ≡ length l.log + 1 = length-append l.log (ev ∷ []) in
      let F : Leader P → Type 0 = λ x. Keeps x rewrites in
      subst F (sym d.new) (record {
        in_step = subst (λ (y : ℕ). IsInStep g log1 (record { process = g.answered p t ev.reply; seen = y; rewrites = rewrites; fate = option_map Exited (g.ended (g.answered p t ev.reply)) })) (sym one) c;
        alone = λ z. laws.alone_answer p t (length l.log) ev.reply (laws.stays_alone l.process Any (k.alone z)) child;
      })

  pub leads_so : (cut : Option ℕ) (n : ℕ) (l m : Leader P) (rewrites : ℕ) → stage (next_call g start most cut) n l ≡ m → m.fate ≡ None → IsLawful m.log → IsChildless m.log → Keeps l rewrites → Keeps m rewrites
  leads_so cut zero l m rewrites h f law none k = subst (λ (x : Leader P). Keeps x rewrites) (sym (stage_zero (next_call g start most cut) l) ∙ h) k
  leads_so cut (suc n) l m rewrites h f law none k =
      let l1 : Leader P = next_call g start most cut l in
      let h1 : stage (next_call g start most cut) n l1 ≡ m = sym (stage_one (next_call g start most cut) n l) ∙ h in
      let on1 : l1.fate ≡ None = back g start most cut n l1 m h1 f in
      let on : l.fate ≡ None = back g start most cut (suc n) l m h f in
      let more = stage_grows g start most cut n l1 in
      let law1 : IsLawful l1.log = lawful_prefix l1.log more.0 (subst IsLawful (sym (ap (λ (y : Leader P). y.log) h1) ∙ more.1) law) in
      let none1 : IsChildless l1.log = childless_prefix l1.log more.0 (subst IsChildless (sym (ap (λ (y : Leader P). y.log) h1) ∙ more.1) none) in
      leads_so cut n l1 m rewrites h1 f law none (serves cut l rewrites law1 none1 on on1 (goes_on g start most cut l on on1) k)

module _ {P : Type 0} (g : Behaviour P) (laws : IsProcess g) (judge : Judge) (start : Start) (most : ℕ) (log : List Entry) where
  -- who follows without a rewrite makes no second thread
  pub follows_alone : (n : ℕ) (s t : Follower P) → stage (follow_next g judge log) n s ≡ t → IsTrueTo t → IsLawful log → IsChildless log → g.is_alone s.process ≡ true → g.is_alone t.process ≡ true
  follows_alone zero s t h w law none al = subst (λ (x : Follower P). g.is_alone x.process ≡ true) (sym (stage_zero (follow_next g judge log) s) ∙ h) al
  follows_alone (suc n) s t h w law none al = elim (cases g laws judge start most log s) [
    | inl e ↦ subst (λ (x : Follower P). g.is_alone x.process ≡ true) (sym (stage_rests (follow_next g judge log) (suc n) s e) ∙ h) al
    | inr (e, k, o, q) ↦
        let h' : stage (follow_next g judge log) n (decided g judge e s) ≡ t = ap (stage (follow_next g judge log) n) (sym q) ∙ (sym (stage_one (follow_next g judge log) n s) ∙ h) in
        let w' = true_before g laws judge start most log n (decided g judge e s) t h' w in
        follows_alone n (decided g judge e s) t h' w law none (decided_alone g laws judge start most log s e al (none s.seen e k) w')
  ]

  abbrev pub beginning : P → Leader P
  beginning p = record { process = p; log = []; fate = None }

  -- where a version stands after the last part that it led
  pub record Trace (led : List (ℕ × ℕ)) (p : P) : Type 0 where
    pub at : Follower P
    pub reach : Reaches (track_next g judge led log) (fresh p) at
    pub past : EndBy at.seen led
    pub in_step : IsInStep g log at
    pub on : at.fate ≡ None
    pub copy : at.rewrites ≡ 0 → Reaches (next_call g start most None) (beginning p) (record { process = at.process; log = take at.seen log; fate = None })
    pub alone : at.rewrites ≡ 0 → g.is_alone at.process ≡ true

  -- over the whole log
  pub record Whole (p : P) (f : Follower P) : Type 0 where
    pub in_step : IsInStep g log f
    pub copy : IsTrueTo f → Reaches (next_call g start most None) (beginning p) (copied g laws judge start most log f)
    pub alone : IsTrueTo f → g.is_alone f.process ≡ true

  pub wholly : (led : List (ℕ × ℕ)) (p : P) → IsPlain start most log → (t : Trace led p) → Whole p (follow g judge log t.at)
  wholly led p pl t =
      let s = t.at in
      let f = follow g judge log s in
      let r = follow_reached g laws judge log [] s in
      let plain : IsPlainLog g laws judge start most log = record { lawful = pl.lawful; legal = pl.legal; short = pl.short; childless = pl.childless } in
      let before = λ (w : IsTrueTo f). (true_before g laws judge start most log r.steps s f r.is w).rewrites in
      let at : copied g laws judge start most log s ≡ record { process = s.process; log = take s.seen log; fate = None } = ap (λ (x : Option Fate). record { process = s.process; log = take s.seen log; fate = x }) t.on in
      record {
        in_step = subst (λ (x : Follower P). IsInStep g log x) r.is (stage_in_step g laws judge start most log r.steps s pl.lawful t.in_step);
        copy = λ w.
            let c = copies g laws judge start most log r.steps s f r.is w plain t.in_step (t.alone (before w)) in
            reach_all (next_call g start most None) (beginning p) (copied g laws judge start most log s) (copied g laws judge start most log f)
            (subst (λ (x : Leader P). Reaches (next_call g start most None) (beginning p) x) (sym at) (t.copy (before w))) c;
        alone = λ w. follows_alone r.steps s f r.is w pl.lawful pl.childless (t.alone (before w));
      }
