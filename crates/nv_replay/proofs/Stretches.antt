-- A leader that may give up the lead: what it comes to is what a leader comes to, so far.
use Rattle.std.proofs.Common.{◌≡◌, ◌∙◌, sym, ap, subst, refl, inl, inr, arith}
use Rattle.std.specs.Prelude.{ℕ, zero, suc, ◌+◌, ◌<◌, ◌≤◌, ◌⊎◌, Bool, true, false, List, [], ◌++◌, Option, Some, None}
use Rattle.nv_calls.specs.Calls.{Entry}
use Rattle.nv_calls.specs.Logs.{Start}
use Rattle.nv_threads.specs.Behaviours.{Behaviour, IsProcess}
use Rattle.nv_replay.specs.declared.fate.Fate.{Fate}
use Rattle.nv_replay.specs.Settling.{stage}
use Rattle.nv_replay.specs.Lead.{Leader, next_call, lead, unless_ended}
use Rattle.nv_replay.specs.Sequence.{is_going}
use Rattle.nv_replay.proofs.Settled.{Reaches, reach_here, reach_first, reached, at_rest, stage_zero, stage_one, stage_rests, Falls}
use Rattle.nv_replay.proofs.Extending.{stage_grows}
use Rattle.nv_replay.proofs.Falling.{lead_size, lead_falls}
use Rattle.nv_replay.specs.Hands.{is_handed, unless_handed, next_or_hand, lead_to_hand}
use Rattle.nv_replay.proofs.Numbers.{none_planned}

module _ {P : Type 0} (g : Behaviour P) (start : Start) (most : ℕ) (cut : Option ℕ) (hands : List ℕ) (from : ℕ) where
  cases_by : (l : Leader P) (b : Bool) → (unless_handed g start most cut hands from l b ≡ l) ⊎ (unless_handed g start most cut hands from l b ≡ next_call g start most cut l)
  cases_by l true = inl refl
  cases_by l false = inr refl

  pub hand_cases : (l : Leader P) → (next_or_hand g start most cut hands from l ≡ l) ⊎ (next_or_hand g start most cut hands from l ≡ next_call g start most cut l)
  unfolding next_or_hand
  hand_cases l = cases_by l (is_handed hands from l)

  pub next_unless : (l : Leader P) → is_handed hands from l ≡ false → next_or_hand g start most cut hands from l ≡ next_call g start most cut l
  unfolding next_or_hand
  next_unless l h = rw h refl

  pub handed_rests : (l : Leader P) → is_handed hands from l ≡ true → next_or_hand g start most cut hands from l ≡ l
  unfolding next_or_hand
  handed_rests l h = rw h refl

  fate_rests : (l : Leader P) (f : Option Fate) → is_going f ≡ false → unless_ended g start most cut l f ≡ l
  fate_rests l None h = cc
  fate_rests l (Some f) h = refl

  call_rests : (l : Leader P) → is_going l.fate ≡ false → next_call g start most cut l ≡ l
  unfolding next_call
  call_rests l h = fate_rests l l.fate h

  pub ended_rests : (l : Leader P) → is_going l.fate ≡ false → next_or_hand g start most cut hands from l ≡ l
  ended_rests l h = elim (hand_cases l) [ inl e ↦ e | inr e ↦ e ∙ call_rests l h ]

  -- each stage is a stage of Lead
  pub stage_leads : (n : ℕ) (l m : Leader P) → stage (next_or_hand g start most cut hands from) n l ≡ m → Reaches (next_call g start most cut) l m
  stage_leads zero l m h = subst (λ (x : Leader P). Reaches (next_call g start most cut) l x) (sym (stage_zero (next_or_hand g start most cut hands from) l) ∙ h)
      (reach_here (next_call g start most cut) l)
  stage_leads (suc n) l m h = elim (hand_cases l) [
    | inl e ↦ subst (λ (x : Leader P). Reaches (next_call g start most cut) l x)
        (sym (stage_rests (next_or_hand g start most cut hands from) (suc n) l e) ∙ h) (reach_here (next_call g start most cut) l)
    | inr e ↦ reach_first (next_call g start most cut) l m (subst (λ (x : Leader P). Reaches (next_call g start most cut) x m) e
        (stage_leads n (next_or_hand g start most cut hands from l) m (sym (stage_one (next_or_hand g start most cut hands from) n l) ∙ h)))
  ]

  pub hand_reached : (l : Leader P) → Reaches (next_or_hand g start most cut hands from) l (lead_to_hand g start most cut hands from l)
  unfolding lead_to_hand
  hand_reached l = record { steps = g.calls_left l.process + 1; is = refl }

  pub hand_leads : (l : Leader P) → Reaches (next_call g start most cut) l (lead_to_hand g start most cut hands from l)
  hand_leads l = let r = hand_reached l in stage_leads r.steps l (lead_to_hand g start most cut hands from l) r.is

  -- the log grows
  pub hand_grows : (l : Leader P) → (more : List Entry) × ((lead_to_hand g start most cut hands from l).log ≡ l.log ++ more)
  hand_grows l =
      let r = hand_leads l in
      let k = stage_grows g start most cut r.steps l in
      (k.0, ap (λ (x : Leader P). x.log) (sym r.is) ∙ k.1)

  hand_falls : IsProcess g → Falls (next_or_hand g start most cut hands from) (lead_size g)
  hand_falls laws = record {
    each = λ l. elim (hand_cases l) [
      | inl e ↦ inl e
      | inr e ↦ (let f = (lead_falls g laws start most cut).each l in elim f [
        | inl r ↦ inl (e ∙ r)
        | inr r ↦ inr (subst (λ (x : Leader P). lead_size g x < lead_size g l) (sym e) r)
      ])
    ];
  }

  bound : (l : Leader P) (f : Option Fate) → f ≡ l.fate → lead_size g l ≤ g.calls_left l.process + 1
  unfolding lead_size
  bound l None h = rw (← h) (omega arith)
  bound l (Some f) h = rw (← h) (omega arith)

  -- what rests and was reached is the whole
  pub hand_is : IsProcess g → (l m : Leader P) → Reaches (next_or_hand g start most cut hands from) l m → next_or_hand g start most cut hands from m ≡ m
      → m ≡ lead_to_hand g start most cut hands from l
  unfolding lead_to_hand
  hand_is laws l m r h = sym (reached (next_or_hand g start most cut hands from) (lead_size g) (hand_falls laws)
      (g.calls_left l.process + 1) l (bound l l.fate refl) r.steps m r.is h)

  -- it rests in the end
  pub hand_rests : IsProcess g → (l : Leader P) → next_or_hand g start most cut hands from (lead_to_hand g start most cut hands from l) ≡ lead_to_hand g start most cut hands from l
  unfolding lead_to_hand
  hand_rests laws l = at_rest (next_or_hand g start most cut hands from) (lead_size g) (hand_falls laws) (g.calls_left l.process + 1) l (bound l l.fate refl)

pub stage_same : {S : Type 0} (f h : S → S) (same : (s : S) → f s ≡ h s) (n : ℕ) (s : S) → stage f n s ≡ stage h n s
stage_same f h same zero s = stage_zero f s ∙ sym (stage_zero h s)
stage_same f h same (suc n) s = stage_one f n s ∙ (stage_same f h same n (f s) ∙ (ap (stage h n) (same s) ∙ sym (stage_one h n s)))

-- without planned lengths it is Lead
pub leads_whole : {P : Type 0} (g : Behaviour P) (start : Start) (most : ℕ) (cut : Option ℕ) (from : ℕ) (l : Leader P)
    → lead_to_hand g start most cut [] from l ≡ lead g start most cut l
unfolding lead lead_to_hand
leads_whole {P = P} g start most cut from l = stage_same (next_or_hand g start most cut [] from) (next_call g start most cut)
    (λ (x : Leader P). next_unless g start most cut [] from x (none_planned from x)) (g.calls_left l.process + 1) l
