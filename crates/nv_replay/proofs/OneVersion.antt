-- A run of one version alone: planned lengths change nothing in its log.
use Rattle.std.proofs.Common.{◌≡◌, ◌∙◌, sym, ap, subst, refl, inl, inr, arith, length-append}
use Rattle.std.specs.Prelude.{ℕ, zero, suc, ◌+◌, ◌<◌, ◌⊎◌, Bool, true, false, List, [], ◌∷◌, ◌++◌, length, set, Option, Some, None, slice_get}
use Rattle.nv_calls.specs.Calls.{Entry}
use Rattle.nv_calls.specs.Logs.{Start}
use Rattle.nv_threads.specs.Behaviours.{Behaviour, IsProcess}
use Rattle.nv_replay.specs.declared.fate.Fate.{Fate}
use Rattle.nv_replay.specs.Spans.{EndBy}
use Rattle.nv_replay.specs.Settling.{stage}
use Rattle.nv_replay.specs.Follow.{Follower, Judge, follow, fresh, follow_next}
use Rattle.nv_replay.specs.Lead.{Leader, lead, next_call}
use Rattle.nv_replay.specs.Tracks.{track, track_next}
use Rattle.nv_replay.specs.Hands.{count_above, is_handed, lead_to_hand, next_or_hand}
use Rattle.nv_replay.specs.Sequence.{is_going}
use Rattle.nv_replay.specs.Monitor.{Part, Run, part, begun, after_lead, tracked_by, leads_on, turn, sequence}
use Rattle.nv_replay.proofs.Settled.{Reaches, reach_here, at_rest, stage_rests}
use Rattle.nv_replay.proofs.Extending.{reach_all}
use Rattle.nv_replay.proofs.Wholes.{rests}
use Rattle.nv_replay.proofs.Falling.{lead_size, next_call_falls}
use Rattle.nv_replay.proofs.Numbers.{handed_at}
use Rattle.nv_replay.proofs.Tracking.{track_from}
use Rattle.nv_replay.proofs.Handing.{hands_over}
use Rattle.nv_replay.proofs.Stretches.{hand_leads, hand_rests, hand_grows, next_unless}
use Rattle.nv_replay.proofs.Spanning.{span_end}
use Rattle.nv_replay.proofs.Rotating.{turns_left, turn_falls, after_falls, grows, empty_rests, led, few_at_first}
use Rattle.nv_replay.proofs.Wholly.{lead_is}
use Rattle.nv_replay.proofs.Retracing.{beside}

module _ {P : Type 0} (g : Behaviour P) (laws : IsProcess g) (judges : ℕ → Judge) (start : Start) (most : ℕ) (hands : List ℕ) (p : P) where
  abbrev free : ℕ → Option ℕ
  free i = None

  abbrev first : Leader P
  first = record { process = p; log = []; fate = None }

  abbrev Turn : Run P → Run P
  Turn m = turn g judges start most free hands m

  -- it may lead on
  record Going (m : Run P) : Type 0 where
    version : Part P
    parts : m.parts ≡ version ∷ []
    process : version.process ≡ p
    order : m.order ≡ 0 ∷ []
    over : m.over ≡ false
    at : Follower P
    reach : Reaches (track_next g (judges 0) version.led m.log) (fresh p) at
    past : EndBy at.seen version.led
    seen : at.seen ≡ length m.log
    on : at.fate ≡ None
    copy : Reaches (next_call g start most None) first (record { process = at.process; log = m.log; fate = None })

  -- it has ended
  record Gone (m : Run P) : Type 0 where
    leader : Leader P
    reach : Reaches (next_call g start most None) first leader
    log : leader.log ≡ m.log
    off : is_going leader.fate ≡ false
    order : m.order ≡ []

  -- it comes to itself over the log that it has seen
  stands : (log : List Entry) (s : Follower P) → s.seen ≡ length log → follow g (judges 0) log s ≡ s
  unfolding follow
  stands log s e = stage_rests (follow_next g (judges 0) log) _ s (rests g laws (judges 0) log s (inl (omega arith)))

  ends_off : (from : ℕ) (l : Leader P) (f : Option Fate) → l.fate ≡ f → is_handed hands from l ≡ false → next_or_hand g start most None hands from l ≡ l → is_going f ≡ false
  ends_off from l (Some x) e h r = refl
  ends_off from l None e h r =
      let q : next_call g start most None l ≡ l = sym (next_unless g start most None hands from l h) ∙ r in
      let d = next_call_falls g laws start most None l e in
      let d' : lead_size g l < lead_size g l = subst (λ (x : Leader P). lead_size g x < lead_size g l) q d in
      absurd (omega arith)

  abbrev Both : Run P → Type 0
  Both m = Going m ⊎ Gone m

  module _ (m : Run P) (s : Going m) where
    abbrev l0 : Leader P
    l0 = record { process = s.at.process; log = m.log; fate = None }

    abbrev l : Leader P
    l = lead_to_hand g start most None hands (length m.log) l0

    tracked : tracked_by g judges start most free hands m.log 0 s.version ≡ s.at
    tracked = ap (λ (q : P). track g (judges 0) s.version.led m.log (fresh q)) s.process
        ∙ (track_from g laws (judges 0) s.version.led m.log (fresh p) s.at s.reach s.past ∙ stands m.log s.at s.seen)

    at_part : slice_get m.parts 0 ≡ Some s.version
    at_part = ap (λ (x : List (Part P)). slice_get x 0) s.parts

    turned : Turn m ≡ after_lead m 0 [] s.version s.at l (is_handed hands (length m.log) l)
    turned = led g judges start most free hands m 0 [] s.version s.over s.order at_part (ap (λ (y : Follower P). y.fate) tracked ∙ s.on)
        ∙ ap (λ (y : Follower P). after_lead m 0 [] s.version y (leads_on g judges start most free hands m.log 0 y)
        (is_handed hands (length m.log) (leads_on g judges start most free hands m.log 0 y))) tracked

    go : Reaches (next_call g start most None) first l
    go = reach_all (next_call g start most None) first l0 l s.copy (hand_leads g start most None hands (length m.log) l0)

    by : (b : Bool) → is_handed hands (length m.log) l ≡ b → Both (after_lead m 0 [] s.version s.at l b)
    by true h =
        let d = handed_at hands (length m.log) l h in
        let r = hand_leads g start most None hands (length m.log) l0 in
        let grew = hand_grows g start most None hands (length m.log) l0 in
        let v : Part P = record s.version { led = s.version.led ++ (length m.log, length l.log) ∷ []; told = None } in
        inl (record {
          version = v;
          parts = ap (λ (x : List (Part P)). set x 0 v) s.parts;
          process = s.process;
          order = refl;
          over = refl;
          at = beside s.at.rewrites l;
          reach = hands_over g (judges 0) start most None s.version.led m.log p s.at r.steps l s.reach s.seen s.on r.is d.on;
          past = span_end s.version.led s.at.seen (length m.log) (length l.log) s.past (omega (arith, s.seen, ap length grew.1, length-append m.log grew.0));
          seen = refl;
          on = refl;
          copy = subst (λ (x : Option Fate). Reaches (next_call g start most None) first (record { process = l.process; log = l.log; fate = x })) d.on go;
        })
    by false h = inr (record {
      leader = l;
      reach = go;
      log = refl;
      off = ends_off (length m.log) l l.fate refl h (hand_rests g start most None hands (length m.log) laws l0);
      order = refl;
    })

    goes_next : Both (Turn m)
    goes_next = subst Both (sym turned) (by (is_handed hands (length m.log) l) refl)

    -- it doesn't rest
    moves : Turn m ≡ m → ⊥
    moves e =
        let f = after_falls g judges start most free hands m 0 [] s.version s.at l (is_handed hands (length m.log) l) refl (grows g judges start most free hands m.log 0 s.at) in
        let f' : turns_left hands m < 1 + count_above hands (length m.log) = subst (λ (x : Run P). turns_left hands x < 1 + count_above hands (length m.log)) (sym turned ∙ e) f in
        omega (arith, ap length s.order)

  turn_both : (m : Run P) → Both m → Both (Turn m)
  turn_both m (inl s) = goes_next m s
  turn_both m (inr s) = subst Both (sym (empty_rests g judges start most free hands m s.order)) (inr s)

  stage_both : (k : ℕ) (m : Run P) → Both m → Both (stage (turn g judges start most free hands) k m)
  unfolding stage
  stage_both zero m s = s
  stage_both (suc k) m s = stage_both k (Turn m) (turn_both m s)

  begin_both : Both (begun (p ∷ []))
  begin_both = inl (record {
    version = part p;
    parts = refl;
    process = refl;
    order = refl;
    over = refl;
    at = fresh p;
    reach = reach_here (track_next g (judges 0) [] []) (fresh p);
    past = record { each = λ i x h. cc };
    seen = refl;
    on = refl;
    copy = reach_here (next_call g start most None) first;
  })

  done : (m : Run P) → Both m → Turn m ≡ m → m.log ≡ (lead g start most None first).log
  done m (inl s) e = absurd (moves m s e)
  done m (inr s) e = sym s.log ∙ ap (λ (y : Leader P). y.log) (lead_is g laws start most None first s.leader s.reach s.off)

  pub one_leads : (sequence g judges start most free hands (p ∷ [])).log ≡ (lead g start most None first).log
  unfolding sequence
  one_leads =
      let k : ℕ = 1 + length hands in
      let m = stage (turn g judges start most free hands) k (begun (p ∷ [])) in
      let r : Turn m ≡ m = at_rest (turn g judges start most free hands) (turns_left hands) (turn_falls g judges start most free hands) k (begun (p ∷ [])) (few_at_first g judges start most free hands (p ∷ [])) in
      done m (stage_both k (begun (p ∷ [])) begin_both) r
