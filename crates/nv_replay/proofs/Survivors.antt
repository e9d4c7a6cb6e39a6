-- The survivor's clause with planned changes of the leader, over the definitions.
use Rattle.std.proofs.Common.{◌≡◌, ◌∙◌, sym, ap, subst, refl, inl, inr, arith, length-append}
use Rattle.std.specs.Prelude.{ℕ, zero, suc, ◌+◌, Bool, true, false, List, [], ◌∷◌, ◌++◌, length, take, map, Option, Some, None, slice_get, ◌==◌}
use Rattle.std.proofs.lemmas.Option.{same_Some}
use Rattle.nv_calls.specs.Calls.{Entry}
use Rattle.nv_calls.specs.Logs.{Start}
use Rattle.nv_threads.specs.Behaviours.{Behaviour, IsProcess, IsStarted}
use Rattle.nv_replay.specs.declared.fate.Fate.{Fate}
use Rattle.nv_replay.specs.declared.standing.Standing.{Standing}
use Rattle.nv_replay.specs.Settling.{stage}
use Rattle.nv_replay.specs.Follow.{Follower, Judge, follow, fresh, IsInStep, is_exited}
use Rattle.nv_replay.specs.Lead.{Leader, lead, next_call, is_memory}
use Rattle.nv_replay.specs.Tracks.{track, track_next}
use Rattle.nv_calls.specs.Hands.{has}
use Rattle.nv_replay.specs.Hands.{is_handed, lead_to_hand}
use Rattle.nv_replay.specs.Monitor.{Part, Run, part, begun, led_line, after_lead, tracked_by, leads_on, turn, told_standing, lines_of, sequence}
use Rattle.nv_replay.proofs.Settled.{Reaches, reach_here}
use Rattle.nv_replay.proofs.Wholly.{lead_is}
use Rattle.nv_replay.proofs.Extending.{follow_reached, in_step_on, reach_all, take_prefix_of}
use Rattle.nv_replay.proofs.Surviving.{IsTrueTo, copied}
use Rattle.nv_replay.proofs.Turning.{take_all}
use Rattle.nv_replay.proofs.Numbers.{set_cases, distinct_numbers, IsDistinct, has_here, has_after, has_either, distinct_last, eq_self, handed_at}
use Rattle.nv_replay.proofs.Tracking.{track_extended, track_from, stage_after, followed_seen}
use Rattle.nv_replay.proofs.LettingGo.{goes_on, exited_whole}
use Rattle.nv_replay.proofs.Handing.{hands_over}
use Rattle.nv_replay.proofs.Stretches.{hand_leads, hand_grows}
use Rattle.nv_replay.proofs.Spanning.{span_end}
use Rattle.nv_replay.proofs.Covering.{turn_keeps, stage_keeps}
use Rattle.nv_replay.proofs.Survivor.{uncut_reach, exited_no_memory, exited_is_well, exited_well, exited_all, fresh_in_step}
use Rattle.nv_replay.proofs.Lone.{IsPlain, plain_prefix, follower, leads_so, beginning, Trace, Whole, wholly}
use Rattle.nv_replay.proofs.Retracing.{beside}

none_no_memory : (f : Option Fate) → f ≡ None → is_memory f ≡ false
none_no_memory None h = refl
none_no_memory (Some x) h = cc

module _ {P : Type 0} (g : Behaviour P) (laws : IsProcess g) (start : Start) (most : ℕ) where
  -- the log has become longer
  trace_on : (judge : Judge) (log more : List Entry) (led : List (ℕ × ℕ)) (p : P) → Trace g laws judge start most log led p → Trace g laws judge start most (log ++ more) led p
  trace_on judge log more led p t = record {
    at = t.at;
    reach = (let r = t.reach in track_extended g judge led log more r.steps (fresh p) t.at r.is);
    past = t.past;
    in_step = in_step_on g log more t.at t.in_step;
    on = t.on;
    copy = λ z. subst (λ (x : List Entry). Reaches (next_call g start most None) (beginning g laws judge start most log p) (record { process = t.at.process; log = x; fate = None }))
        (sym (take_prefix_of log more t.at.seen t.in_step.within)) (t.copy z);
    alone = t.alone;
  }

  -- it has followed the log, and leads from there
  module _ (judge : Judge) (log : List Entry) (led : List (ℕ × ℕ)) (p : P) (cut : Option ℕ) (hands : List ℕ) (pl : IsPlain start most log) (t : Trace g laws judge start most log led p)
      (n : (follow g judge log t.at).fate ≡ None) where
    abbrev f : Follower P
    f = follow g judge log t.at

    abbrev l0 : Leader P
    l0 = record { process = f.process; log = log; fate = None }

    abbrev l : Leader P
    l = lead_to_hand g start most cut hands (length log) l0

    abbrev w : Whole g laws judge start most log p f
    w = wholly g laws judge start most log led p pl t

    seen : f.seen ≡ length log
    seen = followed_seen g laws judge log t.at t.in_step.within n

    to_f : Reaches (track_next g judge led log) (fresh p) f
    to_f =
        let r = follow_reached g laws judge log [] t.at in
        reach_all (track_next g judge led log) (fresh p) t.at f t.reach (stage_after g judge led log r.steps t.at f t.past r.is)

    is_copy : copied g laws judge start most log f ≡ l0
    is_copy = λ j. record { process = f.process; log = (ap (λ (k : ℕ). take k log) seen ∙ take_all log) j; fate = n j }

    true_to : f.rewrites ≡ 0 → IsTrueTo f
    true_to z = record { rewrites = z; well = rw n refl }

    -- as it would have done alone
    pub so_far : f.rewrites ≡ 0 → is_memory l.fate ≡ false → Reaches (next_call g start most None) (beginning g laws judge start most log p) l
    so_far z m =
        let a = subst (λ (x : Leader P). Reaches (next_call g start most None) (beginning g laws judge start most log p) x) is_copy (w.copy (true_to z)) in
        let r = hand_leads g start most cut hands (length log) l0 in
        reach_all (next_call g start most None) (beginning g laws judge start most log p) l0 l a (uncut_reach g laws start most cut r.steps l0 l r.is m)

    pub handed_trace : IsPlain start most l.log → l.fate ≡ None → (b : ℕ) → Trace g laws judge start most l.log (led ++ (length log, length l.log) ∷ []) p
    handed_trace pl o b =
        let r = hand_leads g start most cut hands (length log) l0 in
        let more = hand_grows g start most cut hands (length log) l0 in
        let st0 : IsInStep g log (follower g laws start most l0 f.rewrites) = subst (λ (x : Follower P). IsInStep g log x)
        (λ j. record { process = f.process; seen = seen j; rewrites = f.rewrites; fate = n j }) w.in_step in
        let k = leads_so g laws start most cut r.steps l0 l f.rewrites r.is o pl.lawful pl.childless (record { in_step = st0; alone = λ z. w.alone (true_to z) }) in record {
          at = beside f.rewrites l;
          reach = hands_over g judge start most cut led log p f r.steps l to_f seen n r.is o;
          past = span_end led t.at.seen (length log) (length l.log) t.past
              (omega (arith, t.in_step.within, ap length more.1, length-append log more.0));
          in_step = subst (λ (x : Option Fate). IsInStep g l.log (record { process = l.process; seen = length l.log; rewrites = f.rewrites; fate = x })) o k.in_step;
          on = refl;
          copy = λ z. subst (λ (x : Leader P). Reaches (next_call g start most None) (beginning g laws judge start most log p) x)
              (λ j. record { process = l.process; log = sym (take_all l.log) j; fate = o j }) (so_far z (none_no_memory l.fate o));
          alone = λ z. k.alone z;
        }

    pub ended_alone : is_exited l.fate ≡ true → f.rewrites ≡ 0 → (lead g start most None (beginning g laws judge start most log p)).log ≡ l.log
    ended_alone x z = ap (λ (y : Leader P). y.log) (sym (lead_is g laws start most None (beginning g laws judge start most log p) l (so_far z (exited_no_memory l.fate x)) (exited_well l.fate x)))

module _ {P : Type 0} (g : Behaviour P) (laws : IsProcess g) (judges : ℕ → Judge) (start : Start) (most : ℕ) (cuts : ℕ → Option ℕ) (hands : List ℕ) where
  abbrev alone_log : P → List Entry
  alone_log p = (lead g start most None (record { process = p; log = []; fate = None })).log

  abbrev T : ℕ → List Entry → Part P → Type 0
  T k log v = Trace g laws (judges k) start most log v.led v.process

  pub record Inv (m : Run P) : Type 0 where
    pub distinct : IsDistinct m.order
    pub untold : (k : ℕ) (v : Part P) → slice_get m.parts k ≡ Some v → has m.order k ≡ true → v.told ≡ None
    pub trace : IsPlain start most m.log → (k : ℕ) (v : Part P) → slice_get m.parts k ≡ Some v → IsStarted g v.process → v.told ≡ None → T k m.log v
    pub told : IsPlain start most m.log → (k : ℕ) (v : Part P) (line : Standing) → slice_get m.parts k ≡ Some v → IsStarted g v.process → v.told ≡ Some line
        → is_exited line.fate ≡ true → (m.over ≡ true) × (line.rewrites ≡ 0 → alone_log v.process ≡ m.log)

  shorter : (m : Run P) (i : ℕ) (order : List ℕ) → m.order ≡ i ∷ order → Inv m → Inv (record m { order = order })
  shorter m i order e s = record {
    distinct = (subst IsDistinct e s.distinct).1;
    untold = λ k v h o. s.untold k v h (subst (λ (x : List ℕ). has x k ≡ true) (sym e) (has_after i k order o));
    trace = s.trace;
    told = s.told;
  }

  after_inv : (m : Run P) (i : ℕ) (order : List ℕ) (v : Part P) (f : Follower P) (l : Leader P) (more : List Entry) (b : Bool) → Inv m → m.over ≡ false → m.order ≡ i ∷ order
      → slice_get m.parts i ≡ Some v → l.log ≡ m.log ++ more
      → (b ≡ true → IsPlain start most l.log → IsStarted g v.process → T i l.log (record v { led = v.led ++ (length m.log, length l.log) ∷ [] }))
      → (IsPlain start most l.log → IsStarted g v.process → is_exited l.fate ≡ true → f.rewrites ≡ 0 → alone_log v.process ≡ l.log)
      → Inv (after_lead m i order v f l b)
  after_inv m i order v f l more true s ov e h lg tr en =
      let d = subst IsDistinct e s.distinct in
      let plain = λ (pl : IsPlain start most l.log). plain_prefix start most m.log more (subst (IsPlain start most) lg pl) in
      let w : Part P = record v { led = v.led ++ (length m.log, length l.log) ∷ []; told = None } in record {
        distinct = distinct_last order i d.1 d.0;
        untold = λ k x q o. elim (set_cases m.parts i w k x q) [
          | inl (ik, y) ↦ ap (λ (u : Part P). u.told) (sym y)
          | inr (ik, y) ↦ elim (has_either order i k o) [
            | inl z ↦ s.untold k x y (subst (λ (r : List ℕ). has r k ≡ true) (sym e) (has_after i k order z))
            | inr z ↦ (let c : true ≡ false = sym (eq_self i) ∙ (ap (λ (j : ℕ). i == j) z ∙ ik) in cc)
          ]
        ];
        trace = λ pl k x q so n. elim (set_cases m.parts i w k x q) [
          | inl (ik, y) ↦ subst (λ (u : Part P). T k l.log u) y (subst (λ (j : ℕ). T j l.log w) ik (tr refl pl (subst (λ (u : Part P). IsStarted g u.process) (sym y) so)))
          | inr (ik, y) ↦ subst (λ (z : List Entry). T k z x) (sym lg) (trace_on g laws start most (judges k) m.log more x.led x.process (s.trace (plain pl) k x y so n))
        ];
        told = λ pl k x line q so n ex. elim (set_cases m.parts i w k x q) [
          | inl (ik, y) ↦ (let c : None ≡ Some line = ap (λ (u : Part P). u.told) y ∙ n in cc)
          | inr (ik, y) ↦ (let c : false ≡ true = sym ov ∙ (s.told (plain pl) k x line y so n ex).0 in cc)
        ];
      }
  after_inv m i order v f l more false s ov e h lg tr en =
      let d = subst IsDistinct e s.distinct in
      let plain = λ (pl : IsPlain start most l.log). plain_prefix start most m.log more (subst (IsPlain start most) lg pl) in
      let line0 : Standing = record { fate = l.fate; seen = length l.log; led = v.led ++ (length m.log, length l.log) ∷ []; rewrites = f.rewrites } in
      let w : Part P = record v { led = v.led ++ (length m.log, length l.log) ∷ []; told = Some line0 } in record {
        distinct = d.1;
        untold = λ k x q o. elim (set_cases m.parts i w k x q) [
          | inl (ik, y) ↦ (let c : true ≡ false = sym o ∙ (ap (has order) (sym ik) ∙ d.0) in cc)
          | inr (ik, y) ↦ s.untold k x y (subst (λ (r : List ℕ). has r k ≡ true) (sym e) (has_after i k order o))
        ];
        trace = λ pl k x q so n. elim (set_cases m.parts i w k x q) [
          | inl (ik, y) ↦ (let c : Some line0 ≡ None = ap (λ (u : Part P). u.told) y ∙ n in cc)
          | inr (ik, y) ↦ subst (λ (z : List Entry). T k z x) (sym lg) (trace_on g laws start most (judges k) m.log more x.led x.process (s.trace (plain pl) k x y so n))
        ];
        told = λ pl k x line q so n ex. elim (set_cases m.parts i w k x q) [
          | inl (ik, y) ↦
              let z : line0 ≡ line = same_Some line0 line (ap (λ (u : Part P). u.told) y ∙ n) in
              let ex0 : is_exited l.fate ≡ true = ap (λ (u : Standing). is_exited u.fate) z ∙ ex in
              (ex0, λ r. ap (λ (u : Part P). alone_log u.process) (sym y) ∙ en pl (subst (λ (u : Part P). IsStarted g u.process) (sym y) so) ex0 (ap (λ (u : Standing). u.rewrites) z ∙ r))
          | inr (ik, y) ↦ (let c : false ≡ true = sym ov ∙ (s.told (plain pl) k x line y so n ex).0 in cc)
        ];
      }

  -- the trace of a version that gives up the lead, and what one that exits did
  hands_trace : (i : ℕ) (log : List Entry) (v : Part P) → (tracked_by g judges start most cuts hands log i v).fate ≡ None
      → (t : T i log v) → tracked_by g judges start most cuts hands log i v ≡ follow g (judges i) log t.at
  hands_trace i log v n t = goes_on (cuts i) log (λ (x : List Entry). track g (judges i) v.led x (fresh v.process)) n
      ∙ track_from g laws (judges i) v.led log (fresh v.process) t.at t.reach t.past

  turn_inv : (m : Run P) → Inv m → Inv (turn g judges start most cuts hands m)
  turn_inv m s = turn_keeps g judges start most cuts hands (λ x. Inv x) m s (λ i order e. shorter m i order e s)
      (λ i order v ov e h n.
      let f = tracked_by g judges start most cuts hands m.log i v in
      let l = leads_on g judges start most cuts hands m.log i f in
      let k = hand_grows g start most (cuts i) hands (length m.log) (record { process = f.process; log = m.log; fate = None }) in
      let un : v.told ≡ None = s.untold i v h (subst (λ (x : List ℕ). has x i ≡ true) (sym e) (has_here i order)) in
      let plain = λ (pl : IsPlain start most l.log). plain_prefix start most m.log k.0 (subst (IsPlain start most) k.1 pl) in
      after_inv m i order v f l k.0 (is_handed hands (length m.log) l) s ov e h k.1
      (λ b pl so.
      let t = s.trace (plain pl) i v h so un in
      let fe = hands_trace i m.log v n t in
      let L : P → List Entry = λ q. (lead_to_hand g start most (cuts i) hands (length m.log) (record { process = q; log = m.log; fate = None })).log in
      let G : Follower P → Type 0 = λ y. IsPlain start most (leads_on g judges start most cuts hands m.log i y).log → (leads_on g judges start most cuts hands m.log i y).fate ≡ None
      → T i (leads_on g judges start most cuts hands m.log i y).log (record v { led = v.led ++ (length m.log, length (leads_on g judges start most cuts hands m.log i y).log) ∷ [] }) in
      let nf : (follow g (judges i) m.log t.at).fate ≡ None = ap (λ (y : Follower P). y.fate) (sym fe) ∙ n in
      let have : G (follow g (judges i) m.log t.at) = λ law o. handed_trace g laws start most (judges i) m.log v.led v.process (cuts i) hands (plain pl) t nf law o 0 in
      subst G (sym fe) have pl (handed_at hands (length m.log) l b).on)
      (λ pl so ex z.
      let t = s.trace (plain pl) i v h so un in
      let fe = hands_trace i m.log v n t in
      let nf : (follow g (judges i) m.log t.at).fate ≡ None = ap (λ (y : Follower P). y.fate) (sym fe) ∙ n in
      let G : Follower P → Type 0 = λ y. is_exited (leads_on g judges start most cuts hands m.log i y).fate ≡ true → y.rewrites ≡ 0
      → alone_log v.process ≡ (leads_on g judges start most cuts hands m.log i y).log in
      let have : G (follow g (judges i) m.log t.at) = λ x r. ended_alone g laws start most (judges i) m.log v.led v.process (cuts i) hands (plain pl) t nf x r in
      subst G (sym fe) have ex z))

  -- of each version the process that it was made of
  record Own (ps : List P) (m : Run P) : Type 0 where
    process : (k : ℕ) (v : Part P) → slice_get m.parts k ≡ Some v → slice_get ps k ≡ Some v.process

  after_own : (ps : List P) (m : Run P) (i : ℕ) (order : List ℕ) (v : Part P) (f : Follower P) (l : Leader P) (b : Bool) → Own ps m → slice_get m.parts i ≡ Some v → Own ps (after_lead m i order v f l b)
  after_own ps m i order v f l true s h = record {
    process = λ k x q. elim (set_cases m.parts i (record v { led = v.led ++ (length m.log, length l.log) ∷ []; told = None }) k x q) [
      | inl (e, y) ↦ ap (slice_get ps) (sym e) ∙ (s.process i v h ∙ ap (λ (u : Part P). Some u.process) y)
      | inr (e, y) ↦ s.process k x y
    ];
  }
  after_own ps m i order v f l false s h = record {
    process = λ k x q. elim (set_cases m.parts i (record v { led = v.led ++ (length m.log, length l.log) ∷ []; told = Some (led_line v f (length m.log) l) }) k x q) [
      | inl (e, y) ↦ ap (slice_get ps) (sym e) ∙ (s.process i v h ∙ ap (λ (u : Part P). Some u.process) y)
      | inr (e, y) ↦ s.process k x y
    ];
  }

  turn_own : (ps : List P) (m : Run P) → Own ps m → Own ps (turn g judges start most cuts hands m)
  turn_own ps m s = turn_keeps g judges start most cuts hands (λ x. Own ps x) m s (λ i order e. record { process = s.process })
      (λ i order v ov e h n.
      let f = tracked_by g judges start most cuts hands m.log i v in
      let l = leads_on g judges start most cuts hands m.log i f in
      after_own ps m i order v f l (is_handed hands (length m.log) l) s h)

  part_at : (ps : List P) (k : ℕ) (v : Part P) → slice_get (map part ps) k ≡ Some v → (part v.process ≡ v) × (slice_get ps k ≡ Some v.process)
  part_at [] k v h = cc
  part_at (q ∷ ps) zero v h = let e = same_Some (part q) v h in (subst (λ (x : Part P). part x.process ≡ x) e refl, ap (λ (x : Part P). Some x.process) e)
  part_at (q ∷ ps) (suc k) v h = part_at ps k v h

  begun_inv : (ps : List P) → Inv (begun ps)
  begun_inv ps = record {
    distinct = distinct_numbers 0 ps;
    untold = λ k v h o. ap (λ (x : Part P). x.told) (sym (part_at ps k v h).0);
    trace = λ pl k v h so n. subst (λ (x : Part P). T k [] x) (part_at ps k v h).0 (record {
      at = fresh v.process;
      reach = reach_here (track_next g (judges k) [] []) (fresh v.process);
      past = record { each = λ i x q. cc };
      in_step = fresh_in_step g laws start most [] v.process so;
      on = refl;
      copy = λ z. reach_here (next_call g start most None) (record { process = v.process; log = []; fate = None });
      alone = λ z. so.alone;
    });
    told = λ pl k v line h so n ex. let c : None ≡ Some line = ap (λ (x : Part P). x.told) (part_at ps k v h).0 ∙ n in cc;
  }

  lines_at : (log : List Entry) (i : ℕ) (vs : List (Part P)) (k : ℕ) (line : Standing) → slice_get (lines_of g judges start most cuts hands log i vs) k ≡ Some line
      → (v : Part P) × (slice_get vs k ≡ Some v) × (told_standing g judges start most cuts hands log (i + k) v v.told ≡ line)
  lines_at log i [] k line h = cc
  lines_at log i (v ∷ vs) zero line h = let n : i ≡ i + 0 = omega arith in
      (v, refl, ap (λ (x : ℕ). told_standing g judges start most cuts hands log x v v.told) (sym n) ∙ same_Some (told_standing g judges start most cuts hands log i v v.told) line h)
  lines_at log i (v ∷ vs) (suc k) line h =
      let r = lines_at log (i + 1) vs k line h in
      let n : i + 1 + k ≡ i + suc k = omega arith in
      (r.0, r.1, ap (λ (x : ℕ). told_standing g judges start most cuts hands log x r.0 r.0.told) (sym n) ∙ r.2)

  exited_line : (m : Run P) (k : ℕ) (v : Part P) (line : Standing) (o : Option Standing) → Inv m → IsPlain start most m.log → slice_get m.parts k ≡ Some v → IsStarted g v.process
      → v.told ≡ o → told_standing g judges start most cuts hands m.log k v o ≡ line → is_exited line.fate ≡ true → line.rewrites ≡ 0 → alone_log v.process ≡ m.log
  exited_line m k v line (Some l) s pl h so e q ex z =
      (s.told pl k v line h so (e ∙ ap Some q) ex).1 z
  exited_line m k v line None s pl h so e q ex z =
      let t = s.trace pl k v h so e in
      let f = follow g (judges k) m.log t.at in
      let te : tracked_by g judges start most cuts hands m.log k v ≡ f = exited_whole g laws (judges k) v.led v.process (cuts k) m.log (ap (λ (y : Standing). is_exited y.fate) q ∙ ex)
      ∙ track_from g laws (judges k) v.led m.log (fresh v.process) t.at t.reach t.past in
      let xf : is_exited f.fate ≡ true = ap (λ (y : Follower P). is_exited y.fate) (sym te) ∙ (ap (λ (y : Standing). is_exited y.fate) q ∙ ex) in
      let zf : f.rewrites ≡ 0 = ap (λ (y : Follower P). y.rewrites) (sym te) ∙ (ap (λ (y : Standing). y.rewrites) q ∙ z) in
      let w = wholly g laws (judges k) start most m.log v.led v.process pl t in
      let go = w.copy (record { rewrites = zf; well = exited_is_well f.fate xf }) in
      let r = lead_is g laws start most None (record { process = v.process; log = []; fate = None }) (copied g laws (judges k) start most m.log f) go (exited_well f.fate xf) in
      ap (λ (y : Leader P). y.log) (sym r) ∙ (ap (λ (n : ℕ). take n m.log) (exited_all g laws (judges k) start most m.log f pl.lawful w.in_step xf) ∙ take_all m.log)

  -- who exited without a rewrite did what it would do alone, without planned lengths
  pub survives : (ps : List P) (k : ℕ) (p : P) (line : Standing) → slice_get ps k ≡ Some p → IsStarted g p → IsPlain start most (sequence g judges start most cuts hands ps).log
      → slice_get (sequence g judges start most cuts hands ps).lines k ≡ Some line → is_exited line.fate ≡ true → line.rewrites ≡ 0
      → alone_log p ≡ (sequence g judges start most cuts hands ps).log
  unfolding sequence
  survives ps k p line h so pl at ex z =
      let m = stage (turn g judges start most cuts hands) (length ps + length hands) (begun ps) in
      let s : Inv m = stage_keeps g judges start most cuts hands (λ x. Inv x) turn_inv (length ps + length hands) (begun ps) (begun_inv ps) in
      let o : Own ps m = stage_keeps g judges start most cuts hands (λ x. Own ps x) (turn_own ps) (length ps + length hands) (begun ps) (record { process = λ j v q. (part_at ps j v q).1 }) in
      let r = lines_at m.log 0 m.parts k line at in
      let n : 0 + k ≡ k = omega arith in
      let pp : p ≡ r.0.process = same_Some p r.0.process (sym h ∙ o.process k r.0 r.1) in
      ap alone_log pp ∙ exited_line m k r.0 line r.0.told s pl r.1 (subst (λ (x : P). IsStarted g x) pp so) refl
      (ap (λ (x : ℕ). told_standing g judges start most cuts hands m.log x r.0 r.0.told) (sym n) ∙ r.2) ex z
