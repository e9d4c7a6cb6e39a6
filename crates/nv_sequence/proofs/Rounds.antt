-- A run, turn by turn: how the versions stand to the log, and where the definition has come to.
use Rattle.std.proofs.Common.{◌≡◌, ◌∙◌, sym, ap, subst, refl, ℕ, zero, suc, ◌+◌, ◌≤◌, Bool, true, false, List, [], ◌∷◌, ◌++◌, length, set, Option, Some, None, arith, length-append}
use Rattle.std.specs.Prelude.{slice_get, not}
use Rattle.nv_calls.specs.Calls.{Entry}
use Rattle.nv_calls.specs.Logs.{Start}
use Rattle.nv_threads.specs.Behaviours.{Behaviour, IsProcess}
use Rattle.nv_replay.specs.declared.fate.Fate.{Fate}
use Rattle.nv_replay.specs.declared.standing.Standing.{Standing}
use Rattle.nv_replay.specs.Spans.{EndBy}
use Rattle.nv_replay.specs.Follow.{Follower, Judge, fresh, follow, IsInStep}
use Rattle.nv_replay.specs.Lead.{Leader, cut_of, next_call}
use Rattle.nv_replay.specs.Tracks.{track, track_next}
use Rattle.nv_replay.specs.Hands.{count_above, is_handed, lead_to_hand}
use Rattle.nv_replay.specs.Sequence.{is_going}
use Rattle.nv_replay.specs.LettingGo.{is_let_go, stop_of, front, let_go}
use Rattle.nv_replay.specs.Monitor.{Part, Run, after_lead, tracked_by, leads_on, turn}
use Rattle.nv_replay.specs.Version.{Running, leader_of, standing_of}
use Rattle.nv_replay.proofs.Settled.{Reaches}
use Rattle.nv_replay.proofs.Extending.{follow_reached, in_step_on, reach_all}
use Rattle.nv_replay.specs.Turns.{Suits}
use Rattle.nv_sequence.specs.Passing.{HasLed, given_up}
use Rattle.nv_replay.specs.Account as accounts
use Rattle.nv_replay.proofs.Numbers.{above_later, above_less, handed_at}
use Rattle.nv_replay.proofs.Tracking.{track_extended, track_from, stage_after, ends_later, followed_seen, follow_more}
use Rattle.nv_replay.proofs.Stretches.{hand_leads, hand_grows}
use Rattle.nv_replay.proofs.Handing.{hands_over}
use Rattle.nv_replay.proofs.LettingGo.{uncut}
use Rattle.nv_replay.proofs.Stops.{stop_same, tells_stays, lead_stays, track_tells}
use Rattle.nv_replay.proofs.Rotating.{led}
use Rattle.nv_replay.proofs.Spanning.{span_end}
use Rattle.nv_replay.proofs.Fates.{off_some}
use Rattle.nv_replay.proofs.Wholly.{suits_end}

abbrev pub told_by : {P : Type 0} → Running P → Bool → Option Standing
told_by v true = Some (standing_of v)
told_by v false = None

-- a version between two turns, which was made of this process
abbrev pub part_of : {P : Type 0} → P → Running P → Part P
part_of p v = record { process = p; led = v.led; told = told_by v v.leading }

abbrev pub parts_of : {P : Type 0} → List P → List (Running P) → List (Part P)
parts_of [] vs = []
parts_of (p ∷ ps) [] = []
parts_of (p ∷ ps) (v ∷ vs) = part_of p v ∷ parts_of ps vs

abbrev pub run_of : {P : Type 0} → List P → List (Running P) → List ℕ → List Entry → Bool → Run P
run_of ps vs order log over = record { log = log; over = over; order = order; parts = parts_of ps vs }

pub parts_at : {P : Type 0} (ps : List P) (vs : List (Running P)) (i : ℕ) (p : P) (v : Running P) → slice_get ps i ≡ Some p → slice_get vs i ≡ Some v
    → slice_get (parts_of ps vs) i ≡ Some (part_of p v)
parts_at [] vs i p v h k = cc
parts_at (q ∷ ps) [] i p v h k = cc
parts_at (q ∷ ps) (w ∷ vs) zero p v h k =
    let e : q ≡ p = cc in
    let d : w ≡ v = cc in λ j. Some (part_of (e j) (d j))
parts_at (q ∷ ps) (w ∷ vs) (suc i) p v h k = parts_at ps vs i p v h k

pub parts_set : {P : Type 0} (ps : List P) (vs : List (Running P)) (i : ℕ) (p : P) (w : Running P) → slice_get ps i ≡ Some p
    → parts_of ps (set vs i w) ≡ set (parts_of ps vs) i (part_of p w)
parts_set [] vs i p w h = cc
parts_set (q ∷ ps) [] i p w h = refl
parts_set (q ∷ ps) (v ∷ vs) zero p w h = let e : q ≡ p = cc in ap (λ x. part_of x w ∷ parts_of ps vs) e
parts_set (q ∷ ps) (v ∷ vs) (suc i) p w h = ap (λ l. part_of q v ∷ l) (parts_set ps vs i p w h)

module _ {P : Type 0} (g : Behaviour P) (hands : List ℕ) where
  -- how a version stands to the log between two turns
  pub record Stands (judge : Judge) (k : ℕ) (p : P) (v : Running P) (log : List Entry) : Type 0 where
    pub index : v.index ≡ k
    pub asked : v.leading ≡ false → v.asked ≡ None
    pub ended : v.leading ≡ true → is_going v.at.fate ≡ false
    -- a leader is never let go
    pub stays : v.leading ≡ true → is_let_go v.at.fate ≡ false
    pub reach : v.leading ≡ false → Reaches (track_next g judge v.led log) (fresh p) v.at
    pub past : EndBy v.at.seen v.led
    pub in_step : IsInStep g log v.at
    pub few : v.leading ≡ false → length v.led + count_above hands (length log) ≤ length hands

  -- the log has become longer
  pub stands_on : (judge : Judge) (k : ℕ) (p : P) (v : Running P) (log more : List Entry) → Stands judge k p v log → Stands judge k p v (log ++ more)
  stands_on judge k p v log more s = record {
    index = s.index;
    asked = s.asked;
    ended = s.ended;
    stays = s.stays;
    reach = λ h. let r = s.reach h in track_extended g judge v.led log more r.steps (fresh p) v.at r.is;
    past = s.past;
    in_step = in_step_on g log more v.at s.in_step;
    few = λ h. let f = s.few h in omega (arith, above_later hands (length log) (length (log ++ more)) (omega (arith, length-append log more)));
  }

module _ {P : Type 0} (g : Behaviour P) (laws : IsProcess g) (judge : Judge) (start : Start) (most : ℕ) (hands : List ℕ) (k : ℕ) (p : P) (v w : Running P)
    (log new_log : List Entry) (s : Stands g hands judge k p v log) (idle : v.leading ≡ false) where
  abbrev f : Follower P
  f = follow g judge log v.at

  abbrev u : Running P
  u = record v { at = f }

  follows : Reaches (track_next g judge v.led log) (fresh p) f
  follows =
      let r = follow_reached g laws judge log [] v.at in
      reach_all (track_next g judge v.led log) (fresh p) v.at f (s.reach idle) (stage_after g judge v.led log r.steps v.at f s.past r.is)

  more_seen : v.at.seen ≤ f.seen
  more_seen = follow_more g laws judge log v.at

  pub tracks : track g judge v.led log (fresh p) ≡ f
  tracks = track_from g laws judge v.led log (fresh p) v.at (s.reach idle) s.past

  -- at a cut that isn't within the log
  pub tracks_whole : (c : Option ℕ) → ((n : ℕ) → c ≡ Some n → length log ≤ n) → let_go c log (track g judge v.led (front c log) (fresh p)) ≡ f
  tracks_whole c h = uncut c log (λ (l : List Entry). track g judge v.led l (fresh p)) h ∙ tracks

  -- as a follower it tells no cut
  pub tells : (n : ℕ) → stop_of f.fate n ≡ None
  tells n = ap (λ (x : Follower P). stop_of x.fate n) (sym follows.is) ∙ track_tells g judge n v.led log follows.steps (fresh p) refl

  pub follower_stays : is_let_go f.fate ≡ false
  follower_stays = tells_stays f.fate 0 (tells 0)

  pub no_cut : (n : ℕ) → cut_of f.fate n ≡ None
  no_cut n = sym (stop_same f.fate n follower_stays) ∙ tells n

  -- it has ended as a follower
  pub passed : w ≡ u → new_log ≡ log → IsInStep g log w.at → Stands g hands judge k p w new_log
  passed e l i =
      let W : Running P → List Entry → Type 0 = λ x y. Stands g hands judge k p x y in
      let i' : IsInStep g log f = subst (λ (x : Running P). IsInStep g log x.at) e i in
      let t : W u log = record {
        index = s.index;
        asked = s.asked;
        ended = λ h. let z : false ≡ true = sym idle ∙ h in cc;
        stays = λ h. let z : false ≡ true = sym idle ∙ h in cc;
        reach = λ h. follows;
        past = ends_later v.led v.at.seen f.seen s.past more_seen;
        in_step = i';
        few = s.few;
      } in
      subst (λ (x : Running P). W x new_log) (sym e) (subst (λ (y : List Entry). W u y) (sym l) t)

  -- what is known once it has led
  pub record Led (e : Running P) : Type 0 where
    pub seen : f.seen ≡ length log
    pub led : e.led ≡ v.led ++ (length log, length new_log) ∷ []
    pub rewrites : e.at.rewrites ≡ f.rewrites
    pub whole : (c : Option ℕ) → Suits c e.at.fate (length new_log)
        → leader_of e new_log ≡ lead_to_hand g start most c hands (length log) (record { process = f.process; log = log; fate = None })
    pub more : List Entry
    pub longer : new_log ≡ log ++ more

  suits_own : (o : Option Fate) (n : ℕ) → (c : Option ℕ) × Suits c o n
  suits_own o n = (cut_of o n, suits_end o n)

  pub has_led : (e : Running P) → f.fate ≡ None → HasLed g start most hands (accounts.with_span u (length log)) e log new_log → Led e
  has_led e n d =
      let seen : f.seen ≡ length log = followed_seen g laws judge log v.at s.in_step.within n in
      let l0 : leader_of (accounts.with_span u (length log)) log ≡ record { process = f.process; log = log; fate = None } = ap
      (λ (x : Option Fate). record { process = f.process; log = log; fate = x }) n in
      let whole = λ (c : Option ℕ) (h : Suits c e.at.fate (length new_log)). d.whole c h ∙ ap (lead_to_hand g start most c hands (length log)) l0 in
      let c = suits_own e.at.fate (length new_log) in
      let m = hand_grows g start most c.0 hands (length log) (record { process = f.process; log = log; fate = None }) in
      let span = d.on.span v.led (length log) (ap (λ (x : ℕ). v.led ++ (length log, x) ∷ []) (sym seen)) in record {
        seen = seen;
        led = span ∙ ap (λ (x : ℕ). v.led ++ (length log, x) ∷ []) d.on.seen;
        rewrites = d.on.rewrites;
        whole = whole;
        more = m.0;
        longer = ap (λ (x : Leader P). x.log) (whole c.0 c.1) ∙ m.1;
      }

  long : (e : Running P) → Led e → length log ≤ length new_log
  long e d = omega (arith, ap length d.longer, length-append log d.more)

  ends_at : (e : Running P) → Led e → e.at.seen ≡ length new_log → EndBy e.at.seen e.led
  ends_at e d n =
      let a : v.at.seen ≤ length new_log = omega (arith, more_seen, d.seen, long e d) in
      let b : EndBy (length new_log) (v.led ++ (length log, length new_log) ∷ []) = span_end v.led v.at.seen (length log) (length new_log) s.past a in
      subst (λ (x : ℕ). EndBy x e.led) (sym n) (subst (λ (x : List (ℕ × ℕ)). EndBy (length new_log) x) (sym d.led) b)

  hand_stays : (c : Option ℕ) (l : Leader P) → is_let_go l.fate ≡ false → is_let_go (lead_to_hand g start most c hands (length log) l).fate ≡ false
  unfolding lead_to_hand
  hand_stays c l h = lead_stays g start most c hands (length log) (g.calls_left l.process + 1) l h

  leader_stays : (e : Running P) → Led e → is_let_go e.at.fate ≡ false
  leader_stays e d =
      let c = suits_own e.at.fate (length new_log) in
      ap (λ (x : Leader P). is_let_go x.fate) (d.whole c.0 c.1) ∙ hand_stays c.0 (record { process = f.process; log = log; fate = None }) refl

  -- it has ended as the leader
  pub ended_leader : (e : Running P) → Led e → HasLed g start most hands (accounts.with_span u (length log)) e log new_log → is_going e.at.fate ≡ false
      → Stands g hands judge k p (given_up e) new_log
  ended_leader e d h o =
      let yes_leading : not (is_going e.at.fate) ≡ true = ap not o in record {
        index = h.on.index ∙ s.index;
        asked = λ z. let y : true ≡ false = sym yes_leading ∙ z in cc;
        ended = λ z. o;
        stays = λ z. leader_stays e d;
        reach = λ z. let y : true ≡ false = sym yes_leading ∙ z in cc;
        past = ends_at e d h.on.seen;
        in_step = h.on.in_step;
        few = λ z. let y : true ≡ false = sym yes_leading ∙ z in cc;
      }

  -- it has given up the lead
  pub handed_over : (e : Running P) → f.fate ≡ None → Led e → HasLed g start most hands (accounts.with_span u (length log)) e log new_log → e.at.fate ≡ None
      → Stands g hands judge k p (given_up e) new_log
  handed_over e n d h o =
      let free : Suits None e.at.fate (length new_log) = record { below = λ j l. refl; end = λ z. absurd (off_some e.at.fate z o) } in
      let l0 : Leader P = record { process = f.process; log = log; fate = None } in
      let r : Reaches (next_call g start most None) l0 (leader_of e new_log) = subst (λ (x : Leader P). Reaches (next_call g start most None) l0 x) (sym (d.whole None free))
      (hand_leads g start most None hands (length log) l0) in
      let a = hands_over g judge start most None v.led log p f r.steps (leader_of e new_log) follows d.seen n r.is o in
      let at : record { process = e.at.process; seen = length new_log; rewrites = f.rewrites; fate = None } ≡ e.at = λ j. record
      { process = e.at.process; seen = sym h.on.seen j; rewrites = sym d.rewrites j; fate = sym o j } in
      let b = subst (λ (x : Follower P). Reaches (track_next g judge (v.led ++ (length log, length new_log) ∷ []) new_log) (fresh p) x) at a in
      let hd = handed_at hands (length log) (leader_of e new_log) (h.handed ∙ ap is_going o) in record {
        index = h.on.index ∙ s.index;
        asked = λ z. h.on.asked o;
        ended = λ z. let y : false ≡ true = sym (ap (λ (x : Option Fate). not (is_going x)) o) ∙ z in cc;
        stays = λ z. leader_stays e d;
        reach = λ z. subst (λ (x : List (ℕ × ℕ)). Reaches (track_next g judge x new_log) (fresh p) e.at) (sym d.led) b;
        past = ends_at e d h.on.seen;
        in_step = h.on.in_step;
        few = λ z.
            let q = s.few idle in
            omega (arith, ap length d.led, length-append v.led ((length log, length new_log) ∷ []), above_less hands (length log) (length new_log) hd.grew hd.planned);
      }

-- the turn of the definition, where the version goes on over the log
pub turn_led : {P : Type 0} (g : Behaviour P) (judges : ℕ → Judge) (start : Start) (most : ℕ) (cuts : ℕ → Option ℕ) (hands : List ℕ) (ps : List P) (vs : List (Running P))
    (i : ℕ) (order : List ℕ) (log : List Entry) (p : P) (v : Running P) → slice_get vs i ≡ Some v → slice_get ps i ≡ Some p
    → (f : Follower P) → tracked_by g judges start most cuts hands log i (part_of p v) ≡ f → f.fate ≡ None
    → turn g judges start most cuts hands (run_of ps vs (i ∷ order) log false)
    ≡ after_lead (run_of ps vs (i ∷ order) log false) i order (part_of p v) f (leads_on g judges start most cuts hands log i f)
    (is_handed hands (length log) (leads_on g judges start most cuts hands log i f))
turn_led {P = P} g judges start most cuts hands ps vs i order log p v h hp f t n =
    let m : Run P = run_of ps vs (i ∷ order) log false in
    led g judges start most cuts hands m i order (part_of p v) refl refl (parts_at ps vs i p v hp h) (ap (λ (y : Follower P). y.fate) t ∙ n)
    ∙ ap (λ (y : Follower P). after_lead m i order (part_of p v) y (leads_on g judges start most cuts hands log i y) (is_handed hands (length log) (leads_on g judges start most cuts hands log i y))) t
