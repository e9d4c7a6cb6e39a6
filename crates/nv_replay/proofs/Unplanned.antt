-- Without planned lengths the run is that of versions of which each leads at most once.
use Rattle.std.proofs.Common.{◌≡◌, ◌∙◌, sym, ap, subst, refl, append_assoc, length-append}
use Rattle.std.specs.Prelude.{ℕ, ◌+◌, Bool, true, false, List, [], ◌∷◌, ◌++◌, length, map, Option, Some, None}
use Rattle.nv_calls.specs.Calls.{Entry}
use Rattle.nv_calls.specs.Logs.{Start}
use Rattle.nv_threads.specs.Behaviours.{Behaviour, IsProcess}
use Rattle.nv_replay.specs.declared.fate.Fate.{Fate}
use Rattle.nv_replay.specs.declared.standing.Standing.{Standing}
use Rattle.nv_replay.specs.Follow.{Follower, Judge, fresh, follow_next, follow, is_exited}
use Rattle.nv_replay.specs.Lead.{Leader, lead}
use Rattle.nv_replay.specs.Sequence.{Account, leads, is_going, follower_line, leader_line, sequence_from}
use Rattle.nv_replay.specs.Sequence as plain
use Rattle.nv_replay.proofs.Settled.{Reaches, reach_here, reach_first}
use Rattle.nv_replay.specs.Tracks.{track, track_next}
use Rattle.nv_replay.specs.Hands.{is_handed}
use Rattle.nv_replay.specs.Monitor.{Part, Run, numbers, part, led_line, after_lead, tracked_by, leads_on, turn, told_standing, lines_of, sequence}
use Rattle.nv_replay.proofs.Numbers.{none_planned, get_after, set_after}
use Rattle.nv_replay.proofs.Stretches.{stage_same, leads_whole}
use Rattle.nv_replay.proofs.Tracking.{next_after, follow_seen}
use Rattle.nv_replay.specs.LettingGo.{front, let_go}
use Rattle.nv_replay.proofs.LettingGo.{goes_on}
use Rattle.nv_replay.proofs.Rotating.{over_rests, empty_rests, dropped, led, sequence_is}

-- who has led nothing follows
pub track_none : {P : Type 0} (g : Behaviour P) (judge : Judge) (log : List Entry) (s : Follower P) → track g judge [] log s ≡ follow g judge log s
unfolding track follow
track_none {P = P} g judge log s = stage_same (track_next g judge [] log) (follow_next g judge log)
    (λ (x : Follower P). next_after g judge [] log x (record { each = λ i y h. cc })) (length log + g.calls_left s.process + 1) s

module _ {P : Type 0} (g : Behaviour P) (laws : IsProcess g) (judges : ℕ → Judge) (start : Start) (most : ℕ) (cuts : ℕ → Option ℕ) where
  abbrev Seq : List P → ℕ → List Entry → Bool → Account
  Seq ps i log over = sequence_from g judges start most cuts ps i log over

  abbrev lines : List Entry → ℕ → List (Part P) → List Standing
  lines log i vs = lines_of g judges start most cuts [] log i vs

  -- version i over this log
  abbrev By : List Entry → ℕ → P → Follower P
  By log i p = plain.followed_by g judges start most cuts log i p

  none_by : (log : List Entry) (i : ℕ) (p : P) → tracked_by g judges start most cuts [] log i (part p) ≡ By log i p
  none_by log i p = ap (λ (f : Follower P). let_go (cuts i) log f) (track_none g (judges i) (front (cuts i) log) (fresh p))

  untold : (log : List Entry) (i : ℕ) (p : P) → told_standing g judges start most cuts [] log i (part p) None ≡ follower_line (By log i p)
  untold log i p = ap (λ (f : Follower P). record { fate = f.fate; seen = f.seen; led = []; rewrites = f.rewrites }) (none_by log i p)

  over_case : (ps : List P) (i : ℕ) (log : List Entry) → record { log = log; lines = lines log i (map part ps) } ≡ Seq ps i log true
  unfolding sequence_from
  over_case [] i log = refl
  over_case (p ∷ ps) i log =
      ap (λ (x : Standing). record { log = log; lines = x ∷ lines log (i + 1) (map part ps) }) (untold log i p)
      ∙ ap (λ (a : Account). plain.before_follower g judges start most cuts i p a) (over_case ps (i + 1) log)

  -- where a run comes to, after the parts that are settled
  record Comes (prefix : List (Part P)) (m : Run P) (r : Account) : Type 0 where
    last : Run P
    reach : Reaches (turn g judges start most cuts []) m last
    rest : turn g judges start most cuts [] last ≡ last
    back : List (Part P)
    log : last.log ≡ r.log
    parts : last.parts ≡ prefix ++ back
    told : lines r.log (length prefix) back ≡ r.lines

  abbrev at : List P → List (Part P) → List Entry → Bool → Run P
  at ps prefix log over = record { log = log; over = over; order = numbers (length prefix) ps; parts = prefix ++ map part ps }

  next_comes : (prefix : List (Part P)) (x : Part P) (line : Standing) (m m1 : Run P) (r r1 : Account) → turn g judges start most cuts [] m ≡ m1
      → Comes (prefix ++ x ∷ []) m1 r1 → r ≡ record { log = r1.log; lines = line ∷ r1.lines }
      → told_standing g judges start most cuts [] r1.log (length prefix) x x.told ≡ line → Comes prefix m r
  next_comes prefix x line m m1 r r1 t c e l = rw e (record {
    last = c.last;
    reach = reach_first (turn g judges start most cuts []) m c.last (subst (λ (y : Run P). Reaches (turn g judges start most cuts []) y c.last) (sym t) c.reach);
    rest = c.rest;
    back = x ∷ c.back;
    log = c.log;
    parts = c.parts ∙ append_assoc prefix (x ∷ []) c.back;
    told = (let k = subst (λ (n : ℕ). lines r1.log n c.back ≡ r1.lines) (length-append prefix (x ∷ [])) c.told in λ j. l j ∷ k j);
  })

  -- the same run, with one more part settled
  shifted : (ps : List P) (prefix : List (Part P)) (x : Part P) (log : List Entry) (over : Bool)
      → at ps (prefix ++ x ∷ []) log over ≡ record { log = log; over = over; order = numbers (length prefix + 1) ps; parts = prefix ++ x ∷ map part ps }
  shifted ps prefix x log over = λ j. record {
    log = log;
    over = over;
    order = numbers (length-append prefix (x ∷ []) j) ps;
    parts = append_assoc prefix (x ∷ []) (map part ps) j;
  }

  off_leads : (p : P) (ps : List P) (i : ℕ) (log : List Entry) (x : Fate) → (By log i p).fate ≡ Some x
      → Seq (p ∷ ps) i log false ≡ record {
        log = (Seq ps (i + 1) log false).log;
        lines = follower_line (By (Seq ps (i + 1) log false).log i p) ∷ (Seq ps (i + 1) log false).lines;
      }
  unfolding sequence_from
  off_leads p ps i log x h = rw h refl

  abbrev whole : ℕ → P → List Entry → Leader P
  whole i p log = lead g start most (cuts i) (record { process = (By log i p).process; log = log; fate = None })

  on_leads : (p : P) (ps : List P) (i : ℕ) (log : List Entry) → (By log i p).fate ≡ None
      → Seq (p ∷ ps) i log false ≡ record {
        log = (Seq ps (i + 1) (whole i p log).log (is_exited (whole i p log).fate)).log;
        lines = leader_line (By log i p) (whole i p log) ∷ (Seq ps (i + 1) (whole i p log).log (is_exited (whole i p log).fate)).lines;
      }
  unfolding sequence_from
  on_leads p ps i log h = rw h refl

  abbrev All : List P → Type 0
  All ps = (prefix : List (Part P)) (log : List Entry) (over : Bool) → Comes prefix (at ps prefix log over) (Seq ps (length prefix) log over)

  passes : (p : P) (ps : List P) (prefix : List (Part P)) (log : List Entry) (x : Fate) → (By log (length prefix) p).fate ≡ Some x
      → All ps → Comes prefix (at (p ∷ ps) prefix log false) (Seq (p ∷ ps) (length prefix) log false)
  passes p ps prefix log x h ih =
      let i : ℕ = length prefix in
      let m : Run P = at (p ∷ ps) prefix log false in
      let t = dropped g judges start most cuts [] m i (numbers (i + 1) ps) (part p) x refl refl (get_after prefix (part p) (map part ps))
      (ap (λ (f : Follower P). f.fate) (none_by log i p) ∙ h) in
      let c = ih (prefix ++ part p ∷ []) log false in
      let n : length (prefix ++ part p ∷ []) ≡ i + 1 = length-append prefix (part p ∷ []) in
      let c' = subst (λ (k : ℕ). Comes (prefix ++ part p ∷ []) (at ps (prefix ++ part p ∷ []) log false) (Seq ps k log false)) n c in
      next_comes prefix (part p) (follower_line (By (Seq ps (i + 1) log false).log i p)) m (at ps (prefix ++ part p ∷ []) log false)
      (Seq (p ∷ ps) i log false) (Seq ps (i + 1) log false) (t ∙ sym (shifted ps prefix (part p) log false)) c' (off_leads p ps i log x h)
      (untold (Seq ps (i + 1) log false).log i p)

  takes : (p : P) (ps : List P) (prefix : List (Part P)) (log : List Entry) → (By log (length prefix) p).fate ≡ None
      → All ps → Comes prefix (at (p ∷ ps) prefix log false) (Seq (p ∷ ps) (length prefix) log false)
  takes p ps prefix log h ih =
      let i : ℕ = length prefix in
      let m : Run P = at (p ∷ ps) prefix log false in
      let f : Follower P = By log i p in
      let tn : tracked_by g judges start most cuts [] log i (part p) ≡ f = none_by log i p in
      let t = led g judges start most cuts [] m i (numbers (i + 1) ps) (part p) refl refl (get_after prefix (part p) (map part ps))
      (ap (λ (y : Follower P). y.fate) tn ∙ h) in
      let l : Leader P = whole i p log in
      let lw : leads_on g judges start most cuts [] log i f ≡ l = leads_whole g start most (cuts i) (length log) (record { process = f.process; log = log; fate = None }) in
      let x : Part P = record { process = p; led = (length log, length l.log) ∷ []; told = Some (led_line (part p) f (length log) l) } in
      let over : Bool = is_exited l.fate in
      let t' : turn g judges start most cuts [] m ≡ after_lead m i (numbers (i + 1) ps) (part p) f l false = t
      ∙ (ap (λ (y : Follower P). after_lead m i (numbers (i + 1) ps) (part p) y (leads_on g judges start most cuts [] log i y)
      (is_handed [] (length log) (leads_on g judges start most cuts [] log i y))) tn
      ∙ (ap (λ (b : Bool). after_lead m i (numbers (i + 1) ps) (part p) f (leads_on g judges start most cuts [] log i f) b) (none_planned (length log) (leads_on g judges start most cuts [] log i f))
      ∙ ap (λ (y : Leader P). after_lead m i (numbers (i + 1) ps) (part p) f y false) lw)) in
      let s : after_lead m i (numbers (i + 1) ps) (part p) f l false ≡ record { log = l.log; over = over; order = numbers (i + 1) ps; parts = prefix ++ x ∷ map part ps } = ap
      (λ (y : List (Part P)). record { log = l.log; over = over; order = numbers (i + 1) ps; parts = y }) (set_after prefix (part p) x (map part ps)) in
      let n : length (prefix ++ x ∷ []) ≡ i + 1 = length-append prefix (x ∷ []) in
      let c = ih (prefix ++ x ∷ []) l.log over in
      let c' = subst (λ (k : ℕ). Comes (prefix ++ x ∷ []) (at ps (prefix ++ x ∷ []) l.log over) (Seq ps k l.log over)) n c in
      let whole' : f ≡ follow g (judges i) log (fresh p) = goes_on (cuts i) log (λ (y : List Entry). follow g (judges i) y (fresh p)) h in
      let seen : f.seen ≡ length log = ap (λ (y : Follower P). y.seen) whole' ∙ follow_seen g laws (judges i) log p (ap (λ (y : Follower P). y.fate) (sym whole') ∙ h) in
      let ln : led_line (part p) f (length log) l ≡ leader_line f l = ap
      (λ (k : ℕ). record { fate = l.fate; seen = length l.log; led = (k, length l.log) ∷ []; rewrites = f.rewrites }) (sym seen) in
      next_comes prefix x (leader_line f l) m (at ps (prefix ++ x ∷ []) l.log over) (Seq (p ∷ ps) i log false) (Seq ps (i + 1) l.log over)
      (t' ∙ (s ∙ sym (shifted ps prefix x l.log over))) c' (on_leads p ps i log h) ln

  goes : (p : P) (ps : List P) (prefix : List (Part P)) (log : List Entry) (o : Option Fate) → (By log (length prefix) p).fate ≡ o
      → All ps → Comes prefix (at (p ∷ ps) prefix log false) (Seq (p ∷ ps) (length prefix) log false)
  goes p ps prefix log None h ih = takes p ps prefix log h ih
  goes p ps prefix log (Some x) h ih = passes p ps prefix log x h ih

  stands : (ps : List P) (prefix : List (Part P)) (log : List Entry) → Comes prefix (at ps prefix log true) (Seq ps (length prefix) log true)
  stands ps prefix log = let e = over_case ps (length prefix) log in record {
    last = at ps prefix log true;
    reach = reach_here (turn g judges start most cuts []) (at ps prefix log true);
    rest = over_rests g judges start most cuts [] (at ps prefix log true) refl;
    back = map part ps;
    log = ap (λ (a : Account). a.log) e;
    parts = refl;
    told = rw (← e) refl;
  }

  none_left : (prefix : List (Part P)) (log : List Entry) (over : Bool) → Comes prefix (at [] prefix log over) (Seq [] (length prefix) log over)
  unfolding sequence_from
  none_left prefix log over = record {
    last = at [] prefix log over;
    reach = reach_here (turn g judges start most cuts []) (at [] prefix log over);
    rest = empty_rests g judges start most cuts [] (at [] prefix log over) refl;
    back = [];
    log = refl;
    parts = refl;
    told = refl;
  }

  comes : (ps : List P) → All ps
  comes [] prefix log over = none_left prefix log over
  comes (p ∷ ps) prefix log true = stands (p ∷ ps) prefix log
  comes (p ∷ ps) prefix log false = goes p ps prefix log (By log (length prefix) p).fate refl (comes ps)

  pub no_hands : (ps : List P) → sequence g judges start most cuts [] ps ≡ plain.plain_sequence g judges start most cuts ps
  no_hands ps =
      let c = comes ps [] [] false in
      sym (sequence_is g judges start most cuts [] ps c.last c.reach c.rest)
      ∙ ((λ j. record { log = c.log j; lines = lines (c.log j) 0 (c.parts j) }) ∙ ap (λ (x : List Standing). record { log = (Seq ps 0 [] false).log; lines = x }) c.told)
