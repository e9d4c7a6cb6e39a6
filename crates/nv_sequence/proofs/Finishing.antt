-- A run from its beginning to its account.
use Rattle.std.proofs.Common.{◌≡◌, ◌∙◌, sym, ap, subst, refl, ℕ, zero, suc, ◌+◌, ◌<◌, ◌≤◌, ◌⊎◌, inl, inr, Bool, true, false, List, [], ◌∷◌, length, take, map, set, Option, Some, None, arith, length-append}
use Rattle.std.specs.Prelude.{slice_get, not, if◌then◌else◌}
use Rattle.std.proofs.lemmas.Option.{same_Some}
use Rattle.nv_calls.specs.Calls.{Entry}
use Rattle.nv_calls.specs.Logs.{Start, live_after}
use Rattle.nv_threads.specs.Behaviours.{Behaviour, IsProcess}
use Rattle.nv_replay.specs.declared.fate.Fate.{Fate}
use Rattle.nv_replay.specs.declared.standing.Standing.{Standing}
use Rattle.nv_replay.specs.Follow.{Follower, Judge, fresh, follow, IsInStep, is_exited}
use Rattle.nv_replay.specs.Lead.{cut_of}
use Rattle.nv_replay.specs.Tracks.{track_next}
use Rattle.nv_replay.specs.Spans.{EndBy}
use Rattle.nv_calls.specs.Hands.{has}
use Rattle.nv_replay.specs.Hands.{count_above, is_handed}
use Rattle.nv_replay.specs.Sequence.{is_going, cuts_of}
use Rattle.nv_replay.specs.LettingGo.{is_let_go, stop_of}
use Rattle.nv_replay.specs.Monitor.{Run, part, numbers, begun, turn, tracked_by, told_standing, lines_of, sequence}
use Rattle.nv_replay.specs.Version.{Running, IsFresh, leader_of, standing_of, process_of}
use Rattle.nv_replay.proofs.Settled.{Reaches, reach_here}
use Rattle.nv_replay.proofs.Falling.{within}
use Rattle.nv_replay.specs.Account.{AreFresh}
use Rattle.nv_replay.specs.Covers.{AreEnded}
use Rattle.nv_sequence.specs.inner.Rests.{AreInStep, AreRested, IsRested}
use Rattle.nv_replay.specs.Turns.{Suits}
use Rattle.nv_sequence.specs.Passing.{HasLed, TurnDone, followed, given_up, turned_of}
use Rattle.nv_sequence.specs.inner.Passing.{NextTurn, FirstMayHaveTurn, order_of, turn_goes_on}
use Rattle.nv_replay.specs.Account as accounts
use Rattle.nv_sequence.specs.declared.leading.Turned.{Turned}
use Rattle.nv_replay.proofs.Numbers.{has_within, has_numbers, distinct_numbers, numbers_length, numbers_map, map_at, some_at, has_here, above_all, above_later, above_less, handed_at}
use Rattle.nv_replay.proofs.Rotating.{sequence_is, over_rests, empty_rests}
use Rattle.nv_sequence.proofs.Rounds.{told_by, part_of, parts_of, run_of, Stands, tracks_whole, tells, follower_stays, has_led}
use Rattle.nv_sequence.proofs.Going.{AreSo, Goes, After, goes_off, passed_by, led_by, suits_by, order_off, never}
use Rattle.nv_replay.proofs.Fates.{off_some, none_on}
use Rattle.nv_replay.proofs.Stops.{stop_same}
use Rattle.nv_sequence.proofs.Taking.{fated_follow}
use Rattle.nv_replay.proofs.Tracking.{follow_more, followed_seen}
use Rattle.nv_replay.proofs.Turning.{take_all}
use Rattle.nv_replay.proofs.Wholly.{suits_end}

not_true : (b : Bool) → not b ≡ true → b ≡ false
not_true true h = cc
not_true false h = refl

not_false : (b : Bool) → not b ≡ false → b ≡ true
not_false true h = refl
not_false false h = cc

map_length : {X Y : Type 0} (f : X → Y) (xs : List X) → length (map f xs) ≡ length xs
map_length f [] = refl
map_length f (x ∷ xs) = ap suc (map_length f xs)

fresh_at : {P : Type 0} (g : Behaviour P) (i : ℕ) (vs : List (Running P)) (k : ℕ) (v : Running P) → AreFresh g i vs → slice_get vs k ≡ Some v → IsFresh g (i + k) v
fresh_at g i [] k v a h = cc
fresh_at {P = P} g i (u ∷ vs) zero v a h = let e = same_Some u v h in let n : i ≡ i + 0 = omega arith in subst (λ (x : ℕ). IsFresh g x v) n (subst (λ (x : Running P). IsFresh g i x) e a.0)
fresh_at g i (u ∷ vs) (suc k) v a h = let n : i + 1 + k ≡ i + suc k = omega arith in subst (λ (x : ℕ). IsFresh g x v) n (fresh_at g (i + 1) vs k v a.1 h)

parts_fresh : {P : Type 0} (g : Behaviour P) (i : ℕ) (vs : List (Running P)) → AreFresh g i vs → parts_of (map process_of vs) vs ≡ map part (map process_of vs)
parts_fresh g i [] a = refl
parts_fresh g i (v ∷ vs) a = λ j. record { process = v.at.process; led = a.0.not_led j; told = ap (told_by v) a.0.idle j } ∷ parts_fresh g (i + 1) vs a.1 j

pub cuts_at : (lines : List Standing) (k : ℕ) (line : Standing) → slice_get lines k ≡ Some line → cuts_of lines k ≡ stop_of line.fate line.seen
cuts_at [] k line h = cc
cuts_at (l ∷ lines) zero line h = ap (λ (x : Standing). stop_of x.fate x.seen) (same_Some l line h)
cuts_at (l ∷ lines) (suc k) line h = cuts_at lines k line h

module _ {P : Type 0} (g : Behaviour P) (laws : IsProcess g) (judges : ℕ → Judge) (start : Start) (most : ℕ) (hands : List ℕ) (ps : List P) where
  abbrev G : List (Running P) → List ℕ → List Entry → Bool → Type 0
  G vs order log over = Goes g laws judges start most hands ps vs order log over

  abbrev A : List (Running P) → List ℕ → List Entry → Bool → Type 0
  A vs order log on = After g laws judges start most hands ps vs order log on

  moved : (vs news : List (Running P)) (order new_order : List ℕ) (log : List Entry) (over : Bool) → news ≡ vs → new_order ≡ order → G vs order log over → G news new_order log over
  moved vs news order new_order log over a b s = subst (λ (x : List (Running P)). G x new_order log over) (sym a) (subst (λ (x : List ℕ). G vs x log over) (sym b) s)

  turned : (vs news : List (Running P)) (i : ℕ) (order new_order : List ℕ) (log new_log : List Entry) (on : Bool) (v w : Running P) (r : Turned) (p : P) (o : Option Fate)
      → G vs (i ∷ order) log false → slice_get vs i ≡ Some v → slice_get ps i ≡ Some p → v.index ≡ i → (follow g (judges v.index) log v.at).fate ≡ o
      → TurnDone g start most hands (followed g judges log v) w log new_log r o → news ≡ set vs i w → new_order ≡ order_of order i r → on ≡ turn_goes_on r → A news new_order new_log on
  turned vs news i order new_order log new_log on v w r p (Some x) a h hp n fx d pt l q =
      let lo : new_order ≡ order = l ∙ ap (order_of order i) d.2 in
      let up : on ≡ true = q ∙ ap turn_goes_on d.2 in record {
        over = false;
        goes = moved (set vs i w) news order new_order new_log false pt lo
            (passed_by g laws judges start most hands ps vs i order log new_log v w p x a h hp fx d.0 d.1 d.3);
        stays = λ z. refl;
        stops = λ z. let y : true ≡ false = sym up ∙ z in cc;
      }
  turned vs news i order new_order log new_log on v w r p None a h hp n fx d pt l q =
      let e = d.end in
      let led' = subst (λ (m : ℕ). HasLed g start most hands (accounts.with_span (record v { at = follow g (judges m) log v.at }) (length log)) e log new_log) n d.led in
      let fx' : (follow g (judges i) log v.at).fate ≡ None = ap (λ (m : ℕ). (follow g (judges m) log v.at).fate) (sym n) ∙ fx in
      let lo : new_order ≡ order_of order i (turned_of e.at.fate) = l ∙ ap (order_of order i) d.turned in
      let up : on ≡ not (is_exited e.at.fate) = q ∙ (ap turn_goes_on d.turned ∙ goes_off e.at.fate) in record {
        over = is_exited e.at.fate;
        goes = moved (set vs i (given_up e)) news (order_of order i (turned_of e.at.fate)) new_order new_log (is_exited e.at.fate) (pt ∙ ap (set vs i) d.then) lo
            (led_by g laws judges start most hands ps vs i order log new_log v e p a h hp fx' led');
        stays = λ z. not_true (is_exited e.at.fate) (sym up ∙ z);
        stops = λ z. inl (not_false (is_exited e.at.fate) (sym up ∙ z));
      }

  pub next_round : (vs news : List (Running P)) (order new_order : List ℕ) (log new_log : List Entry) (on : Bool) → G vs order log false
      → NextTurn g judges start most hands vs news order new_order log new_log on → A news new_order new_log on
  next_round vs news [] new_order log new_log on a t = record {
    over = false;
    goes = subst (λ (x : List Entry). G news new_order x false) (sym t.1) (moved vs news [] new_order log false t.0 t.2 a);
    stays = λ z. refl;
    stops = λ z. inr t.2;
  }
  next_round vs news (i ∷ order) new_order log new_log on a t =
      let l : i < length ps = (let z = within vs i t.before t.at in omega (arith, a.same)) in
      let p = some_at ps i l in
      let s = a.each i p.0 t.before p.1 t.at in
      turned vs news i order new_order log new_log on t.before t.after t.result p.0 (follow g (judges t.before.index) log t.before.at).fate a t.at p.1 s.index refl t.done t.put t.left t.goes

  led_fewer : (i : ℕ) (order : List ℕ) (log new_log : List Entry) (e : Running P) (b : Bool) → is_going e.at.fate ≡ b → is_handed hands (length log) (leader_of e new_log) ≡ b
      → length log ≤ length new_log → length (order_of order i (turned_of e.at.fate)) + count_above hands (length new_log) < suc (length order) + count_above hands (length log)
  led_fewer i order log new_log e true h k l =
      let d = handed_at hands (length log) (leader_of e new_log) k in
      subst (λ (x : Option Fate). length (order_of order i (turned_of x)) + count_above hands (length new_log) < suc (length order) + count_above hands (length log)) (sym (none_on e.at.fate h))
      (omega (arith, length-append order (i ∷ []), above_less hands (length log) (length new_log) d.grew d.planned))
  led_fewer i order log new_log e false h k l =
      subst (λ (x : List ℕ). length x + count_above hands (length new_log) < suc (length order) + count_above hands (length log)) (sym (order_off e.at.fate order i h))
      (omega (arith, above_later hands (length log) (length new_log) l))

  turned_fewer : (vs : List (Running P)) (i : ℕ) (order new_order : List ℕ) (log new_log : List Entry) (v w : Running P) (r : Turned) (p : P) (o : Option Fate)
      → G vs (i ∷ order) log false → slice_get vs i ≡ Some v → slice_get ps i ≡ Some p → v.index ≡ i → (follow g (judges v.index) log v.at).fate ≡ o
      → TurnDone g start most hands (followed g judges log v) w log new_log r o → new_order ≡ order_of order i r
      → length new_order + count_above hands (length new_log) < suc (length order) + count_above hands (length log)
  turned_fewer vs i order new_order log new_log v w r p (Some x) a h hp n fx d l =
      let lo : new_order ≡ order = l ∙ ap (order_of order i) d.2 in omega (arith, ap length lo, ap (λ (y : List Entry). count_above hands (length y)) d.1)
  turned_fewer vs i order new_order log new_log v w r p None a h hp n fx d l =
      let e = d.end in
      let led' = subst (λ (m : ℕ). HasLed g start most hands (accounts.with_span (record v { at = follow g (judges m) log v.at }) (length log)) e log new_log) n d.led in
      let fx' : (follow g (judges i) log v.at).fate ≡ None = ap (λ (m : ℕ). (follow g (judges m) log v.at).fate) (sym n) ∙ fx in
      let lo : new_order ≡ order_of order i (turned_of e.at.fate) = l ∙ ap (order_of order i) d.turned in
      let ld = has_led g laws (judges i) start most hands i p v e log new_log (a.each i p v hp h) (a.waits i v h (has_here i order)) e fx' led' in
      let long : length log ≤ length new_log = omega (arith, ap length ld.longer, length-append log ld.more) in
      omega (arith, ap length lo, led_fewer i order log new_log e (is_going e.at.fate) refl led'.handed long)

  one_most : (b : Bool) → (if b then 1 else 0) ≤ 1
  one_most true = omega arith
  one_most false = omega arith

  -- what is left to do, and whether the loop goes on, falls
  pub fewer : (vs news : List (Running P)) (order new_order : List ℕ) (log new_log : List Entry) (on : Bool) → G vs order log false
      → NextTurn g judges start most hands vs news order new_order log new_log on
      → length new_order + count_above hands (length new_log) + (if on then 1 else 0) < length order + count_above hands (length log) + 1
  fewer vs news [] new_order log new_log on a t =
      rw (t.3) (omega (arith, ap length t.2, ap (λ (y : List Entry). count_above hands (length y)) t.1))
  fewer vs news (i ∷ order) new_order log new_log on a t =
      let l : i < length ps = (let z = within vs i t.before t.at in omega (arith, a.same)) in
      let p = some_at ps i l in
      let s = a.each i p.0 t.before p.1 t.at in
      omega (arith, one_most on, turned_fewer vs i order new_order log new_log t.before t.after t.result p.0 (follow g (judges t.before.index) log t.before.at).fate a t.at p.1 s.index refl t.done t.left)

  -- the order's first may have its turn
  pub ready : (vs : List (Running P)) (order : List ℕ) (log : List Entry) → length hands ≤ 8 → G vs order log false → FirstMayHaveTurn g log vs order
  ready vs [] log few a = tt
  ready vs (i ∷ order) log few a =
      let v = some_at vs i (a.known i (has_here i order)) in
      let p = some_at ps i (let z = within vs i v.0 v.1 in omega (arith, a.same)) in
      let s = a.each i p.0 v.0 p.1 v.1 in
      let idle = a.waits i v.0 v.1 (has_here i order) in (
        (let q = a.short in omega arith),
        (v.0, v.1, record { idle = idle; asked = s.asked idle; in_step = s.in_step; few = (let q = s.few idle in omega arith) }),
      )

  -- the beginning
  pub begins : (vs : List (Running P)) → AreFresh g 0 vs → ps ≡ map process_of vs → length vs ≤ 8 → G vs (numbers 0 vs) [] false
  begins vs a e few = record {
    each = λ k p v h m.
        let f = fresh_at g 0 vs k v a m in
        let n : 0 + k ≡ k = omega arith in
        let q : p ≡ v.at.process = same_Some p v.at.process (sym h ∙ (ap (λ (x : List P). slice_get x k) e ∙ map_at process_of vs k v m)) in
        let at : v.at ≡ fresh p = f.at ∙ ap fresh (sym q) in record {
          index = f.index ∙ n;
          asked = λ z. f.none_asked;
          ended = λ z. let y : false ≡ true = sym f.idle ∙ z in cc;
          stays = λ z. let y : false ≡ true = sym f.idle ∙ z in cc;
          reach = λ z. subst (λ (x : Follower P). Reaches (track_next g (judges k) v.led []) (fresh p) x) (sym at) (reach_here (track_next g (judges k) v.led []) (fresh p));
          past = subst (λ (x : List (ℕ × ℕ)). EndBy v.at.seen x) (sym f.not_led) (record { each = λ i x y. cc });
          in_step = subst (λ (x : Follower P). IsInStep g [] x) (sym f.at) (record { within = omega arith; live = λ z. f.started.live; on = λ z. f.started.on; exited = λ z. cc });
          few = λ z. omega (arith, ap length f.not_led, above_all hands 0);
        };
    same = sym (ap length e ∙ map_length process_of vs);
    waits = λ k v m h. (fresh_at g 0 vs k v a m).idle;
    waiting = λ k v m h. has_numbers 0 vs k (omega arith) (let z = within vs k v m in omega arith);
    known = λ k h. let z = has_within 0 vs k h in omega arith;
    distinct = distinct_numbers 0 vs;
    short = omega (arith, numbers_length 0 vs);
    dead = λ z. cc;
    reach = λ cuts so.
        let r : begun ps ≡ run_of ps vs (numbers 0 vs) [] false = λ j. record {
          log = [];
          over = false;
          order = (ap (λ (x : List P). numbers 0 x) e ∙ sym (numbers_map process_of 0 vs)) j;
          parts = (ap (λ (x : List P). map part x) e ∙ (sym (parts_fresh g 0 vs a) ∙ ap (λ (x : List P). parts_of x vs) (sym e))) j;
        } in
        subst (λ (m : Run P). Reaches (turn g judges start most cuts hands) (begun ps) m) r (reach_here (turn g judges start most cuts hands) (begun ps));
  }

  -- the end
  abbrev News : List Entry → List (Running P) → List (Running P)
  News log vs = map (followed g judges log) vs

  abbrev Ended : List (Running P) → List ℕ → Bool → Type 0
  Ended vs order over = (over ≡ true) ⊎ (order ≡ [])

  rests : (cuts : ℕ → Option ℕ) (m : Run P) → (m.over ≡ true) ⊎ (m.order ≡ []) → turn g judges start most cuts hands m ≡ m
  rests cuts m (inl h) = over_rests g judges start most cuts hands m h
  rests cuts m (inr h) = empty_rests g judges start most cuts hands m h

  abbrev StopOf : List Entry → Running P → Option ℕ
  StopOf log v = stop_of (follow g (judges v.index) log v.at).fate (follow g (judges v.index) log v.at).seen

  ended_follow : (k : ℕ) (p : P) (v : Running P) (log : List Entry) → v.leading ≡ true → Stands g hands (judges k) k p v log
      → follow g (judges v.index) log v.at ≡ v.at
  ended_follow k p v log e s = fated_follow g laws (judges v.index) log v.at (off_some v.at.fate (s.ended e))

  -- the loop lets no version go
  none_let_go : (k : ℕ) (p : P) (v : Running P) (log : List Entry) (b : Bool) → v.leading ≡ b → Stands g hands (judges k) k p v log
      → is_let_go (follow g (judges v.index) log v.at).fate ≡ false
  none_let_go k p v log true e s = ap (λ (x : Follower P). is_let_go x.fate) (ended_follow k p v log e s) ∙ s.stays e
  none_let_go k p v log false e s = ap (λ (j : ℕ). is_let_go (follow g (judges j) log v.at).fate) s.index
      ∙ follower_stays g laws (judges k) start most hands k p v v log log s e

  cuts_told : (vs : List (Running P)) (log : List Entry) (k : ℕ) (v : Running P) → slice_get vs k ≡ Some v
      → cuts_of (map standing_of (News log vs)) k ≡ StopOf log v
  cuts_told vs log k v h =
      let line = standing_of (followed g judges log v) in
      cuts_at (map standing_of (News log vs)) k line (map_at standing_of (News log vs) k (followed g judges log v) (map_at (followed g judges log) vs k v h))

  so_told : (vs : List (Running P)) (order : List ℕ) (log : List Entry) (over : Bool) → G vs order log over
      → AreSo (cuts_of (map standing_of (News log vs))) vs
  so_told vs order log over a k v h =
      let f : Follower P = follow g (judges v.index) log v.at in
      let p = some_at ps k (let y = within vs k v h in omega (arith, a.same)) in
      let c = cuts_told vs log k v h ∙ stop_same f.fate f.seen (none_let_go k p.0 v log v.leading refl (a.each k p.0 v p.1 h)) in
      subst (λ (x : Option ℕ). Suits x v.at.fate v.at.seen) (sym c)
      (suits_by (cut_of f.fate f.seen) v.at f v.at.fate refl (suits_end f.fate f.seen) (follow_more g laws (judges v.index) log v.at) (λ z. fated_follow g laws (judges v.index) log v.at z))

  line_is : (cuts : ℕ → Option ℕ) (k : ℕ) (q : P) (u : Running P) (log : List Entry) (b : Bool) → u.leading ≡ b → Stands g hands (judges k) k q u log
      → cuts k ≡ StopOf log u
      → told_standing g judges start most cuts hands log k (part_of q u) (told_by u b) ≡ standing_of (followed g judges log u)
  line_is cuts k q u log true e s c = ap (λ (x : Follower P). standing_of (record u { at = x })) (sym (ended_follow k q u log e s))
  line_is cuts k q u log false e s c =
      let n : follow g (judges k) log u.at ≡ follow g (judges u.index) log u.at = ap (λ (j : ℕ). follow g (judges j) log u.at) (sym s.index) in
      let none : cuts k ≡ None = c ∙ (ap (λ (x : Follower P). stop_of x.fate x.seen) (sym n)
      ∙ tells g laws (judges k) start most hands k q u u log log s e (follow g (judges k) log u.at).seen) in
      let t : tracked_by g judges start most cuts hands log k (part_of q u) ≡ follow g (judges u.index) log u.at =
      tracks_whole g laws (judges k) start most hands k q u u log log s e (cuts k) (λ m h. never (cuts k) (length log) m none h) ∙ n in
      ap (λ (f : Follower P). record { fate = f.fate; seen = f.seen; led = u.led; rewrites = f.rewrites }) t

  lines_are : (cuts : ℕ → Option ℕ) (qs : List P) (us : List (Running P)) (i : ℕ) (log : List Entry) → length us ≡ length qs
      → ((k : ℕ) (q : P) (u : Running P) → slice_get qs k ≡ Some q → slice_get us k ≡ Some u → Stands g hands (judges (i + k)) (i + k) q u log)
      → ((k : ℕ) (u : Running P) → slice_get us k ≡ Some u → cuts (i + k) ≡ StopOf log u)
      → lines_of g judges start most cuts hands log i (parts_of qs us) ≡ map standing_of (News log us)
  lines_are cuts [] [] i log e s c = refl
  lines_are cuts [] (u ∷ us) i log e s c = absurd (omega arith)
  lines_are cuts (q ∷ qs) [] i log e s c = absurd (omega arith)
  lines_are cuts (q ∷ qs) (u ∷ us) i log e s c =
      let n : i + 0 ≡ i = omega arith in
      let here = subst (λ (x : ℕ). Stands g hands (judges x) x q u log) n (s 0 q u refl refl) in
      let cut : cuts i ≡ StopOf log u = ap cuts (sym n) ∙ c 0 u refl in
      let there = lines_are cuts qs us (i + 1) log (omega arith)
      (λ k r w h m. let j : i + suc k ≡ i + 1 + k = omega arith in subst (λ (x : ℕ). Stands g hands (judges x) x r w log) j (s (suc k) r w h m))
      (λ k w m. let j : i + 1 + k ≡ i + suc k = omega arith in ap cuts j ∙ c (suc k) w m) in
      λ j. line_is cuts i q u log u.leading refl here cut j ∷ there j

  -- the account is the definition's, with the cuts that it tells
  pub account_is : (vs news : List (Running P)) (order : List ℕ) (log : List Entry) (over : Bool) → G vs order log over → Ended vs order over → news ≡ News log vs
      → record { log = log; lines = map standing_of news } ≡ sequence g judges start most (cuts_of (map standing_of news)) hands ps
  account_is vs news order log over a z e =
      let cuts = cuts_of (map standing_of (News log vs)) in
      let m : Run P = run_of ps vs order log over in
      let r = sequence_is g judges start most cuts hands ps m (a.reach cuts (so_told vs order log over a)) (rests cuts m z) in
      let l = lines_are cuts ps vs 0 log a.same (λ k q u h n. let i : k ≡ 0 + k = omega arith in subst (λ (x : ℕ). Stands g hands (judges x) x q u log) i (a.each k q u h n))
      (λ k u n. let i : 0 + k ≡ k = omega arith in ap cuts i ∙ cuts_told vs log k u n) in
      let done : record { log = log; lines = map standing_of (News log vs) } ≡ sequence g judges start most cuts hands ps = ap (λ (x : List Standing). record { log = log; lines = x }) (sym l) ∙ r in
      subst (λ (x : List (Running P)). record { log = log; lines = map standing_of x } ≡ sequence g judges start most (cuts_of (map standing_of x)) hands ps) (sym e) done

  in_step_at : (us : List (Running P)) (log : List Entry) (k : ℕ) (u : Running P) → AreInStep g log us → slice_get us k ≡ Some u → IsInStep g log u.at
  in_step_at [] log k u a h = cc
  in_step_at (w ∷ us) log zero u a h = subst (λ (x : Running P). IsInStep g log x.at) (same_Some w u h) a.0
  in_step_at (w ∷ us) log (suc k) u a h = in_step_at us log k u a.1 h

  alive_not : (log : List Entry) (s : Follower P) → IsInStep g log s → live_after log ≡ [] → s.seen ≡ length log → s.fate ≡ None → ⊥
  alive_not log s i d l n =
      let all : take s.seen log ≡ log = ap (λ (m : ℕ). take m log) l ∙ take_all log in
      laws.ended s.process (i.live n ∙ (ap live_after all ∙ d)) (i.on n)

  none_waits : (k : ℕ) (order : List ℕ) → order ≡ [] → has order k ≡ true → ⊥
  none_waits k [] e h = cc
  none_waits k (i ∷ order) e h = cc

  fated_by : (vs : List (Running P)) (order : List ℕ) (log : List Entry) (over : Bool) (k : ℕ) (v : Running P) (p : P) → G vs order log over → Ended vs order over
      → slice_get vs k ≡ Some v → slice_get ps k ≡ Some p → IsInStep g log (followed g judges log v).at → (o d : Option Fate) → v.at.fate ≡ o → (followed g judges log v).at.fate ≡ d → is_going d ≡ false
  fated_by vs order log over k v p a z h hp st o (Some y) e q = refl
  fated_by vs order log over k v p a z h hp st (Some x) None e q =
      let w : follow g (judges v.index) log v.at ≡ v.at = fated_follow g laws (judges v.index) log v.at (λ n. let b : Some x ≡ None = sym e ∙ n in cc) in
      let b : Some x ≡ None = sym e ∙ (ap (λ (f : Follower P). f.fate) (sym w) ∙ q) in cc
  fated_by vs order log over k v p a (inr n) h hp st None None e q = absurd (none_waits k order n (a.waiting k v h e))
  fated_by vs order log over k v p a (inl n) h hp st None None e q =
      absurd (alive_not log (follow g (judges v.index) log v.at) st (a.dead n) (followed_seen g laws (judges v.index) log v.at (a.each k p v hp h).in_step.within q) q)

  all_settled : (us : List (Running P)) → ((k : ℕ) (u : Running P) → slice_get us k ≡ Some u → is_going u.at.fate ≡ false) → AreEnded (map standing_of us)
  all_settled [] f = tt
  all_settled (u ∷ us) f = (f 0 u refl, all_settled us (λ k w h. f (suc k) w h))

  map_back : (f : Running P → Running P) (us : List (Running P)) (k : ℕ) (w : Running P) → slice_get (map f us) k ≡ Some w → (u : Running P) × (slice_get us k ≡ Some u) × (f u ≡ w)
  map_back f [] k w h = cc
  map_back f (u ∷ us) zero w h = (u, refl, same_Some (f u) w h)
  map_back f (u ∷ us) (suc k) w h = map_back f us k w h

  -- each version has a fate
  pub settled : (vs news : List (Running P)) (order : List ℕ) (log : List Entry) (over : Bool) → G vs order log over → Ended vs order over → news ≡ News log vs → AreInStep g log news
      → AreEnded (map standing_of news)
  settled vs news order log over a z e st =
      let st' : AreInStep g log (News log vs) = subst (λ (x : List (Running P)). AreInStep g log x) e st in
      subst (λ (x : List (Running P)). AreEnded (map standing_of x)) (sym e)
      (all_settled (News log vs) (λ k w h.
      let b = map_back (followed g judges log) vs k w h in
      let p = some_at ps k (let y = within vs k b.0 b.1 in omega (arith, a.same)) in
      let i : IsInStep g log (followed g judges log b.0).at = subst (λ (x : Running P). IsInStep g log x.at) (sym b.2) (in_step_at (News log vs) log k w st' h) in
      ap (λ (x : Running P). is_going x.at.fate) (sym b.2) ∙ fated_by vs order log over k b.0 p.0 a z b.1 p.1 i b.0.at.fate (followed g judges log b.0).at.fate refl refl))

  rested_by : (us : List (Running P)) (log : List Entry) → ((k : ℕ) (u : Running P) → slice_get us k ≡ Some u → IsRested g log u) → AreRested g log us
  rested_by [] log f = tt
  rested_by (u ∷ us) log f = (f 0 u refl, rested_by us log (λ k w h. f (suc k) w h))

  idle_by : (v : Running P) (log : List Entry) (k : ℕ) (p : P) (b : Bool) → v.leading ≡ b → Stands g hands (judges k) k p v log → v.at.fate ≡ None → v.leading ≡ false
  idle_by v log k p true e s n = absurd (off_some v.at.fate (s.ended e) n)
  idle_by v log k p false e s n = e

  -- each may follow the rest
  pub rested : (vs : List (Running P)) (order : List ℕ) (log : List Entry) (over : Bool) → G vs order log over → AreRested g log vs
  rested vs order log over a = rested_by vs log (λ k v h.
      let p = some_at ps k (let y = within vs k v h in omega (arith, a.same)) in
      let s = a.each k p.0 v p.1 h in
      record { idle = λ n. idle_by v log k p.0 v.leading refl s n; in_step = s.in_step })

  -- what the loop keeps
  pub first_after : (vs : List (Running P)) (order : List ℕ) (log : List Entry) → AreFresh g 0 vs → ps ≡ map process_of vs → length vs ≤ 8 → order ≡ numbers 0 vs → log ≡ []
      → A vs order log true
  first_after vs order log a e few o l = record {
    over = false;
    goes = subst (λ (x : List Entry). G vs order x false) (sym l) (moved vs vs (numbers 0 vs) order [] false refl o (begins vs a e few));
    stays = λ z. refl;
    stops = λ z. cc;
  }

  pub goes_now : (vs : List (Running P)) (order : List ℕ) (log : List Entry) (on : Bool) → A vs order log on → on ≡ true → G vs order log false
  goes_now vs order log on a h = subst (λ (b : Bool). G vs order log b) (a.stays h) a.goes
