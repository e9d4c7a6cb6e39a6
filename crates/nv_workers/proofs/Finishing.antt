-- From the workers that have ended and what the room's end tells to the account.
use Rattle.std.proofs.Common.{◌≡◌, false, ◌∙◌, sym, ap, subst, refl, ℕ, zero, suc, ◌+◌, ◌<◌, List, [], ◌∷◌, ◌++◌, map, length, get_or, Some, arith}
use Rattle.std.proofs.lemmas.Option.{same_Some}
use Rattle.std.specs.Prelude.{slice_get}
use mathlib.Core.Option.{some, some-injective}
use lib.ListN.{get_elem?}
use Rattle.nv_calls.specs.Calls.{Entry}
use Rattle.nv_calls.specs.Logs.{IsLawful, IsLegal, Start}
use Rattle.nv_calls.specs.declared.kernel.SyscallKernel.{Ghosts}
use Rattle.nv_words.specs.Spelling.{spell}
use Rattle.nv_room.specs.declared.view.View.{View}
use Rattle.nv_room.specs.declared.view.Span.{Span}
use Rattle.nv_room.specs.declared.room.Room.{Room}
use Rattle.nv_replay.specs.Follow.{Judge}
use Rattle.nv_room.specs.declared.room.Left.{Left}
use Rattle.nv_room.specs.Placement.{Log}
use Rattle.nv_room.specs.Spans.{Before, of_version, IsLastStation, Opened}
use Rattle.nv_room.specs.Seats.{IsLeftOf, left_view, version_of_left, versions_of, hands_of, on_demand_of, first_view, origin}
use Rattle.nv_room.specs.Lefts.{IsEach, TellsOf, AllTell}
use Rattle.nv_threads.specs.Threads.{Proc, threads}
use Rattle.nv_replay.specs.LettingGo.{NoneLetGo}
use Rattle.nv_replay.specs.Version.{Running, standing_of}
use Rattle.nv_replay.specs.Account.{AreFresh}
use Rattle.nv_workers.specs.declared.worker.Seat.{Seat}
use Rattle.nv_workers.specs.declared.worker.Seat.TheVariants.{Reading, Leading, Gone, Moving}
use Rattle.nv_workers.specs.declared.worker.Worker.{Worker}
use Rattle.nv_workers.specs.Ends.{IsAccount}
use Rattle.nv_workers.specs.Working.{HasEnded}
use Rattle.nv_workers.specs.Worker.{WorksAt, version_of_seat, IsGone}
use Rattle.nv_workers.specs.inner.Rounds.{CanAll, WorkedOn, AllOn, AreGone}
use Rattle.nv_workers.specs.Staffing.{IsNewWorker, AreNew}
use Rattle.nv_workers.specs.Ran.{AreApart, HasRun, HaveRun, AllRan}
use Rattle.nv_workers.proofs.Ending.{IsTold, AreTold, ending}
use Rattle.nv_room.specs.Room.{Became}

-- Workers are taken apart

module _ {K : Type 0} {G : Ghosts K} where
  pub apart_more : (ws : List (Worker K G)) (vs : List (Running Proc)) (ls : List (Left K G)) (w : Worker K G) (l : Left K G) → AreApart ws vs ls → w.seat ≡ Gone l
      → AreApart (ws ++ w ∷ []) (vs ++ w.version ∷ []) (ls ++ l ∷ [])
  apart_more [] [] [] w l a s = (refl, s, tt)
  apart_more [] [] (m ∷ ls) w l a s = absurd a
  apart_more [] (v ∷ vs) ls w l a s = absurd a
  apart_more (u ∷ ws) [] ls w l a s = absurd a
  apart_more (u ∷ ws) (v ∷ vs) [] w l a s = absurd a
  apart_more (u ∷ ws) (v ∷ vs) (m ∷ ls) w l a s = (a.0, a.1, apart_more ws vs ls w l a.2 s)

  pub gone_at : (ws : List (Worker K G)) → AreGone ws → (k : ℕ) (w : Worker K G) → k < length ws → w ≡ get_or ws k w → IsGone w.seat
  gone_at [] g k w l e = absurd (omega arith)
  gone_at (u ∷ ws) g zero w l e = subst (λ (x : Worker K G). IsGone x.seat) (sym e) g.0
  gone_at (u ∷ ws) g (suc k) w l e = gone_at ws g.1 k w (omega arith) e

  -- a seat that has left is one
  pub is_gone : (s : Seat K G) → IsGone s → ((l : Left K G) → s ≡ Gone l → ⊥) → ⊥
  is_gone (Reading r held) g n = g
  is_gone (Leading l asked) g n = g
  is_gone (Gone l) g n = n l refl
  is_gone Moving g n = g

  pub same_all : (ws : List (Worker K G)) → map (λ w. w) ws ≡ ws
  same_all [] = refl
  same_all (w ∷ ws) = ap (λ (x : List (Worker K G)). w ∷ x) (same_all ws)

-- The workers of a run

module _ (judges : ℕ → Judge) {K : Type 0} {G : Ghosts K} (room : Room K) (most : ℕ) where
  pub can_new : (i : ℕ) (fs : List (Running Proc)) (ws : List (Worker K G)) → AreNew room i fs ws → CanAll judges room most ws
  can_new i [] [] n = tt
  can_new i [] (w ∷ ws) n = absurd n
  can_new i (f ∷ fs) [] n = absurd n
  can_new i (f ∷ fs) (w ∷ ws) n = ((f.at.process, n.0.works judges most), can_new (i + 1) fs ws n.1)

  fresh_new : (i : ℕ) (fs : List (Running Proc)) (ws : List (Worker K G)) → AreNew room i fs ws → AreFresh threads i fs
  fresh_new i [] ws n = tt
  fresh_new i (f ∷ fs) [] n = absurd n
  fresh_new i (f ∷ fs) (w ∷ ws) n = (n.0.fresh, fresh_new (i + 1) fs ws n.1)

  ran_one : (i : ℕ) (f v : Running Proc) (w w2 : Worker K G) (l : Left K G) → IsNewWorker room i f w → WorkedOn judges room most w w2 → w2.version ≡ v → w2.seat ≡ Gone l → HasRun judges room most i f v l
  ran_one i f v w w2 l n on same gone =
      let p : Proc = f.at.process in
      let a : WorksAt judges room most p w2.version w2.buf w2.seat = on.works p (n.works judges most) in
      let b : WorksAt judges room most p w2.version w2.buf (Gone l) = subst (λ (s : Seat K G). WorksAt judges room most p w2.version w2.buf s) gone a in
      let at : version_of_left l ≡ i = sym (ap (λ (s : Seat K G). version_of_seat s) gone) ∙ (on.version ∙ n.version) in
      record {
        of = b.0;
        version = at;
        ended = subst (λ (j : ℕ). HasEnded judges most (hands_of room) (on_demand_of room) j p v (left_view l)) at
            (subst (λ (u : Running Proc). HasEnded judges most (hands_of room) (on_demand_of room) (version_of_left l) p u (left_view l)) same b.1);
      }

  have_run : (i : ℕ) (fs : List (Running Proc)) (ws us : List (Worker K G)) (vs : List (Running Proc)) (ls : List (Left K G))
      → AreNew room i fs ws → AllOn judges room most ws us → AreApart us vs ls → HaveRun judges room most i fs vs ls
  have_run i [] [] [] [] [] n a p = tt
  have_run i [] [] [] [] (l ∷ ls) n a p = absurd p
  have_run i [] [] [] (v ∷ vs) ls n a p = absurd p
  have_run i [] [] (u ∷ us) vs ls n a p = absurd a
  have_run i [] (w ∷ ws) us vs ls n a p = absurd n
  have_run i (f ∷ fs) [] us vs ls n a p = absurd n
  have_run i (f ∷ fs) (w ∷ ws) [] vs ls n a p = absurd a
  have_run i (f ∷ fs) (w ∷ ws) (u ∷ us) [] ls n a p = absurd p
  have_run i (f ∷ fs) (w ∷ ws) (u ∷ us) (v ∷ vs) [] n a p = absurd p
  have_run i (f ∷ fs) (w ∷ ws) (u ∷ us) (v ∷ vs) (l ∷ ls) n a p =
      (ran_one i f v w u l n.0 a.0 p.0 p.1, have_run (i + 1) fs ws us vs ls n.1 a.1 p.2)

  long_new : (i : ℕ) (fs : List (Running Proc)) (ws : List (Worker K G)) → AreNew room i fs ws → length ws ≡ length fs
  long_new i [] [] n = refl
  long_new i [] (w ∷ ws) n = absurd n
  long_new i (f ∷ fs) [] n = absurd n
  long_new i (f ∷ fs) (w ∷ ws) n = let h = long_new (i + 1) fs ws n.1 in omega arith

  pub long_run : (i : ℕ) (fs vs : List (Running Proc)) (ls : List (Left K G)) → HaveRun judges room most i fs vs ls → (length ls ≡ length fs) × (length vs ≡ length fs)
  long_run i [] [] [] r = (refl, refl)
  long_run i [] [] (l ∷ ls) r = absurd r
  long_run i [] (v ∷ vs) ls r = absurd r
  long_run i (f ∷ fs) [] ls r = absurd r
  long_run i (f ∷ fs) (v ∷ vs) [] r = absurd r
  long_run i (f ∷ fs) (v ∷ vs) (l ∷ ls) r = let h = long_run (i + 1) fs vs ls r.1 in ((let a = h.0 in omega arith), (let b = h.1 in omega arith))

  -- what run_all promises
  pub all_ran : (fs : List (Running Proc)) (ws us : List (Worker K G)) (vs : List (Running Proc)) (ls : List (Left K G)) → AreNew room 0 fs ws → length ws ≡ versions_of room
      → AllOn judges room most ws us → AreApart us vs ls → AllRan judges room most fs vs ls
  all_ran fs ws us vs ls n all on apart =
      let r = have_run 0 fs ws us vs ls n on apart in
      record { fresh = fresh_new 0 fs ws n; ran = r; all = (long_run 0 fs vs ls r).0 ∙ (sym (long_new 0 fs ws n) ∙ all) }

-- The room's end

module _ {K : Type 0} {G : Ghosts K} where
  pub left_there : (ls : List (Left K G)) (k : ℕ) → k < length ls → (l : Left K G) × (get_elem? ls k ≡ some l)
  left_there [] k h = absurd (omega arith)
  left_there (l ∷ ls) zero h = (l, refl)
  left_there (l ∷ ls) (suc k) h = left_there ls k (omega arith)

  -- the view of the seat at this place
  abbrev view_at : View K → List (Left K G) → ℕ → View K
  view_at d [] k = d
  view_at d (l ∷ ls) zero = left_view l
  view_at d (l ∷ ls) (suc k) = view_at d ls k

  view_here : (d : View K) (ls : List (Left K G)) (k : ℕ) (l : Left K G) → get_elem? ls k ≡ some l → view_at d ls k ≡ left_view l
  view_here d [] k l e = cc
  view_here d (m ∷ ls) zero l e = ap left_view (some-injective m l e)
  view_here d (m ∷ ls) (suc k) l e = view_here d ls k l e

module _ (judges : ℕ → Judge) {K : Type 0} {G : Ghosts K} (room : Room K) (most : ℕ) where
  left_at : (i : ℕ) (fs vs : List (Running Proc)) (ls : List (Left K G)) → HaveRun judges room most i fs vs ls → (k : ℕ) (l : Left K G) → get_elem? ls k ≡ some l
      → IsLeftOf room l × (version_of_left l ≡ i + k)
  left_at i fs vs [] r k l e = cc
  left_at i [] [] (m ∷ ls) r k l e = absurd r
  left_at i [] (v ∷ vs) (m ∷ ls) r k l e = absurd r
  left_at i (f ∷ fs) [] (m ∷ ls) r k l e = absurd r
  left_at i (f ∷ fs) (v ∷ vs) (m ∷ ls) r zero l e =
      let s : m ≡ l = some-injective m l e in
      let at = r.0.version in (
        subst (λ (x : Left K G). IsLeftOf room x) s r.0.of,
        subst (λ (x : Left K G). version_of_left x ≡ i + 0) s (omega arith),
      )
  left_at i (f ∷ fs) (v ∷ vs) (m ∷ ls) r (suc k) l e = let q = left_at (i + 1) fs vs ls r.1 k l e in (q.0, (let at = q.1 in omega arith))

  -- the seat of each version has left, once
  pub is_each : {fs vs : List (Running Proc)} {ls : List (Left K G)} → AllRan judges room most fs vs ls → IsEach room ls
  is_each {fs} {vs} {ls} a = (
    record {
      table = λ k l e. (left_at 0 fs vs ls a.ran k l e).0;
      apart = λ j k l m e f s. let p = (left_at 0 fs vs ls a.ran j l e).1 in let q = (left_at 0 fs vs ls a.ran k m f).1 in omega arith;
    },
    λ s h. let x = left_there ls s (let all = a.all in omega arith) in (s, x.0, x.1, (let p = (left_at 0 fs vs ls a.ran s x.0 x.1).1 in omega arith)),
  )

  ended_at : (d : View K) (i : ℕ) (fs vs : List (Running Proc)) (ls : List (Left K G)) → HaveRun judges room most i fs vs ls → (k : ℕ) (old new : Running Proc)
      → slice_get fs k ≡ Some old → slice_get vs k ≡ Some new → HasEnded judges most (hands_of room) (on_demand_of room) (i + k) old.at.process new (view_at d ls k)
  ended_at d i [] vs ls r k old new a b = cc
  ended_at d i (f ∷ fs) [] ls r k old new a b = absurd r
  ended_at d i (f ∷ fs) (v ∷ vs) [] r k old new a b = absurd r
  ended_at d i (f ∷ fs) (v ∷ vs) (l ∷ ls) r zero old new a b =
      let z : i ≡ i + 0 = omega arith in
      subst (λ (j : ℕ). HasEnded judges most (hands_of room) (on_demand_of room) j old.at.process new (left_view l)) z
      (subst (λ (x : Running Proc). HasEnded judges most (hands_of room) (on_demand_of room) i x.at.process new (left_view l)) (same_Some f old a)
      (subst (λ (x : Running Proc). HasEnded judges most (hands_of room) (on_demand_of room) i f.at.process x (left_view l)) (same_Some v new b) r.0.ended))
  ended_at d i (f ∷ fs) (v ∷ vs) (l ∷ ls) r (suc k) old new a b =
      let z : i + 1 + k ≡ i + suc k = omega arith in
      subst (λ (j : ℕ). HasEnded judges most (hands_of room) (on_demand_of room) j old.at.process new (view_at d ls k)) z (ended_at d (i + 1) fs vs ls r.1 k old new a b)

  -- what the seat of version k tells
  told_one : (history : Log) (counts : List ℕ) (spans : List Span) (seating : List ℕ) (k : ℕ) (l : Left K G) → version_of_left l ≡ k → TellsOf history counts spans seating l
      → IsTold history spans seating k (left_view l)
  told_one history counts spans seating k l at t = record {
    seen = t.seen;
    read = t.read;
    led = t.led ∙ ap (λ (j : ℕ). of_version j spans) at;
    last = (let L : ℕ → ℕ → Type 0 = λ j s. IsLastStation seating j s in subst (λ (s : ℕ). L k s) (sym l.station_is) (subst (λ (j : ℕ). L j l.station) at t.last));
    before = subst (λ (s : ℕ). Before spans s (left_view l).seen (left_view l).read) (sym l.station_is) t.before;
  }

  told_by : (d : View K) (kernel : K) (history : Log) (counts : List ℕ) (fs vs : List (Running Proc)) (ls : List (Left K G)) (a : AllRan judges room most fs vs ls) → AllTell room kernel history counts ls
      → length counts ≡ versions_of room → AreTold (hands_of room) (Became G.start G.handed (origin room) kernel) history (versions_of room) (view_at d ls)
  told_by d kernel history counts fs vs ls a t wide = record {
    spans = t.spans;
    seating = t.seating;
    tile = t.tile;
    rise = t.rise;
    made = t.made;
    first = λ k h. t.first k (omega arith);
    opened = subst (λ (n : ℕ). Opened n t.seating t.spans) wide t.opened;
    asked = t.asked;
    each = λ k h.
        let x = left_there ls k (let all = a.all in omega arith) in
        let at : version_of_left x.0 ≡ k = (let q = (left_at 0 fs vs ls a.ran k x.0 x.1).1 in omega arith) in
        subst (λ (w : View K). IsTold history t.spans t.seating k w) (sym (view_here d ls k x.0 x.1)) (told_one history counts t.spans t.seating k x.0 at (t.each k x.0 x.1));
  }

  -- where leaders don't hand over on demand, no version was let go
  pub none_let_go : (i : ℕ) (fs vs : List (Running Proc)) (ls : List (Left K G)) → HaveRun judges room most i fs vs ls → on_demand_of room ≡ false → NoneLetGo (map standing_of vs)
  none_let_go i [] [] [] r off = tt
  none_let_go i [] [] (l ∷ ls) r off = absurd r
  none_let_go i [] (v ∷ vs) ls r off = absurd r
  none_let_go i (f ∷ fs) [] ls r off = tt
  none_let_go i (f ∷ fs) (v ∷ vs) [] r off = absurd r
  none_let_go i (f ∷ fs) (v ∷ vs) (l ∷ ls) r off = (r.0.ended.stays off, none_let_go (i + 1) fs vs ls r.1 off)

  -- what `end` promises
  pub accounted : {fs vs : List (Running Proc)} {ls : List (Left K G)} → AllRan judges room most fs vs ls → (start : Start) (kernel : K) (h : List Entry) {counts : List ℕ}
      → IsLawful h → IsLegal start h → AllTell room kernel (map spell h) counts ls → length counts ≡ versions_of room
      → (asked : List ℕ) × (on_demand_of room ≡ false → asked ≡ []) × IsAccount threads judges start most (hands_of room ++ asked) fs vs h × Became G.start G.handed (origin room) kernel asked
  accounted {fs} {vs} {ls} a start kernel h {counts} law legal t wide =
      let d : View K = first_view room 0 in
      let long = long_run judges room most 0 fs vs ls a.ran in
      let all : length vs ≡ versions_of room = long.1 ∙ (sym long.0 ∙ a.all) in
      ending judges start most (hands_of room) (on_demand_of room) h (versions_of room) (view_at d ls) law (Became G.start G.handed (origin room) kernel) (told_by d kernel (map spell h) counts fs vs ls a t wide) fs vs a.fresh long.1 all legal
      (λ k old new o n. let z : 0 + k ≡ k = omega arith in
      subst (λ (j : ℕ). HasEnded judges most (hands_of room) (on_demand_of room) j old.at.process new (view_at d ls k)) z (ended_at d 0 fs vs ls a.ran k old new o n))
