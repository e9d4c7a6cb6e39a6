-- A leader's turn, by how it ended.
use Rattle.std.proofs.Common.{◌≡◌, ◌∙◌, sym, ap, subst, refl, ℕ, ◌+◌, ◌<◌, true, false, List, [], ◌∷◌, ◌++◌, length, take, map, get_or, Option, Some, None, arith, length-append}
use Rattle.std.specs.Prelude.{slice_get, Contains, nat_le, option_map}
use Rattle.std.proofs.lemmas.Bool.Decides.{nat_tests}
use Rattle.nv_calls.specs.Calls.{Entry, entry}
use Rattle.nv_calls.specs.declared.calls.Event.{Event}
use Rattle.nv_calls.specs.Logs.{Start, served, IsLawful, live_after, live_from, live_next}
use Rattle.nv_threads.specs.Behaviours.{Behaviour, IsProcess}
use Rattle.nv_threads.specs.declared.turns.Want.TheVariants.{Any}
use Rattle.nv_threads.specs.declared.turns.Came.TheVariants.{Asked}
use Rattle.nv_replay.specs.declared.fate.Fate.TheVariants.{Memory, Exited}
use Rattle.nv_replay.specs.Follow.{IsInStep}
use Rattle.nv_replay.specs.Lead.{is_memory, next_call}
use Rattle.nv_replay.specs.Version.{Running, IsLiveLeader, asking_next, became_event, leader_of}
use Rattle.nv_replay.specs.Spans.{grown}
use Rattle.nv_replay.proofs.Leading.{AskedFor, asks, asking_cases, ending_cases, lead_dropped, lead_refused, lead_served}
use Rattle.nv_replay.proofs.Stepping.{same_live, none_back, exited_some}
use Rattle.nv_replay.proofs.Spanning.{grown_last}
use Rattle.nv_replay.proofs.Wholes.{get_map, length_map}
use Rattle.nv_replay.specs.Turns.{TookTurn}

-- the event after a log
pub get_last : (log : List Entry) (e : Entry) → slice_get (log ++ e ∷ []) (length log) ≡ Some e
get_last [] e = refl
get_last (d ∷ log) e = get_last log e

pub live_last : (live : List ℕ) (log : List Entry) (e : Entry) → live_from live (log ++ e ∷ []) ≡ live_next (live_from live log) e
live_last live [] e = refl
live_last live (d ∷ log) e = live_last (live_next live d) log e

pub take_all : (log : List Entry) → take (length log) log ≡ log
take_all [] = refl
take_all (e ∷ log) = ap (λ x. e ∷ x) (take_all log)

not_memory : (o : Option ℕ) → is_memory (option_map Exited o) ≡ false
not_memory None = refl
not_memory (Some s) = refl

module _ {P : Type 0} (g : Behaviour P) (laws : IsProcess g) (replies : Start) (most : ℕ) (r : Running P) (log : List Entry) where
  -- a thread that asks lives and waits
  pub record Waits (n : Running P) (t : ℕ) : Type 0 where
    pub pending : g.pending n.at.process t ≡ true
    pub lives : Contains (g.live n.at.process) t
    pub live : g.live n.at.process ≡ live_after log
    pub seen : n.at.seen ≡ length log
    pub few : length log < most

  waits_at : (t : ℕ) → r.at.fate ≡ None → r.at.seen ≡ length log → IsInStep g log r.at → g.came r.at.process Any ≡ Asked t
      → nat_le most r.at.seen ≡ false → Waits (asks g most r t) t
  waits_at t f s i c m =
      let l : g.live (g.after r.at.process Any) ≡ g.live r.at.process = laws.live_after r.at.process Any in
      let all : take r.at.seen log ≡ log = rw s (take_all log) in record {
        pending = laws.asked r.at.process Any t c;
        lives = subst (λ (x : List ℕ). Contains x t) (sym l) (laws.any r.at.process t (i.on f) c);
        live = l ∙ (i.live f ∙ ap live_after all);
        seen = s;
        few = grind (arith, nat_tests);
      }

  pub waits : (n : Running P) (t : ℕ) → IsLiveLeader r → r.at.seen ≡ length log → IsInStep g log r.at → n ≡ asking_next g most r
      → n.asked ≡ Some t → Waits n t
  waits n t d s i h k =
      let a = asking_cases g most r n t d.none_asked h k in
      subst (λ (x : Running P). Waits x t) (sym a.new) (waits_at t d.on s i a.came a.few)

  -- it ended by a fault
  pub turn_dropped : (n : Running P) → IsLiveLeader r → r.at.seen ≡ length log → IsInStep g log r.at → n ≡ asking_next g most r
      → n.asked ≡ None → TookTurn g replies most r n log log
  turn_dropped n d s i h k =
      let e = ending_cases g most r n d.none_asked h k in record {
        step = λ c q. lead_dropped g replies most c r log n s d.none_asked d.on h k;
        same = λ z. let y : false ≡ true = sym e.fault ∙ z in cc;
        grew = λ z. absurd (e.ended z);
        on = record {
          index = ap (λ (x : Running P). x.index) e.rest;
          rewrites = ap (λ (x : Running P). x.at.rewrites) e.rest;
          seen = ap (λ (x : Running P). x.at.seen) e.rest ∙ s;
          span = λ prefix from q. ap (λ (x : Running P). x.led) e.rest ∙
              (q ∙ ap (λ (m : ℕ). prefix ++ (from, m) ∷ []) (sym (ap (λ (x : Running P). x.at.seen) e.rest)));
          leading = ap (λ (x : Running P). x.leading) e.rest;
          in_step = record {
            within = rw (ap (λ (x : Running P). x.at.seen) e.rest) i.within;
            live = λ z. absurd (e.ended z);
            on = λ z.
                absurd (e.ended z);
            exited = λ z. let y : false ≡ true = sym e.dead ∙ z in cc;
          };
          asked = λ z. k;
        };
      }

  refused_at : (n : Running P) (t : ℕ) → IsLiveLeader r → r.at.seen ≡ length log → IsInStep g log r.at → AskedFor g most r n t
      → TookTurn g replies most r (record n { at = record n.at { fate = Some Memory } }) log log
  refused_at n t d s i a =
      let seen : n.at.seen ≡ r.at.seen = ap (λ (x : Running P). x.at.seen) a.new in record {
        step = λ c q. lead_refused g replies most c r log n t s d.on a q;
        same = λ z. refl;
        grew = λ z. cc;
        on = record {
          index = ap (λ (x : Running P). x.index) a.new;
          rewrites = ap (λ (x : Running P). x.at.rewrites) a.new;
          seen = seen ∙ s;
          span = λ prefix from q. ap (λ (x : Running P). x.led) a.new ∙ (q ∙ ap (λ (m : ℕ). prefix ++ (from, m) ∷ []) (sym seen));
          leading = ap (λ (x : Running P). x.leading) a.new;
          in_step = record { within = rw seen i.within; live = λ z. cc; on = λ z. cc; exited = λ z. cc };
          asked = λ z. cc;
        };
      }

  -- memory was refused
  pub turn_refused : (n m : Running P) (t : ℕ) → IsLiveLeader r → r.at.seen ≡ length log → IsInStep g log r.at → n ≡ asking_next g most r
      → n.asked ≡ Some t → m ≡ record n { at = record n.at { fate = Some Memory } } → TookTurn g replies most r m log log
  turn_refused n m t d s i h k q =
      let a = asking_cases g most r n t d.none_asked h k in
      let T : Running P → Type 0 = λ x. TookTurn g replies most r x log log in
      subst T (sym q) (refused_at n t d s i a)

  -- the event that the call has become
  served_at : (n : Running P) (t : ℕ) (e : Entry) → e ≡ served replies log (g.call n.at.process t) → IsLiveLeader r → r.at.seen ≡ length log
      → IsInStep g log r.at → AskedFor g most r n t → Waits n t → IsLawful (log ++ e ∷ [])
      → TookTurn g replies most r (became_event g e n) log (log ++ e ∷ [])
  served_at n t e ee d s i a w law =
      let seen : n.at.seen ≡ r.at.seen = ap (λ (x : Running P). x.at.seen) a.new in
      let led : n.led ≡ r.led = ap (λ (x : Running P). x.led) a.new in
      let one : length (log ++ e ∷ []) ≡ length log + 1 = length-append log (e ∷ []) in
      let tid : e.call.tid ≡ t = ap (λ (x : Entry). x.call.tid) ee ∙ laws.own n.at.process t in
      let call : g.call n.at.process t ≡ e.call = sym (ap (λ (x : Entry). x.call) ee) in
      let may = law (length log) e (get_last log e) in
      let live : g.live (g.answered n.at.process t e.reply) ≡ live_after (log ++ e ∷ []) = same_live g laws (λ c x. 0) n.at.process t e
      w.pending w.lives call ∙ (ap (λ x. live_next x e) w.live ∙ sym (live_last (100 ∷ []) log e)) in
      let all : take (n.at.seen + 1) (log ++ e ∷ []) ≡ log ++ e ∷ [] = rw (seen, s, ← one) (take_all (log ++ e ∷ [])) in
      let P' : ℕ → Type 0 = λ u. IsInStep g (log ++ e ∷ [])
      (record n.at {
        process = g.answered n.at.process u e.reply;
        seen = n.at.seen + 1;
        fate = option_map Exited
            (g.ended (g.answered n.at.process u e.reply));
      }) in
      let in_step : P' t = record {
        within = omega (arith, one, seen, s);
        live = λ z. live ∙ ap live_after (sym all);
        on = λ z. none_back
            (g.ended (g.answered n.at.process t e.reply)) z;
        exited = λ z. let x = exited_some (g.ended (g.answered n.at.process t e.reply)) z
            in ap live_after all ∙ (sym live ∙ laws.lives (g.answered n.at.process t e.reply) x.0 x.1);
      } in
      record {
        step = λ c q.
            let T : Entry → Type 0 = λ x. leader_of (became_event g x n) (log ++ x ∷ []) ≡ next_call g replies most c (leader_of r log) in
            subst T (sym ee) (lead_served g replies most c r log n t laws s d.on a
            (q ∙ not_memory (g.ended (g.answered n.at.process e.call.tid e.reply))));
        same = λ z. let y : false ≡ true = sym (not_memory (g.ended (g.answered n.at.process e.call.tid e.reply))) ∙ z in cc;
        grew = λ z. one;
        on = record {
          index = ap (λ (x : Running P). x.index) a.new;
          rewrites = ap (λ (x : Running P). x.at.rewrites) a.new;
          seen = omega (arith, one, seen, s);
          span = λ prefix from q. ap grown (led ∙ q) ∙ (grown_last prefix from r.at.seen ∙ ap (λ (m : ℕ). prefix ++ (from, m + 1) ∷ []) (sym seen));
          leading = ap (λ (x : Running P). x.leading) a.new;
          in_step = subst P' (sym tid) in_step;
          asked = λ z. refl;
        };
      }

  -- the call was served
  pub turn_served : (n m : Running P) (t : ℕ) (new_log : List Entry) → IsLiveLeader r → r.at.seen ≡ length log → IsInStep g log r.at
      → n ≡ asking_next g most r → n.asked ≡ Some t → new_log ≡ log ++ served replies log (g.call n.at.process t) ∷ []
      → m ≡ became_event g (served replies log (g.call n.at.process t)) n → IsLawful new_log → TookTurn g replies most r m log new_log
  turn_served n m t new_log d s i h k l q law =
      let a = asking_cases g most r n t d.none_asked h k in
      let w = waits n t d s i h k in
      let e : Entry = served replies log (g.call n.at.process t) in
      let x = served_at n t e refl d s i a w (subst IsLawful l law) in
      let T : Running P → List Entry → Type 0 = λ y z. TookTurn g replies most r y log z in
      subst (λ (y : Running P). T y new_log) (sym q) (subst (λ (z : List Entry). T (became_event g e n) z) (sym l) x)

some_same : {X : Type 0} (a b : X) → Some a ≡ Some b → a ≡ b
some_same a b h = cc

-- the last event of a kernel's history
pub event_is : (xs : List Event) (log : List Entry) (e : Entry) (i : ℕ) (d : Event) → map entry xs ≡ log ++ e ∷ [] → i ≡ length log
    → d ≡ get_or xs i d → entry d ≡ e
event_is xs log e i d h k q =
    let one : length (log ++ e ∷ []) ≡ length log + 1 = length-append log (e ∷ []) in
    let l : length xs ≡ length log + 1 = sym (length_map xs) ∙ (ap length h ∙ one) in
    let a : slice_get (map entry xs) i ≡ Some (entry d) = get_map xs i d (omega arith) q in
    let b : slice_get (map entry xs) i ≡ Some e = rw (h, k) (get_last log e) in
    some_same (entry d) e (sym a ∙ b)
