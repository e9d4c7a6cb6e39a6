-- Where what answers stands, where more comes and where a call is answered.
use Rattle.std.proofs.Common.{◌≡◌, ◌∙◌, sym, ap, subst, refl, ℕ, ℤ, ◌<◌, ◌≤◌, Bool, true, false, List, [], ◌∷◌, ◌++◌, length, map, take, drop, arith}
use Rattle.nv_calls.specs.Answer.{Answer, reply_of, state_after}
use Rattle.nv_calls.specs.Calls.{Request, Response, Entry}
use Rattle.nv_calls.specs.Logs.{IsNew, made, served, child_of, calls_of, live_after, live_next}
use Rattle.nv_calls.specs.Shapes.{IsShaped}
use Rattle.nv_calls.proofs.LogLaws.{live_more}
use Rattle.nv_script.specs.Scripts.{Setup}
use Rattle.nv_calls.specs.Learning.{GoesOn}
use Rattle.nv_kernel.specs.Answering.{MayCome, IsAnswer}
use Rattle.nv_kernel.specs.Crew.{Crew, IsCrew}
use Rattle.nv_kernel.proofs.CrewLaws.{first_is}
use Rattle.nv_kernel.proofs.Crews.{live_by}
use Rattle.nv_kernel.proofs.Going.{log_more}
use Rattle.nv_sockets.specs.Serving.{State}
use Rattle.nv_script.specs.Arrivals.{Arrival}
use Rattle.nv_script.specs.Doings.{Said, Doing, Takes, Says, handing}
use Rattle.nv_arriving.specs.Arrivals.{in_vain}
use Rattle.nv_arriving.specs.Arriving.{Standing, Stage, wait_of, arrive_all, taken, ready_for, serve_by, answer_next, serve_next, first_stage, Satisfied, start_of_arrivals}
use Rattle.nv_arriving.specs.declared.timing.Until.{Until}
use Rattle.nv_arriving.specs.declared.waiting.Intake.{Intake}
use Rattle.nv_arriving.specs.Timing.{until_of}
use Rattle.nv_arriving.specs.Doings.{said}
use Rattle.nv_arriving.specs.Kernel.{Coming, KeepsOn, after, Grew}
use Rattle.nv_arriving.specs.Reserved.{Room}
use Rattle.nv_arriving.specs.Scripted.{start_from}
use Rattle.nv_arriving.specs.Standing.{StandsAt, StandsListed}
use Rattle.nv_arriving.specs.Telling.{Adds, Tells, HasHanded}
use Rattle.nv_arriving.proofs.Kept.{goes, staged, satisfied, satisfied_served, log_served, log_clones}
use Rattle.nv_arriving.proofs.LaterLaws.{vain_state, Steps, any_step}
use Rattle.nv_arriving.proofs.Sides.{crew_still}
use Rattle.nv_arriving.proofs.Staged.{reply_is}
use Rattle.nv_arriving.proofs.Told.{told_heard, told_served, told_asked, handed_first, handed_heard, handed_served}

module _ {O : Type 0} (did : O → O → List Doing → Type 0) (is_over : O → Type 0) where
  -- before the first call
  pub stands_first : (setup : Setup) (came : List Arrival) (g : Coming O) → g.stage ≡ first_stage setup came → g.came ≡ came → (g.over ≡ true → is_over g.outside) → Tells did g.begun g.outside setup g.came [] → StandsAt did is_over g setup []
  stands_first setup came g e c ended told = record {
    stage = e ∙ ap (first_stage setup) (sym c);
    satisfied = λ _. tt;
    ended = ended;
    told = told;
    live = ap (λ (z : Stage). z.here.state.own.crew.live) (sym e);
    crew = subst (λ (z : Stage). IsCrew z.here.state.own.crew) (sym e) first_is;
  }

  pub hands_first : (g : Coming O) (outside : O) (setup : Setup) (log : List Entry) → g.begun ≡ outside → g.outside ≡ outside → g.came ≡ [] → log ≡ [] → HasHanded did g.begun g.outside setup g.came log []
  hands_first g outside setup log begun now came none =
      subst (λ (z : List Entry). HasHanded did g.begun g.outside setup g.came z []) (sym none)
      (subst (λ (z : List Arrival). HasHanded did g.begun g.outside setup z [] []) (sym came)
      (subst (λ (z : O). HasHanded did g.begun z setup [] [] []) (begun ∙ sym now)
      (handed_first did g.begun setup)))

  -- no more calls were answered, and no more threads made, than a log may have
  pub few_served : (g : Coming O) (c : Request) → MayCome (StandsAt did is_over g) c → g.stage.here.state.own.served < 500000000
  few_served g c m =
      let count = ap (λ (z : Stage). z.here.state.own.served) m.here.stage in
      let calls = log_served m.setup g.came m.log in
      let few = m.few in
      omega (arith, count, calls, few)

  pub few_clones : (g : Coming O) (c : Request) → MayCome (StandsAt did is_over g) c → g.stage.here.state.own.crew.clones < 500000000
  few_clones g c m =
      let count = ap (λ (z : Stage). z.here.state.own.crew.clones) m.here.stage in
      let calls = log_clones m.setup g.came m.log in
      let few = m.few in
      omega (arith, count, calls, few)

  -- ---- where more comes

  module _ (begun old new : O) (before now : List Arrival) (found found' : Intake) (s : Standing) (used : ℕ) (over over' keeps : Bool) (room room' : Room)
      (few : used ≤ length before) (was : over' ≡ false → over ≡ false) (same : over ≡ true → now ≡ before) (grew : Grew before now) (adds : Adds did old new (map Takes (after before now)))
      (ended : (over ≡ true → is_over old) → over' ≡ true → is_over new) where
    abbrev earlier : Coming O
    earlier = record { stage = record { here = s; rest = drop used before }; begun = begun; outside = old; came = before; intake = found; over = over; keeps = keeps; room = room }

    abbrev later : Coming O
    later = record { stage = record { here = s; rest = drop used now }; begun = begun; outside = new; came = now; intake = found'; over = over'; keeps = keeps; room = room' }

    pub stands_heard : (setup : Setup) (log : List Entry) → StandsAt did is_over earlier setup log → StandsAt did is_over later setup log
    stands_heard setup log k = record {
      stage = staged setup before now log log s used over refl few k.stage k.satisfied same grew;
      satisfied = satisfied setup before now log log over over' refl k.satisfied was grew;
      ended = ended k.ended;
      told = told_heard did begun setup old new before now log log over refl k.satisfied same grew adds k.told;
      live = k.live;
      crew = k.crew;
    }

    pub hands_heard : (setup : Setup) (log : List Entry) (lengths : List ℕ) → StandsAt did is_over earlier setup log → HasHanded did begun old setup before log lengths → HasHanded did begun new setup now log lengths
    hands_heard setup log lengths k = handed_heard did begun setup old new before now log log over refl k.satisfied same grew adds lengths

    pub goes_heard : (setup : Setup) (log : List Entry) → StandsAt did is_over earlier setup log → GoesOn log (start_of_arrivals setup before) (start_of_arrivals setup now)
    goes_heard setup log k = goes setup before now log over k.satisfied same grew

  -- ---- where it is asked whether the leader hands over

  pub stands_asked : (g : Coming O) (new : O) (answer : Bool) (n : ℕ) → Adds did g.outside new (handing answer n) → (is_over g.outside → is_over new) → (setup : Setup) (log : List Entry) → StandsAt did is_over g setup log
      → StandsAt did is_over (record g { outside = new }) setup log
  stands_asked g new answer n adds stays setup log k = record {
    stage = k.stage;
    satisfied = k.satisfied;
    ended = λ o. stays (k.ended o);
    told = told_asked did g.begun setup g.came log g.outside new answer n adds k.told;
    live = k.live;
    crew = k.crew;
  }

  -- ---- where a call is answered

  module _ (g h : Coming O) (c : Request) (ret : ℤ) (payload : List ℕ) (shaped : IsShaped c)
      (begun : h.begun ≡ g.begun) (came : h.came ≡ g.came) (over : h.over ≡ g.over)
      (answer : answer_next g.stage c ≡ record { state = h.stage.here; ret = ret; payload = payload }) (next : h.stage ≡ (serve_next g.stage c).state)
      (waits : g.over ≡ false → in_vain (wait_of g.stage.here c) g.stage.rest ≡ false)
      (says : Adds did g.outside h.outside (map Says (said (ready_for g.stage c).state c ret h.stage.here.state)))
      (stays : is_over g.outside → is_over h.outside) where
    module _ (setup : Setup) (log : List Entry) (here : StandsAt did is_over g setup log) where
      abbrev e : Entry
      e = served (start_of_arrivals setup g.came) log c

      abbrev stage : Stage
      stage = state_after serve_next (first_stage setup g.came) (calls_of log)

      abbrev ready : Standing
      ready = ready_for g.stage c

      abbrev until : Until
      until = until_of g.stage.here c

      reply : (start_of_arrivals setup g.came).replies (calls_of log) c ≡ record { ret = ret; payload = payload }
      reply = reply_is setup g.came log c ∙ ap (λ (z : Stage). reply_of (answer_next z c)) (sym here.stage) ∙ ap reply_of answer

      crews : ready.state.own.crew ≡ g.stage.here.state.own.crew
      crews =
          let front : List Arrival = take (taken g.stage c) g.stage.rest in
          ap (λ (z : State). z.own.crew) (vain_state (in_vain (wait_of g.stage.here c) g.stage.rest) (arrive_all g.stage.here front)) ∙ crew_still g.stage.here front

      step : Steps ready c until
      step = any_step ready c until (subst IsCrew (sym crews) here.crew) shaped

      same_ret : e.reply.ret ≡ (serve_by ready c until).ret
      same_ret = ap (λ (r : Response). r.ret) reply ∙ sym (ap (λ (r : Answer Standing). r.ret) answer)

      threads : live_after log ≡ ready.state.own.crew.live
      threads = here.live ∙ ap (λ (z : Crew). z.live) (sym crews)

      new : IsNew (live_after log) (child_of e)
      new = subst (λ (z : List ℕ). IsNew z (child_of e)) (sym threads) (subst (λ (r : ℤ). IsNew ready.state.own.crew.live (made c.nr r)) (sym same_ret) step.new)

      live : live_after (log ++ e ∷ []) ≡ h.stage.here.state.own.crew.live
      live = live_more log e ∙ ap (λ (z : List ℕ). live_next z e) threads ∙ ap (λ (r : ℤ). live_by c.nr c.tid ready.state.own.crew.live r) same_ret
          ∙ sym step.live ∙ ap (λ (r : Answer Standing). r.state.state.own.crew.live) answer

      staged_next : h.stage ≡ state_after serve_next (first_stage setup g.came) (calls_of (log ++ e ∷ []))
      staged_next = next ∙ ap (λ (z : Stage). (serve_next z c).state) here.stage ∙ sym (log_more serve_next (first_stage setup g.came) log e)

      answer_then : answer_next stage c ≡ record { state = h.stage.here; ret = ret; payload = payload }
      answer_then = ap (λ (z : Stage). answer_next z c) (sym here.stage) ∙ answer

      says_then : Adds did g.outside h.outside (map Says (said (ready_for stage c).state c (answer_next stage c).ret (answer_next stage c).state.state))
      says_then = subst (λ (z : List Said). Adds did g.outside h.outside (map Says z))
          (λ j. said (ready_for (here.stage j) c).state c (sym answer_then j).ret (sym answer_then j).state.state) says

      told : Tells did g.begun h.outside setup g.came (log ++ e ∷ [])
      told = told_served did g.begun setup g.came log e g.outside h.outside (log ++ e ∷ []) refl says_then here.told

      next_at : StandsAt did is_over h setup (log ++ e ∷ [])
      next_at = record {
        stage = staged_next ∙ ap (λ (z : List Arrival). state_after serve_next (first_stage setup z) (calls_of (log ++ e ∷ []))) (sym came);
        satisfied = λ o. subst (λ z. Satisfied (first_stage setup z) (calls_of (log ++ e ∷ []))) (sym came)
            (satisfied_served (first_stage setup g.came) log e g.over here.satisfied (λ q. subst (λ (z : Stage). in_vain (wait_of z.here c) z.rest ≡ false) here.stage (waits q)) (sym over ∙ o));
        ended = λ o. stays (here.ended (sym over ∙ o));
        told = subst (λ (z : List Arrival). Tells did h.begun h.outside setup z (log ++ e ∷ [])) (sym came)
            (subst (λ (z : O). Tells did z h.outside setup g.came (log ++ e ∷ [])) (sym begun) told);
        live = live;
        crew = subst (λ (r : Answer Standing). IsCrew r.state.state.own.crew) answer step.is;
      }

      pub hands_served : (lengths : List ℕ) → HasHanded did g.begun g.outside setup g.came log lengths → HasHanded did h.begun h.outside setup h.came (log ++ e ∷ []) lengths
      hands_served lengths handed =
          subst (λ (z : List Arrival). HasHanded did h.begun h.outside setup z (log ++ e ∷ []) lengths) (sym came)
          (subst (λ (z : O). HasHanded did z h.outside setup g.came (log ++ e ∷ []) lengths) (sym begun)
          (handed_served did g.begun setup g.came log e g.outside h.outside (log ++ e ∷ []) refl says_then lengths handed))

    -- it answers as the definition says, wherever it stands
    pub is_answer : IsAnswer (λ setup. start_of_arrivals setup g.came) (StandsAt did is_over g) (StandsAt did is_over h) c ret payload
    is_answer = record { reply = reply; here = next_at; new = new }

  -- ---- over a script that lists all that comes

  pub listed_comes : (g : Coming O) (c : Request) → MayCome (StandsListed did is_over g) c → MayCome (StandsAt did is_over g) c
  listed_comes g c m = record { setup = m.setup; log = m.log; here = m.here.here; few = m.few; lives = m.lives }

  pub listed_heard : (g h : Coming O) (setup : Setup) (log : List Entry) → (StandsAt did is_over g setup log → StandsAt did is_over h setup log) → (g.over ≡ true → h.over ≡ true) → (g.over ≡ true → h.came ≡ g.came) → KeepsOn g h
      → StandsListed did is_over g setup log → StandsListed did is_over h setup log
  listed_heard g h setup log on over came still k = record { here = on k.here; over = over k.over; all = came k.over ∙ k.all; keeps = still.still ∙ k.keeps; kept = still.all k.keeps k.kept }

  pub listed_answer : (g h : Coming O) (c : Request) (ret : ℤ) (payload : List ℕ) → h.over ≡ g.over → h.came ≡ g.came → KeepsOn g h
      → IsAnswer (λ setup. start_of_arrivals setup g.came) (StandsAt did is_over g) (StandsAt did is_over h) c ret payload
      → IsAnswer start_from (StandsListed did is_over g) (StandsListed did is_over h) c ret payload
  listed_answer g h c ret payload over came still is = record {
    reply = λ setup log k. subst (λ z. (start_of_arrivals setup z).replies (calls_of log) c ≡ record { ret = ret; payload = payload }) k.all (is.reply setup log k.here);
    here = λ setup log k. record {
      here = subst (λ z. StandsAt did is_over h setup (log ++ served (start_of_arrivals setup z) log c ∷ [])) k.all (is.here setup log k.here);
      over = over ∙ k.over;
      all = came ∙ k.all;
      keeps = still.still ∙ k.keeps;
      kept = still.all k.keeps k.kept;
    };
    new = λ setup log k. subst (λ z. IsNew (live_after log) (child_of (served (start_of_arrivals setup z) log c))) k.all (is.new setup log k.here);
  }
