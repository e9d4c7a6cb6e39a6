-- Where the devices stand, from call to call.
use Rattle.std.proofs.Common.{◌≡◌, ◌∙◌, sym, ap, subst, ℕ, ℤ, ◌<◌, List, [], ◌∷◌, ◌++◌, arith}
use Rattle.std.proofs.lemmas.List.{length-map}
use Rattle.nv_calls.specs.Answer.{Answer, reply_of}
use Rattle.nv_calls.specs.Calls.{Request, Response, Entry}
use Rattle.nv_calls.specs.Logs.{IsNew, made, served, child_of, calls_of, call_of, live_after, live_next}
use Rattle.nv_calls.specs.Shapes.{IsShaped}
use Rattle.nv_calls.proofs.LogLaws.{live_more}
use Rattle.nv_script.specs.Scripts.{Setup}
use Rattle.nv_kernel.specs.Answering.{AtLog, MayCome, IsAnswer}
use Rattle.nv_kernel.specs.Crew.{IsCrew}
use Rattle.nv_kernel.specs.Serving.{State, start_of_script, first_state, serve}
use Rattle.nv_kernel.specs.Standing.{StandsAt}
use Rattle.nv_kernel.proofs.CrewLaws.{first_is}
use Rattle.nv_kernel.proofs.Crews.{CrewStep, crew_step, few_clones_after, live_by}
use Rattle.nv_kernel.proofs.Going.{log_more, log_count, reply_is}

-- the logs at which a state is the one that their calls leave
abbrev pub at_log : State → AtLog
at_log s = λ setup log. StandsAt setup log s

-- before the first call
pub stands_first : (setup : Setup) (s : State) → s ≡ first_state setup → StandsAt setup [] s
stands_first setup s e = record { state = e; live = ap (λ (z : State). z.crew.live) (sym e); crew = subst (λ (z : State). IsCrew z.crew) (sym e) first_is }

-- no more calls were answered, and no more threads made, than a log may have
pub few_served : (s : State) (c : Request) → MayCome (λ setup log. StandsAt setup log s) c → s.served < 500000000
few_served s c m =
    let count = ap (λ (z : State). z.served) m.here.state in
    let calls = log_count m.setup m.log in
    let all = length-map m.log call_of in
    let few = m.few in
    omega (arith, count, calls, all, few)

pub few_clones : (s : State) (c : Request) → MayCome (λ setup log. StandsAt setup log s) c → s.crew.clones < 500000000
few_clones s c m =
    let count = ap (λ (z : State). z.crew.clones) m.here.state in
    let made = few_clones_after (first_state m.setup) (calls_of m.log) in
    let all = length-map m.log call_of in
    let few = m.few in
    omega (arith, count, made, all, few)

module _ (s t : State) (c : Request) (ret : ℤ) (payload : List ℕ) (shaped : IsShaped c) (answer : serve s c ≡ record { state = t; ret = ret; payload = payload }) where
  module _ (setup : Setup) (log : List Entry) (here : StandsAt setup log s) where
    abbrev e : Entry
    e = served (start_of_script setup) log c

    reply : (start_of_script setup).replies (calls_of log) c ≡ record { ret = ret; payload = payload }
    reply = reply_is setup log c ∙ ap (λ (z : State). reply_of (serve z c)) (sym here.state) ∙ ap reply_of answer

    step : CrewStep s c (serve s c)
    step = crew_step s c here.crew shaped

    same_ret : e.reply.ret ≡ (serve s c).ret
    same_ret = ap (λ (r : Response). r.ret) reply ∙ sym (ap (λ (r : Answer State). r.ret) answer)

    new : IsNew (live_after log) (child_of e)
    new = subst (λ (z : List ℕ). IsNew z (child_of e)) (sym here.live) (subst (λ (r : ℤ). IsNew s.crew.live (made c.nr r)) (sym same_ret) step.new)

    live : live_after (log ++ e ∷ []) ≡ t.crew.live
    live = live_more log e ∙ ap (λ (z : List ℕ). live_next z e) here.live ∙ ap (λ (r : ℤ). live_by c.nr c.tid s.crew.live r) same_ret
        ∙ sym step.live ∙ ap (λ (r : Answer State). r.state.crew.live) answer

    next : StandsAt setup (log ++ e ∷ []) t
    next = record {
      state = sym (ap (λ (r : Answer State). r.state) answer) ∙ ap (λ (z : State). (serve z c).state) here.state ∙ sym (log_more serve (first_state setup) log e);
      live = live;
      crew = subst (λ (r : Answer State). IsCrew r.state.crew) answer step.is;
    }

  -- the devices answer as the definition says, wherever they stand
  pub is_answer : IsAnswer (λ setup. start_of_script setup) (λ setup log. StandsAt setup log s) (λ setup log. StandsAt setup log t) c ret payload
  is_answer = record { reply = reply; here = next; new = new }
