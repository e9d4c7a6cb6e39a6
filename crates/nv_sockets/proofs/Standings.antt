-- Where the host stands, from call to call.
use Rattle.std.proofs.Common.{◌≡◌, ◌∙◌, sym, ap, subst, ℕ, ℤ, ◌<◌, List, [], ◌∷◌, ◌++◌, length, arith}
use Rattle.std.specs.Prelude.{slice_index}
use Rattle.nv_calls.specs.Answer.{Answer, reply_of}
use Rattle.nv_calls.specs.Calls.{Request, Response, Entry}
use Rattle.nv_calls.specs.Logs.{IsNew, made, served, child_of, calls_of, live_after, live_next}
use Rattle.nv_calls.specs.Shapes.{IsShaped}
use Rattle.nv_calls.proofs.LogLaws.{live_more}
use Rattle.nv_script.specs.Scripts.{Setup}
use Rattle.nv_kernel.specs.Answering.{AtLog, MayCome, IsAnswer}
use Rattle.nv_kernel.specs.Crew.{IsCrew}
use Rattle.nv_kernel.proofs.CrewLaws.{first_is}
use Rattle.nv_kernel.proofs.Crews.{live_by}
use Rattle.nv_kernel.proofs.Going.{log_more}
use Rattle.nv_sockets.specs.Serving.{State, start_of_script, first_state, serve}
use Rattle.nv_sockets.specs.declared.host.Host.{Host}
use Rattle.nv_sockets.specs.Kernel.{HostStands, state_of}
use Rattle.nv_sockets.specs.Reserved.{Held, Buffered, IsWhole}
use Rattle.nv_sockets.specs.Standing.{StandsAt}
use Rattle.nv_sockets.proofs.Going.{log_count, log_clones, reply_is}
use Rattle.nv_sockets.proofs.Threads.{ThreadStep, thread_step}

-- before the first call
pub stands_first : (setup : Setup) (s : State) → s ≡ first_state setup → StandsAt setup [] s
stands_first setup s e = record { state = e; live = ap (λ (z : State). z.own.crew.live) (sym e); crew = subst (λ (z : State). IsCrew z.own.crew) (sym e) first_is }

-- no more calls were answered, and no more threads made, than a log may have
pub few_served : (s : State) (c : Request) → MayCome (λ setup log. StandsAt setup log s) c → s.own.served < 500000000
few_served s c m =
    let count = ap (λ (z : State). z.own.served) m.here.state in
    let calls = log_count m.setup m.log in
    let few = m.few in
    omega (arith, count, calls, few)

pub few_clones : (s : State) (c : Request) → MayCome (λ setup log. StandsAt setup log s) c → s.own.crew.clones < 500000000
few_clones s c m =
    let count = ap (λ (z : State). z.own.crew.clones) m.here.state in
    let made = log_clones m.setup m.log in
    let few = m.few in
    omega (arith, count, made, few)

module _ (s t : State) (c : Request) (ret : ℤ) (payload : List ℕ) (shaped : IsShaped c) (answer : serve s c ≡ record { state = t; ret = ret; payload = payload }) where
  module _ (setup : Setup) (log : List Entry) (here : StandsAt setup log s) where
    abbrev e : Entry
    e = served (start_of_script setup) log c

    reply : (start_of_script setup).replies (calls_of log) c ≡ record { ret = ret; payload = payload }
    reply = reply_is setup log c ∙ ap (λ (z : State). reply_of (serve z c)) (sym here.state) ∙ ap reply_of answer

    step : ThreadStep s c
    step = thread_step s c here.crew shaped

    same_ret : e.reply.ret ≡ (serve s c).ret
    same_ret = ap (λ (r : Response). r.ret) reply ∙ sym (ap (λ (r : Answer State). r.ret) answer)

    new : IsNew (live_after log) (child_of e)
    new = subst (λ (z : List ℕ). IsNew z (child_of e)) (sym here.live) (subst (λ (r : ℤ). IsNew s.own.crew.live (made c.nr r)) (sym same_ret) step.new)

    live : live_after (log ++ e ∷ []) ≡ t.own.crew.live
    live = live_more log e ∙ ap (λ (z : List ℕ). live_next z e) here.live ∙ ap (λ (r : ℤ). live_by c.nr c.tid s.own.crew.live r) same_ret
        ∙ sym step.live ∙ ap (λ (r : Answer State). r.state.own.crew.live) answer

    next : StandsAt setup (log ++ e ∷ []) t
    next = record {
      state = sym (ap (λ (r : Answer State). r.state) answer) ∙ ap (λ (z : State). (serve z c).state) here.state ∙ sym (log_more serve (first_state setup) log e);
      live = live;
      crew = subst (λ (r : Answer State). IsCrew r.state.own.crew) answer step.is;
    }

  -- the host answers as the definition says, wherever it stands
  pub is_answer : IsAnswer (λ setup. start_of_script setup) (λ setup log. StandsAt setup log s) (λ setup log. StandsAt setup log t) c ret payload
  is_answer = record { reply = reply; here = next; new = new }

-- the host, of which nothing was let go
abbrev pub host_at : Host → AtLog
host_at h = λ setup log. HostStands setup log h

pub host_comes : (h : Host) (c : Request) → MayCome (host_at h) c → MayCome (λ setup log. StandsAt setup log (state_of h)) c
host_comes h c m = record { setup = m.setup; log = m.log; here = m.here.stands; few = m.few; lives = m.lives }

pub host_answer : (h k : Host) (c : Request) (ret : ℤ) (payload : List ℕ) → (IsWhole h.sockets → IsWhole k.sockets) → k.devices.files.gone ≡ h.devices.files.gone
    → IsAnswer (λ setup. start_of_script setup) (λ setup log. StandsAt setup log (state_of h)) (λ setup log. StandsAt setup log (state_of k)) c ret payload
    → IsAnswer (λ setup. start_of_script setup) (host_at h) (host_at k) c ret payload
host_answer h k c ret payload whole gone a = record {
  reply = λ setup log s. a.reply setup log s.stands;
  here = λ setup log s. record { stands = a.here setup log s.stands; whole = whole s.whole; console = gone ∙ s.console };
  new = λ setup log s. a.new setup log s.stands;
}

pub host_goes_on : (h k : Host) → state_of k ≡ state_of h → (IsWhole h.sockets → IsWhole k.sockets) → k.devices.files.gone ≡ h.devices.files.gone
    → (setup : Setup) (log : List Entry) → HostStands setup log h → HostStands setup log k
host_goes_on h k same whole gone setup log s = record {
  stands = subst (λ (z : State). StandsAt setup log z) (sym same) s.stands;
  whole = whole s.whole;
  console = gone ∙ s.console;
}

-- the same is there, so it is whole still
pub whole_still : (v w : Buffered) → v.held ≡ w.held → IsWhole w → IsWhole v
whole_still v w e h = record {
  there = ap (λ (z : Held). length z.there) e ∙ h.there ∙ sym (ap (λ (z : Held). length z.gone) e);
  all = λ i. ap (λ (z : Held). slice_index z.gone i) e ∙ h.all i;
}
