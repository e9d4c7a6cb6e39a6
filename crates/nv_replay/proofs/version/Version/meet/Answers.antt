use Rattle.std.proofs.Common.{◌≡◌, ◌∙◌, sym, ap, subst, refl, ℕ, true, false, option_map}
use Rattle.nv_calls.specs.Calls.{Request, request, entry, is_same}
use Rattle.nv_calls.proofs.SameLaws.{same_by}
use Rattle.nv_rules.specs.Verdicts.{verdict_of}
use Rattle.nv_threads.specs.Threads.{threads, Proc}
use Rattle.nv_replay.specs.Permits.{permit}
use Rattle.nv_replay.specs.Follow.{Follower, IsCounted, judged, judge_of, refusal_of}
use Rattle.nv_replay.specs.Version.{Running}
use Rattle.nv_replay.proofs.Following.{met_same, met_other}
use Rattle.nv_replay.proofs.version.Version.meet.Goals as goal

pub returns-then-asks-clause-new : goal.returns-then-asks-clause-new
returns-then-asks-clause-new c =
    let k : is_same (threads.call c.args.self.now.at.process c.args.tid) (request c.args.event.now.call) ≡ true = same_by _ _ true c.if-asks.ensures in
    c.consume.ensures.new ∙ ap (λ (x : Follower Proc). record c.args.self.now { at = x })
    (sym (met_same threads _ (entry c.args.event.now) c.args.self.now.at _ _ k))

pub returns-clause-new : goal.returns-clause-new
returns-clause-new c =
    let old : Running Proc = c.args.self.now in
    let call : request c.pending.result.now ≡ threads.call old.at.process c.args.tid = c.pending.ensures.call ∙ ap
    (λ (r : Running Proc). threads.call r.at.process c.args.tid) c.self.view_is in
    let k : is_same (threads.call old.at.process c.args.tid) (request c.args.event.now.call) ≡ false = same_by _ _ false c.if-asks.ensures in
    let value : c.judge-value.result ≡ judge_of (option_map (λ f. f.now) c.args.rules) old.index (threads.call old.at.process c.args.tid)
    (entry c.args.event.now) = c.judge-value.ensures ∙ (ap (λ (q : Request). judge_of (option_map (λ f. f.now) c.args.rules) c.self.inside.index q
    (entry c.args.event.now)) call ∙ ap (λ (r : Running Proc). judge_of (option_map (λ f. f.now) c.args.rules) r.index
    (threads.call old.at.process c.args.tid) (entry c.args.event.now)) c.self.view_is) in
    let at : ℕ → Running Proc = λ v. record old {
      at = judged threads old.at old.at.process c.args.tid (refusal_of (threads.call old.at.process c.args.tid) (entry c.args.event.now) v)
          (permit (threads.call old.at.process c.args.tid) (entry c.args.event.now) (verdict_of v));
    } in
    c.obey.ensures.new ∙ (ap at value ∙ ap (λ (x : Follower Proc). record old { at = x })
    (sym (met_other threads _ (entry c.args.event.now) old.at old.at.process c.args.tid k)))

pub returns-clause-told : goal.returns-clause-told
returns-clause-told c =
    let old : Running Proc = c.args.self.now in
    let call : request c.pending.result.now ≡ threads.call old.at.process c.args.tid = c.pending.ensures.call ∙ ap
    (λ (r : Running Proc). threads.call r.at.process c.args.tid) c.self.view_is in
    let value : c.judge-value.result ≡ judge_of (option_map (λ f. f.now) c.args.rules) old.index (threads.call old.at.process c.args.tid)
    (entry c.args.event.now) = c.judge-value.ensures ∙ (ap (λ (q : Request). judge_of (option_map (λ f. f.now) c.args.rules) c.self.inside.index q
    (entry c.args.event.now)) call ∙ ap (λ (r : Running Proc). judge_of (option_map (λ f. f.now) c.args.rules) r.index
    (threads.call old.at.process c.args.tid) (entry c.args.event.now)) c.self.view_is) in
    subst (λ (v : ℕ). IsCounted (verdict_of v) c.obey.result old.at c.obey.new.self.at) value c.obey.ensures.told

pub consume-requires-clause-same : goal.consume-requires-clause-same
consume-requires-clause-same c = ap (λ (r : Request). r.nr) (c.if-asks.ensures.0 refl)
