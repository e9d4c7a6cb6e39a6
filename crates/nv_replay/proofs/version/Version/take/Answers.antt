use Rattle.std.proofs.Common.{rules, ◌≡◌, ◌∙◌, sym, ap, ◌+◌, ℤ, to_z, of_z, Some, None}
use mir.Syntax.{w32}
use Rattle.nv_calls.specs.Calls.{Request, Response, entry}
use Rattle.nv_threads.specs.Threads.{threads, Proc}
use Rattle.nv_replay.specs.Permits.{took}
use Rattle.nv_replay.specs.Taking.{taken}
use Rattle.nv_replay.specs.Version.{Running}
use Rattle.nv_replay.proofs.Stepping.{quiet_new, taken_quiet}
use Rattle.nv_replay.proofs.Obeying.{is_refused, is_taken}
use Rattle.nv_replay.proofs.version.Version.take.Goals as goal

pub take_as-requires-clause-new : goal.take_as-requires-clause-new
take_as-requires-clause-new c =
    let old : Running Proc = c.args.self.now in
    let call : taken (threads.call old.at.process c.args.tid) (entry c.args.event.now) ≡ Some c.in-Some.ret =
    sym (ap (λ (q : Request). taken q (entry c.args.event.now)) (c.pending.ensures.call ∙ ap (λ (r : Running Proc). threads.call r.at.process c.args.tid) c.self.view_is))
    ∙ (sym c.taken.ensures ∙ c.in-Some.is) in
    quiet_new (threads.live old.at.process) (threads.call old.at.process c.args.tid).nr (to_z w32 (of_z w32 c.in-Some.ret)) (taken_quiet (threads.call old.at.process c.args.tid) (entry c.args.event.now) c.in-Some.ret call).call

pub returns-in-Some-clause-new : goal.returns-in-Some-clause-new
returns-in-Some-clause-new c =
    let old : Running Proc = c.args.self.now in
    let back : to_z w32 (of_z w32 c.in-Some.ret) ≡ c.in-Some.ret = search rules in
    let call : taken (threads.call old.at.process c.args.tid) (entry c.args.event.now) ≡ Some c.in-Some.ret =
    sym (ap (λ (q : Request). taken q (entry c.args.event.now)) (c.pending.ensures.call ∙ ap (λ (r : Running Proc). threads.call r.at.process c.args.tid) c.self.view_is))
    ∙ (sym c.taken.ensures ∙ c.in-Some.is) in
    let reply : ℤ → Response = λ ret. record (entry c.args.event.now).reply { ret = ret } in
    let after : Response → Running Proc = λ r. record old
    { at = record old.at { process = threads.answered old.at.process c.args.tid r; seen = old.at.seen + 1; rewrites = old.at.rewrites + 1 } } in
    is_taken threads c.args.tid c.args.value (entry c.args.event.now) (λ q. took (entry c.args.event.now) (taken q (entry c.args.event.now))) old c.take_as.new.self
    (reply c.in-Some.ret) (ap (took (entry c.args.event.now)) call) (c.take_as.ensures.new ∙ ap after (ap reply back))

pub returns-in-None-clause-new : goal.returns-in-None-clause-new
returns-in-None-clause-new c =
    let old : Running Proc = c.args.self.now in
    let call : taken (threads.call old.at.process c.args.tid) (entry c.args.event.now) ≡ None =
    sym (ap (λ (q : Request). taken q (entry c.args.event.now)) (c.pending.ensures.call ∙ ap (λ (r : Running Proc). threads.call r.at.process c.args.tid) c.self.view_is))
    ∙ (sym c.taken.ensures ∙ c.in-None.is) in
    is_refused threads c.args.tid c.args.value (entry c.args.event.now) (λ q. took (entry c.args.event.now) (taken q (entry c.args.event.now))) old c.refuse.new.self
    (ap (took (entry c.args.event.now)) call) c.refuse.ensures.new
