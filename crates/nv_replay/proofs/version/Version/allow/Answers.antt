use Rattle.std.proofs.Common.{◌∙◌, ap, ◌+◌, Some}
use Rattle.nv_calls.specs.Calls.{entry}
use Rattle.nv_calls.specs.Constants.{constant_of}
use Rattle.nv_threads.specs.Threads.{threads, Proc}
use Rattle.nv_threads.specs.Ahead.{Known}
use Rattle.nv_threads.proofs.Aheads.{known_as}
use Rattle.nv_replay.specs.Permits.{given}
use Rattle.nv_replay.specs.Follow.{refusal_of}
use Rattle.nv_replay.specs.Version.{Running}
use Rattle.nv_replay.specs.Views.{running_of}
use Rattle.nv_replay.proofs.Following.{not_given, was_given}
use Rattle.nv_replay.proofs.Obeying.{obeyed, is_refused, is_given}
use Rattle.nv_replay.proofs.version.Version.allow.Goals as goal

pub returns-then-not-give_constant-clause-new : goal.returns-then-not-give_constant-clause-new
returns-then-not-give_constant-clause-new c =
    let old : Running Proc = running_of c.self.inside in
    let none = not_given threads c.args.tid c.self.inside.process.process c.give_constant.new.process.process
    (constant_of (threads.call c.self.inside.process.process c.args.tid)) c.if-not-give_constant.ensures.given in
    let refused : Known → Running Proc = λ k. record old
    { at = record old.at { process = k.process; fate = Some (refusal_of (threads.call k.process c.args.tid) (entry c.args.event.now) c.args.value) }; eager = k.eager } in
    is_refused threads c.args.tid c.args.value (entry c.args.event.now) (λ call. given (constant_of call)) old c.refuse.new.self
    (ap given none.0) (c.refuse.ensures.new ∙ ap refused (known_as none.1 c.if-not-give_constant.ensures.eager)) ∙ ap (obeyed threads c.args.tid c.args.value (entry c.args.event.now)
    (λ call. given (constant_of call))) c.self.view_is

pub returns-clause-new : goal.returns-clause-new
returns-clause-new c =
    let old : Running Proc = running_of c.self.inside in
    let some = was_given threads c.args.tid c.self.inside.process.process c.give_constant.new.process.process
    (constant_of (threads.call c.self.inside.process.process c.args.tid)) c.if-not-give_constant.ensures.given in
    let answered : Known → Running Proc = λ k. record old { at = record old.at { process = k.process; rewrites = old.at.rewrites + 1 }; eager = k.eager } in
    is_given threads c.args.tid c.args.value (entry c.args.event.now) (λ call. given (constant_of call)) old
    (answered c.give_constant.new.process) some.0 (ap given some.1) (ap answered (known_as some.2 c.if-not-give_constant.ensures.eager)) ∙ ap
    (obeyed threads c.args.tid c.args.value (entry c.args.event.now) (λ call. given (constant_of call))) c.self.view_is
