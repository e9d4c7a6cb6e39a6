use Rattle.std.proofs.Common.{◌∙◌, sym, ap, refl, ◌+◌}
use Rattle.nv_calls.specs.Calls.{entry}
use Rattle.nv_threads.specs.Threads.{threads, Proc}
use Rattle.nv_replay.specs.Permits.{passed}
use Rattle.nv_replay.specs.Version.{Running}
use Rattle.nv_replay.specs.Views.{running_of}
use Rattle.nv_replay.proofs.Obeying.{obeyed, is_refused, is_passed, passed_not, passed_drops}
use Rattle.nv_replay.proofs.version.Version.pass.Goals as goal

pub returns-then-is_of_threads-clause-new : goal.returns-then-is_of_threads-clause-new
returns-then-is_of_threads-clause-new c =
    is_refused threads c.args.tid c.args.value (entry c.args.event.now) (λ call. passed (entry c.args.event.now)) c.args.self.now
    c.refuse.new.self (passed_not (entry c.args.event.now) (sym c.if-is_of_threads.ensures)) c.refuse.ensures.new

pub returns-clause-new : goal.returns-clause-new
returns-clause-new c =
    let old : Running Proc = running_of c.self.inside in
    is_passed threads c.args.tid c.args.value (entry c.args.event.now) (λ call. passed (entry c.args.event.now)) old
    (record old { at = record old.at { seen = old.at.seen + 1; rewrites = old.at.rewrites + 1 } })
    (passed_drops (entry c.args.event.now) (sym c.if-is_of_threads.ensures)) refl ∙ ap
    (obeyed threads c.args.tid c.args.value (entry c.args.event.now) (λ call. passed (entry c.args.event.now))) c.self.view_is
