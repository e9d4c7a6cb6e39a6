use Rattle.std.proofs.Common.{sym, ap}
use Rattle.nv_calls.specs.Calls.{entry}
use Rattle.nv_rules.specs.Verdicts.{verdict_of}
use Rattle.nv_threads.specs.Threads.{threads}
use Rattle.nv_replay.specs.Permits.{permit}
use Rattle.nv_replay.proofs.Obeying.{is_refused}
use Rattle.nv_replay.proofs.version.Version.obey.Goals as goal

pub returns-in-Refuse-clause-new : goal.returns-in-Refuse-clause-new
returns-in-Refuse-clause-new c =
    let call = threads.call c.args.self.now.at.process c.args.tid in
    is_refused threads c.args.tid c.args.value (entry c.args.event.now)
    (λ call. permit call (entry c.args.event.now) (verdict_of c.args.value)) c.args.self.now c.refuse.new.self
    (sym (ap (permit call (entry c.args.event.now)) c.in-Refuse.ensures)) c.refuse.ensures.new
