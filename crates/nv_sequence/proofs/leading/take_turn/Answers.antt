use Rattle.std.proofs.Common.{◌∙◌, ap, sym, subst}
use Rattle.nv_calls.specs.Logs.{IsLawful}
use Rattle.nv_calls.proofs.LearningLaws.{as_told, legal_told}
use Rattle.nv_threads.specs.Threads.{Proc}
use Rattle.nv_replay.specs.Version.{Running}
use Rattle.nv_sequence.proofs.leading.take_turn.Goals as goal

pub follow_all-requires-clause-lawful : goal.follow_all-requires-clause-lawful
follow_all-requires-clause-lawful g c = subst IsLawful (sym c.history.ensures.log) c.history.ensures.lawful

pub end_turn-requires-clause-leading : goal.end_turn-requires-clause-leading
end_turn-requires-clause-leading g c =
    let log = g.K.SyscallKernel.log c.lead_all.new.kernel in
    let led = c.lead_all.ensures.led (as_told log) (legal_told log c.lead_all.ensures.lawful) in
    led.on.leading ∙ ap (λ (v : Running Proc). v.leading) c.begin_lead.ensures

pub end_turn-requires-clause-asked : goal.end_turn-requires-clause-asked
end_turn-requires-clause-asked g c =
    let log = g.K.SyscallKernel.log c.lead_all.new.kernel in
    (c.lead_all.ensures.led (as_told log) (legal_told log c.lead_all.ensures.lawful)).on.asked
