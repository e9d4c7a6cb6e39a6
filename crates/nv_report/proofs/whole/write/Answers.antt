use Rattle.std.proofs.Common.{◌++◌, List, map, ap, ◌∙◌, sym, length}
use Rattle.std.proofs.lemmas.List.{length-map}
use Rattle.std.specs.List.{flat_map}
use Rattle.nv_outside.proofs.Writing.{puts-is, puts-then, puts-failed}
use Rattle.nv_calls.specs.Calls.{entry}
use Rattle.nv_calls.specs.Logs.{output_of}
use Rattle.nv_threads.specs.Threads.{Proc}
use Rattle.nv_replay.specs.Version.{Running, standing_of}
use Rattle.nv_report.specs.Events.{event_text}
use Rattle.nv_report.specs.Report.{head_text, fates_text}
use Rattle.nv_report.proofs.Texts.{flat_map-events}
use Rattle.nv_report.proofs.whole.write.Goals as goal

pub returns-in_err-put_head : goal.returns-in_err-put_head
returns-in_err-put_head g c =
    let log = g.K.SyscallKernel.log c.args.account.now.kernel in
    let output = output_of (g.K.SyscallKernel.known c.args.account.now.kernel) log in
    let n = sym (length-map c.history-events.result.now entry) ∙ ap length c.history-events.ensures.log in
    let head = puts-is (ap (λ text. head_text text (length c.history-events.result.now)) c.output.ensures ∙ ap (head_text output) n)
    c.in_err-put_head.ensures in
    puts-failed (flat_map event_text log ++ fates_text (map standing_of c.args.account.now.versions.items)) c.from_residual.ensures.0 head

pub returns : goal.returns
returns g c =
    let log = g.K.SyscallKernel.log c.args.account.now.kernel in
    let output = output_of (g.K.SyscallKernel.known c.args.account.now.kernel) log in
    let n = sym (length-map c.history-events.result.now entry) ∙ ap length c.history-events.ensures.log in
    let head = puts-is (ap (λ text. head_text text (length c.history-events.result.now)) c.output.ensures ∙ ap (head_text output) n)
    c.in_ok-put_head.ensures in
    let events = puts-is (flat_map-events c.history-events.result.now ∙ ap (flat_map event_text) c.history-events.ensures.log)
    c.in_ok-put_events.ensures in
    let fates = puts-is (ap (λ (vs : List (Running Proc)). fates_text (map standing_of vs)) c.deref.ensures.value) c.put_fates.ensures in
    puts-then head (puts-then events fates)

pub returns-in_err-put_events : goal.returns-in_err-put_events
returns-in_err-put_events g c =
    let log = g.K.SyscallKernel.log c.args.account.now.kernel in
    let output = output_of (g.K.SyscallKernel.known c.args.account.now.kernel) log in
    let n = sym (length-map c.history-events.result.now entry) ∙ ap length c.history-events.ensures.log in
    let head = puts-is (ap (λ text. head_text text (length c.history-events.result.now)) c.output.ensures ∙ ap (head_text output) n)
    c.in_ok-put_head.ensures in
    let events = puts-is (flat_map-events c.history-events.result.now ∙ ap (flat_map event_text) c.history-events.ensures.log)
    c.in_err-put_events.ensures in
    puts-then head (puts-failed (fates_text (map standing_of c.args.account.now.versions.items)) c.from_residual-in_err-put_events.ensures.0 events)
