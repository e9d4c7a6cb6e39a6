use Rattle.std.proofs.Common.{◌∙◌, sym, ap, subst, inl, inr, map}
use denote.Exit.{no}
use denote.Param.{param}
use denote.Param.Send.{IsSend, sendable, param_send, arg_send}
use denote.RattleType.{RattleType}
use Rattle.nv_arriving.proofs.Sending.{guests_send, kernel_send}
use Rattle.nv_arriving.specs.contracts.answering.GuestsAnswers.TheImpl as GuestsAnswers
use Rattle.nv_live.specs.Run.{DidRun}
use Rattle.nv_live.proofs.run.LiveRun.TheSendSync.{the_field_send as run_send}
use Rattle.nv_live.specs.contracts.run.LiveRun as LiveRun
use Rattle.nv_live.specs.contracts.run.LiveRunOutside.TheImpl as Outside
use Rattle.nv_live.specs.contracts.run.LiveRunTelling.TheImpl as Telling
use Rattle.nv_driver.specs.Account.{run_status}
use Rattle.nv_driver.specs.Outcome.{source_of}
use Rattle.nv_driver.specs.Seen.{limits_view, service_view}
use Rattle.nv_driver.proofs.Commands.{live_refusal_answers}
use Rattle.nv_replay.specs.Version.{standing_of}
use Rattle.nv_script.specs.Transcripts.{IsTranscript}
use Rattle.nv_script.specs.Views.{setup_of}
use Rattle.nv_cli.specs.Streams.{streams_of}
use Rattle.nv_cli.specs.inner.Serving.{HasLeft, RanOver, told}
use Rattle.nv_cli.proofs.Lived.{serve_answers}
use Rattle.nv_cli.proofs.Served.{served_by, starved_left, unused_after}
use Rattle.nv_cli.proofs.serving.serve.Goals as goal

live_send : (I O T : RattleType) → IsSend I → IsSend O → IsSend T → IsSend (LiveRun.the_row I O T)
live_send I O T i o t = search (sendable, run_send) depth 20

pub returns-in-Err : goal.returns-in-Err
returns-in-Err g c = λ words asked.
    live_refusal_answers words (source_of g.F.Files.holds g.F.Files.faults g.F.Files.taken c.args.files.now c.prepare_live.new.files) (service_view c.args.service.now) asked _ _ _ _ _
    (streams_of g.I.Source.took g.I.Source.faults g.I.Source.moments g.O.Sink.told g.O.Sink.faults g.T.Sink.told g.T.Sink.faults c.args.streams) c.in-Err.refusal c.in-Err.ensures.refused c.refuse_live-status.ensures

-- memory was wanted for the kernel
pub returns-in-Err-kernel_over : goal.returns-in-Err-kernel_over
returns-in-Err-kernel_over g c = λ words asked.
    let p = c.in-Ok.prepared in
    let ready = c.in-Ok.ensures.ready in
    let source = source_of g.F.Files.holds g.F.Files.faults g.F.Files.taken c.args.files.now c.prepare_live.new.files in
    let left = starved_left g.I.Source.took g.I.Source.faults g.I.Source.moments g.O.Sink.told g.O.Sink.faults g.T.Sink.told g.T.Sink.faults c.deref.result.now (setup_of p.script) c.args.streams c.in-Err-kernel_over.streams c.starve.result.1
    (subst (λ head. IsTranscript head (setup_of p.script)) (sym c.deref.ensures.value) ready.begins) ready.none c.in-Err-kernel_over.ensures.unused c.starve.ensures.same in
    serve_answers words source (service_view c.args.service.now) asked c.in-Ok.ensures.faults (setup_of p.script) p.rules ready.machines ready.comes
    (streams_of g.I.Source.took g.I.Source.faults g.I.Source.moments g.O.Sink.told g.O.Sink.faults g.T.Sink.told g.T.Sink.faults c.args.streams) _ _ _ _ _ _ (inr (c.starve.ensures.says, left.0, left.1))

pub run_on_demand-ran-requires-send-K : goal.run_on_demand-ran-requires-send-K
run_on_demand-ran-requires-send-K g c κs within =
    let run = LiveRun.the_row (param 4 g.row.I) (param 5 g.row.O) (param 6 g.row.T) in
    let streams = live_send (param 4 g.row.I) (param 5 g.row.O) (param 6 g.row.T) c.type_bounds.send-I c.type_bounds.send-O c.type_bounds.send-T in
    let outside = Outside.ghosts (param 4 g.row.I) (param 5 g.row.O) (param 6 g.row.T) g.I.ReadBeside Outside.no_dict g.I.Source Outside.no_dict g.O.Sink Outside.no_dict g.T.Sink Outside.no_dict
    Outside.no_dict Outside.no_dict Outside.no_dict in
    let telling = Telling.ghosts (param 4 g.row.I) (param 5 g.row.O) (param 6 g.row.T) g.I.ReadBeside Telling.no_dict g.I.Source Telling.no_dict g.O.Sink Telling.no_dict g.T.Sink Telling.no_dict
    Telling.no_dict Telling.no_dict Telling.no_dict in
    param_send 1 _ (arg_send _ no _ (kernel_send _ (GuestsAnswers.ghosts run outside GuestsAnswers.no_dict telling GuestsAnswers.no_dict GuestsAnswers.no_dict) (guests_send run outside streams)))

pub returns-in-Ok-ran : goal.returns-in-Ok-ran
returns-in-Ok-ran g c = λ words asked.
    let p = c.in-Ok.prepared in
    let ready = c.in-Ok.ensures.ready in
    let service = c.args.service.now in
    let source = source_of g.F.Files.holds g.F.Files.faults g.F.Files.taken c.args.files.now c.prepare_live.new.files in
    let ran = subst (λ rules. RanOver (told g.I.Source.took g.I.Source.faults g.I.Source.moments g.O.Sink.told g.O.Sink.faults g.T.Sink.told g.T.Sink.faults)
    (DidRun g.I.Source.took g.I.Source.faults g.I.Source.moments g.O.Sink.told g.O.Sink.faults g.T.Sink.told g.T.Sink.faults) service.clients c.in-Ok-kernel_over.kernel rules service.limits.calls p.script.hands.items
    p.versions.items c.in-Ok-ran.account) c.as_ref.ensures.value (record { same = c.in-Ok-ran.ensures.start; account_is = c.in-Ok-ran.ensures.account }) in
    serve_answers words source (service_view service) asked c.in-Ok.ensures.faults (setup_of p.script) p.rules ready.machines ready.comes
    (streams_of g.I.Source.took g.I.Source.faults g.I.Source.moments g.O.Sink.told g.O.Sink.faults g.T.Sink.told g.T.Sink.faults c.args.streams) _ _ _ _ _ _
    (inl (served_by g.I.Source.took g.I.Source.faults g.I.Source.moments g.O.Sink.told g.O.Sink.faults g.T.Sink.told g.T.Sink.faults (limits_view service.limits) service.clients (setup_of p.script) c.deref.result.now p.rules
    p.script.hands.items p.versions.items ready.machines c.args.streams c.left_by-left.result.0 c.left_by-left.result.1 c.in-Ok-kernel_over.kernel c.in-Ok-ran.account (g.S.Sink.told c.args.sink.now) (g.S.Sink.faults c.args.sink.now) c.status.result
    (c.status.ensures ∙ ap (λ versions. run_status (map standing_of versions)) c.deref-in-Ok-ran.ensures.value) ready.processes c.in-Ok.ensures.sound (subst (λ head. IsTranscript head (setup_of p.script)) (sym c.deref.ensures.value) ready.begins) ready.none c.in-Ok.ensures.planned c.in-Ok-kernel_over.ensures.begun ran c.into_outside.ensures.waited
    (subst (λ outside. HasLeft g.T.Sink.told g.T.Sink.faults outside c.left_by-left.result.0 c.left_by-left.result.1) c.into_outside.ensures.is c.left_by-left.ensures)))

-- memory was wanted for the run
pub returns : goal.returns
returns g c = λ words asked.
    let p = c.in-Ok.prepared in
    let ready = c.in-Ok.ensures.ready in
    let f = c.finish.ensures in
    let source = source_of g.F.Files.holds g.F.Files.faults g.F.Files.taken c.args.files.now c.prepare_live.new.files in
    let left = starved_left g.I.Source.took g.I.Source.faults g.I.Source.moments g.O.Sink.told g.O.Sink.faults g.T.Sink.told g.T.Sink.faults c.deref.result.now (setup_of p.script) c.args.streams c.finish.result c.starve-in-Err-ran.result.1
    (subst (λ head. IsTranscript head (setup_of p.script)) (sym c.deref.ensures.value) ready.begins) ready.none
    (unused_after g.I.Source.took g.I.Source.faults g.I.Source.moments g.O.Sink.told g.O.Sink.faults g.T.Sink.told g.T.Sink.faults c.args.service.now.clients (setup_of p.script) c.deref.result.now c.args.streams c.finish.result c.in-Ok-kernel_over.kernel c.in-Err-ran.kernel c.into_outside-in-Err-ran.result
    c.in-Ok-kernel_over.ensures.begun c.in-Err-ran.ensures.same c.into_outside-in-Err-ran.ensures.is f.input f.output f.transcript) c.starve-in-Err-ran.ensures.same in
    serve_answers words source (service_view c.args.service.now) asked c.in-Ok.ensures.faults (setup_of p.script) p.rules ready.machines ready.comes
    (streams_of g.I.Source.took g.I.Source.faults g.I.Source.moments g.O.Sink.told g.O.Sink.faults g.T.Sink.told g.T.Sink.faults c.args.streams) _ _ _ _ _ _ (inr (c.starve-in-Err-ran.ensures.says, left.0, left.1))
