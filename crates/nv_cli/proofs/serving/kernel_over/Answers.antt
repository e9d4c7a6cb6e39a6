use Rattle.std.proofs.Common.{◌∙◌, ap, sym, subst}
use Rattle.nv_live.specs.Run.{IsBegun}
use Rattle.nv_script.specs.Scripts.{are_hands}
use Rattle.nv_script.specs.Views.{setup_of}
use Rattle.nv_script.proofs.Sound.{script-keeps}
use Rattle.nv_cli.specs.inner.Serving.{told}
use Rattle.nv_cli.proofs.Served.{unused_by, unused_same}
use Rattle.nv_cli.proofs.serving.kernel_over.Goals as goal

pub begin-requires : goal.begin-requires
begin-requires g c = ap are_hands c.deref.ensures.value ∙ (script-keeps (setup_of c.args.script.now) c.requires.script).hands

pub returns-in-Err-clause-unused : goal.returns-in-Err-clause-unused
returns-in-Err-clause-unused g c =
    unused_same g.I.Source.took g.I.Source.faults g.I.Source.moments g.O.Sink.told g.O.Sink.faults g.T.Sink.told g.T.Sink.faults c.args.head.now c.args.streams c.in-Err.streams c.in-Err.ensures.same

pub returns-in-Err-arriving-clause-unused : goal.returns-in-Err-arriving-clause-unused
returns-in-Err-arriving-clause-unused g c =
    let f = c.finish.ensures in
    unused_by g.I.Source.took g.I.Source.faults g.I.Source.moments g.O.Sink.told g.O.Sink.faults g.T.Sink.told g.T.Sink.faults c.args.clients c.args.head.now c.deref.result.now c.args.streams c.finish.result c.in-Err-arriving.live
    (subst (λ live. IsBegun g.I.Source.took g.I.Source.faults g.I.Source.moments g.O.Sink.told g.O.Sink.faults g.T.Sink.told g.T.Sink.faults c.args.clients c.args.head.now c.deref.result.now c.args.streams
    (told g.I.Source.took g.I.Source.faults g.I.Source.moments g.O.Sink.told g.O.Sink.faults g.T.Sink.told g.T.Sink.faults live)) (sym c.in-Err-arriving.ensures.same) c.in-Ok.ensures.begun) f.input f.output f.transcript
