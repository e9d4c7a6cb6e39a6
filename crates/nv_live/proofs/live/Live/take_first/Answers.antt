use Rattle.std.proofs.Common.{◌≡◌, [], refl, sym, subst, rules}
use Rattle.nv_script.specs.Arrivals.{Input}
use Rattle.nv_live.specs.declared.live.Live.{Live}
use Rattle.nv_live.specs.Live.{DoesOn, took_first}
use Rattle.nv_live.proofs.Doing.{did-take, did-read}
use Rattle.nv_live.proofs.live.Live.take_first.Goals as goal

pub returns-clause-took : goal.returns-clause-took
returns-clause-took g c =
    did-take g.I.Source.took g.I.Source.faults g.O.Sink.told g.O.Sink.faults g.T.Sink.told g.T.Sink.faults
    c.args.self.now (record { incoming = c.pass.new.self; out = c.args.self.now.out; transcript = c.note.new.self }) (Input c.in_ok-bytes.bytes.items)
    (c.pass.ensures.took c.in_ok-bytes.bytes.items c.in_ok-bytes.ensures) refl c.in_ok-note.ensures.noted

pub returns-in_err-bytes-clause-took : goal.returns-in_err-bytes-clause-took
returns-in_err-bytes-clause-took g c =
    let none : took_first c.from_residual.result ≡ [] = search rules in
    subst (λ more. DoesOn g.I.Source.took g.I.Source.faults g.O.Sink.told g.O.Sink.faults g.T.Sink.told g.T.Sink.faults c.args.self.now c.args.self.now more) (sym none)
    (did-read g.I.Source.took g.I.Source.faults g.O.Sink.told g.O.Sink.faults g.T.Sink.told g.T.Sink.faults c.args.self.now c.args.self.now (λ first arrivals so_far. so_far) refl refl)

pub returns-in_err-note-clause-took : goal.returns-in_err-note-clause-took
returns-in_err-note-clause-took g c =
    let none : took_first c.from_residual-in_err-note.result ≡ [] = search rules in
    let after : Live _ _ _ = record { incoming = c.args.self.now.incoming; out = c.args.self.now.out; transcript = c.note.new.self } in
    subst (λ more. DoesOn g.I.Source.took g.I.Source.faults g.O.Sink.told g.O.Sink.faults g.T.Sink.told g.T.Sink.faults c.args.self.now after more) (sym none)
    (did-read g.I.Source.took g.I.Source.faults g.O.Sink.told g.O.Sink.faults g.T.Sink.told g.T.Sink.faults c.args.self.now after (λ first arrivals so_far. so_far) refl c.in_err-note.ensures.kept)
