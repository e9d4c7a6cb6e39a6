use Rattle.std.proofs.Common.{◌≡◌, [], refl, sym, ap, subst, rules}
use Rattle.nv_live.specs.declared.clients.Clients.{Clients}
use Rattle.nv_live.specs.Clients.{DoesLinesInTurn}
use Rattle.nv_script.specs.ArrivalViews.{taking}
use Rattle.nv_live.proofs.InTurn.{among-turn, among-unasked, asked-among}
use Rattle.nv_live.proofs.Serving.{did-then, did-read}
use Rattle.nv_live.proofs.clients.ClientsOutside.next.Goals as goal
use Rattle.nv_live.proofs.clients.ClientsOutside.next.Goals.{then-is_some-via-then-is_some, then-is_some-via-else-is_some+in_ok-find+then-not-branch}

pub returns-clause-took : goal.returns-clause-took
returns-clause-took g c =
    let found : Clients _ _ _ = record { coming = c.find.new.self; out = c.args.self.now.out; transcript = c.args.self.now.transcript; hand_overs = c.args.self.now.hand_overs } in
    among-turn g.I.Source.took g.I.Source.faults g.I.Source.moments g.O.Sink.told g.O.Sink.faults g.T.Sink.told g.T.Sink.faults
    c.args.self.now c.take_line.new.self (taking c.take_line.result)
    (did-then g.I.Source.took g.I.Source.faults g.O.Sink.told g.O.Sink.faults g.T.Sink.told g.T.Sink.faults
    c.args.self.now found c.take_line.new.self [] (taking c.take_line.result)
    (did-read g.I.Source.took g.I.Source.faults g.O.Sink.told g.O.Sink.faults g.T.Sink.told g.T.Sink.faults
    c.args.self.now found c.find.ensures.come refl refl refl)
    c.take_line.ensures.took)
    (asked-among g.I.Source.took g.I.Source.faults g.I.Source.moments g.O.Sink.told g.O.Sink.faults g.T.Sink.told g.T.Sink.faults c.args.self.now c.find.new.self (g.I.Source.moments c.take_line.new.self.coming.source) c.sink.result.now c.sink-else-is_some.result.now
    (search rules) (ap g.I.Source.moments c.take_line.ensures.source) c.sink.ensures c.sink-else-is_some.ensures c.find.ensures.asked)

pub returns-in_err-find-clause-took : goal.returns-in_err-find-clause-took
returns-in_err-find-clause-took g c =
    let none : taking c.from_residual.result ≡ [] = search rules in
    let found : Clients _ _ _ = record { coming = c.find.new.self; out = c.args.self.now.out; transcript = c.args.self.now.transcript; hand_overs = c.args.self.now.hand_overs } in
    subst (λ more. DoesLinesInTurn g.I.Source.took g.I.Source.faults g.I.Source.moments g.O.Sink.told g.O.Sink.faults g.T.Sink.told g.T.Sink.faults c.args.self.now found more) (sym none)
    (among-turn g.I.Source.took g.I.Source.faults g.I.Source.moments g.O.Sink.told g.O.Sink.faults g.T.Sink.told g.T.Sink.faults c.args.self.now found []
    (did-read g.I.Source.took g.I.Source.faults g.O.Sink.told g.O.Sink.faults g.T.Sink.told g.T.Sink.faults c.args.self.now found c.find.ensures.come refl refl refl)
    (asked-among g.I.Source.took g.I.Source.faults g.I.Source.moments g.O.Sink.told g.O.Sink.faults g.T.Sink.told g.T.Sink.faults c.args.self.now c.find.new.self (g.I.Source.moments c.find.new.self.source) c.sink.result.now c.sink-else-is_some.result.now
    (search rules) refl c.sink.ensures c.sink-else-is_some.ensures c.find.ensures.asked))

pub returns-then-is_some-clause-took : goal.returns-then-is_some-clause-took
returns-then-is_some-clause-took g c =
    let still = among-unasked g.I.Source.took g.I.Source.faults g.I.Source.moments g.O.Sink.told g.O.Sink.faults g.T.Sink.told g.T.Sink.faults c.args.self.now c.args.self.now []
    (did-read g.I.Source.took g.I.Source.faults g.O.Sink.told g.O.Sink.faults g.T.Sink.told g.T.Sink.faults c.args.self.now c.args.self.now (λ first arrivals handed so_far. so_far) refl refl refl) refl in
    elim c.then-is_some.branch [
      | then-is_some-via-then-is_some w ↦ subst (λ n. DoesLinesInTurn g.I.Source.took g.I.Source.faults g.I.Source.moments g.O.Sink.told g.O.Sink.faults g.T.Sink.told g.T.Sink.faults c.args.self.now n []) (sym w.self-is) still
      | then-is_some-via-else-is_some+in_ok-find+then-not-branch w ↦ subst (λ n. DoesLinesInTurn g.I.Source.took g.I.Source.faults g.I.Source.moments g.O.Sink.told g.O.Sink.faults g.T.Sink.told g.T.Sink.faults c.args.self.now n []) (sym w.self-is)
          (among-turn g.I.Source.took g.I.Source.faults g.I.Source.moments g.O.Sink.told g.O.Sink.faults g.T.Sink.told g.T.Sink.faults c.args.self.now (record { coming = w.find.new.self; out = c.args.self.now.out; transcript = c.args.self.now.transcript; hand_overs = c.args.self.now.hand_overs }) []
          (did-read g.I.Source.took g.I.Source.faults g.O.Sink.told g.O.Sink.faults g.T.Sink.told g.T.Sink.faults c.args.self.now (record { coming = w.find.new.self; out = c.args.self.now.out; transcript = c.args.self.now.transcript; hand_overs = c.args.self.now.hand_overs }) w.find.ensures.come refl refl refl)
          (asked-among g.I.Source.took g.I.Source.faults g.I.Source.moments g.O.Sink.told g.O.Sink.faults g.T.Sink.told g.T.Sink.faults c.args.self.now w.find.new.self (g.I.Source.moments w.find.new.self.source) w.sink.result.now w.sink-else-is_some.result.now (search rules) refl w.sink.ensures w.sink-else-is_some.ensures w.find.ensures.asked))
    ]
