use Rattle.std.proofs.Common.{◌≡◌, [], ◌∷◌, refl, sym, ap, subst, rules}
use Rattle.nv_script.specs.Doings.{Takes}
use Rattle.nv_script.specs.ArrivalViews.{view, taking}
use Rattle.nv_live.specs.declared.live.Live.{Live}
use Rattle.nv_live.specs.Live.{DoesInTurn}
use Rattle.nv_live.proofs.Doing.{did-then, did-read}
use Rattle.nv_live.proofs.InTurn.{in-turn, in-turn-unasked, asked-in}
use Rattle.nv_live.proofs.live.LiveOutside.next.Goals as goal
use Rattle.nv_live.proofs.live.LiveOutside.next.Goals.{then-is_some-via-then-is_some, then-is_some-via-else-is_some+then-not-has_more}

pub returns-in_err-arrival-clause-took : goal.returns-in_err-arrival-clause-took
returns-in_err-arrival-clause-took g c =
    let same : taking c.from_residual.result ≡ [] = search rules in
    let read : Live _ _ _ = record { incoming = c.has_more.new.self; out = c.args.self.now.out; transcript = c.args.self.now.transcript } in
    subst (λ more. DoesInTurn g.I.Source.took g.I.Source.faults g.I.Source.moments g.O.Sink.told g.O.Sink.faults g.T.Sink.told g.T.Sink.faults c.args.self.now c.take_first.new.self more) (sym same)
    (in-turn g.I.Source.took g.I.Source.faults g.I.Source.moments g.O.Sink.told g.O.Sink.faults g.T.Sink.told g.T.Sink.faults
    c.args.self.now c.take_first.new.self []
    (did-then g.I.Source.took g.I.Source.faults g.O.Sink.told g.O.Sink.faults g.T.Sink.told g.T.Sink.faults
    c.args.self.now read c.take_first.new.self [] []
    (did-read g.I.Source.took g.I.Source.faults g.O.Sink.told g.O.Sink.faults g.T.Sink.told g.T.Sink.faults
    c.args.self.now read c.has_more.ensures.took refl refl)
    c.in_err-arrival.ensures.took)
    (asked-in g.I.Source.took g.I.Source.faults g.I.Source.moments g.O.Sink.told g.O.Sink.faults g.T.Sink.told g.T.Sink.faults c.args.self.now c.has_more.new.self (g.I.Source.moments c.take_first.new.self.incoming.source) c.sink.result.now c.sink-else-is_some.result.now
    (search rules) (ap g.I.Source.moments c.take_first.ensures.source) c.sink.ensures c.sink-else-is_some.ensures c.has_more.ensures.asked))

pub returns-clause-took : goal.returns-clause-took
returns-clause-took g c =
    let read : Live _ _ _ = record { incoming = c.has_more.new.self; out = c.args.self.now.out; transcript = c.args.self.now.transcript } in
    in-turn g.I.Source.took g.I.Source.faults g.I.Source.moments g.O.Sink.told g.O.Sink.faults g.T.Sink.told g.T.Sink.faults
    c.args.self.now c.take_first.new.self (Takes (view c.in_ok-arrival.arrival) ∷ [])
    (did-then g.I.Source.took g.I.Source.faults g.O.Sink.told g.O.Sink.faults g.T.Sink.told g.T.Sink.faults
    c.args.self.now read c.take_first.new.self
    [] (Takes (view c.in_ok-arrival.arrival) ∷ [])
    (did-read g.I.Source.took g.I.Source.faults g.O.Sink.told g.O.Sink.faults g.T.Sink.told g.T.Sink.faults
    c.args.self.now read c.has_more.ensures.took refl refl)
    c.in_ok-arrival.ensures.took)
    (asked-in g.I.Source.took g.I.Source.faults g.I.Source.moments g.O.Sink.told g.O.Sink.faults g.T.Sink.told g.T.Sink.faults c.args.self.now c.has_more.new.self (g.I.Source.moments c.take_first.new.self.incoming.source) c.sink.result.now c.sink-else-is_some.result.now
    (search rules) (ap g.I.Source.moments c.take_first.ensures.source) c.sink.ensures c.sink-else-is_some.ensures c.has_more.ensures.asked)

pub returns-then-is_some-clause-took : goal.returns-then-is_some-clause-took
returns-then-is_some-clause-took g c =
    let still = in-turn-unasked g.I.Source.took g.I.Source.faults g.I.Source.moments g.O.Sink.told g.O.Sink.faults g.T.Sink.told g.T.Sink.faults c.args.self.now c.args.self.now []
    (did-read g.I.Source.took g.I.Source.faults g.O.Sink.told g.O.Sink.faults g.T.Sink.told g.T.Sink.faults c.args.self.now c.args.self.now (λ first arrivals so_far. so_far) refl refl) refl in
    elim c.then-is_some.branch [
      | then-is_some-via-then-is_some w ↦ subst (λ n. DoesInTurn g.I.Source.took g.I.Source.faults g.I.Source.moments g.O.Sink.told g.O.Sink.faults g.T.Sink.told g.T.Sink.faults c.args.self.now n []) (sym w.self-is) still
      | then-is_some-via-else-is_some+then-not-has_more w ↦ subst (λ n. DoesInTurn g.I.Source.took g.I.Source.faults g.I.Source.moments g.O.Sink.told g.O.Sink.faults g.T.Sink.told g.T.Sink.faults c.args.self.now n []) (sym w.self-is)
          (in-turn g.I.Source.took g.I.Source.faults g.I.Source.moments g.O.Sink.told g.O.Sink.faults g.T.Sink.told g.T.Sink.faults c.args.self.now (record { incoming = w.has_more.new.self; out = c.args.self.now.out; transcript = c.args.self.now.transcript }) []
          (did-read g.I.Source.took g.I.Source.faults g.O.Sink.told g.O.Sink.faults g.T.Sink.told g.T.Sink.faults c.args.self.now (record { incoming = w.has_more.new.self; out = c.args.self.now.out; transcript = c.args.self.now.transcript }) w.has_more.ensures.took refl refl)
          (asked-in g.I.Source.took g.I.Source.faults g.I.Source.moments g.O.Sink.told g.O.Sink.faults g.T.Sink.told g.T.Sink.faults c.args.self.now w.has_more.new.self (g.I.Source.moments w.has_more.new.self.source) w.sink.result.now w.sink-else-is_some.result.now (search rules) refl w.sink.ensures w.sink-else-is_some.ensures w.has_more.ensures.asked))
    ]
