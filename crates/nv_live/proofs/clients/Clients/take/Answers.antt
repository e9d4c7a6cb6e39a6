use Rattle.std.proofs.Common.{◌≡◌, [], Bool, true, false, Ok, refl, sym, subst, rules}
use Rattle.nv_live.specs.ComingLines.{ComesOn}
use Rattle.nv_script.specs.ArrivalViews.{view, taking}
use Rattle.nv_live.specs.Clients.{DoesLines}
use Rattle.nv_live.specs.declared.clients.Clients.{Clients}
use Rattle.nv_live.specs.Writer.{WritesOn}
use Rattle.nv_live.proofs.Noting.{writes-is}
use Rattle.nv_live.proofs.Serving.{did-take, did-read}
use Rattle.nv_live.proofs.clients.Clients.take.Goals as goal

pub returns-clause-took : goal.returns-clause-took
returns-clause-took g c =
    let taken : c.in_ok-admit.field-0 ≡ true = search rules in
    did-take g.I.Source.took g.I.Source.faults g.O.Sink.told g.O.Sink.faults g.T.Sink.told g.T.Sink.faults
    c.args.self.now (record { coming = c.admit.new.self; out = c.args.self.now.out; transcript = c.write.new.self; hand_overs = c.args.self.now.hand_overs }) (view c.args.arrival)
    (c.in_ok-admit.ensures.took (subst (λ (b : Bool). Ok b ≡ Ok true) (sym taken) refl)) refl
    (writes-is g.T.Sink.told g.T.Sink.faults c.args.self.now.transcript.writer c.write.new.self.writer c.set.new.self.text.items _ c.in_ok-set.ensures.text
    (subst (λ w. WritesOn g.T.Sink.told g.T.Sink.faults w c.write.new.self.writer c.set.new.self.text.items) c.set.ensures.kept c.write.ensures)) refl

pub returns-in_err-set-clause-took : goal.returns-in_err-set-clause-took
returns-in_err-set-clause-took g c =
    let none : taking c.from_residual.result ≡ [] = search rules in
    let after : Clients _ _ _ = record { coming = c.args.self.now.coming; out = c.args.self.now.out; transcript = c.set.new.self; hand_overs = c.args.self.now.hand_overs } in
    subst (λ more. DoesLines g.I.Source.took g.I.Source.faults g.O.Sink.told g.O.Sink.faults g.T.Sink.told g.T.Sink.faults c.args.self.now after more) (sym none)
    (did-read g.I.Source.took g.I.Source.faults g.O.Sink.told g.O.Sink.faults g.T.Sink.told g.T.Sink.faults c.args.self.now after (λ first arrivals handed so_far. so_far) refl c.set.ensures.kept refl)

pub returns-in_err-admit-clause-took : goal.returns-in_err-admit-clause-took
returns-in_err-admit-clause-took g c =
    let none : taking c.from_residual-in_err-admit.result ≡ [] = search rules in
    let after : Clients _ _ _ = record { coming = c.admit.new.self; out = c.args.self.now.out; transcript = c.set.new.self; hand_overs = c.args.self.now.hand_overs } in
    subst (λ more. DoesLines g.I.Source.took g.I.Source.faults g.O.Sink.told g.O.Sink.faults g.T.Sink.told g.T.Sink.faults c.args.self.now after more) (sym none)
    (did-read g.I.Source.took g.I.Source.faults g.O.Sink.told g.O.Sink.faults g.T.Sink.told g.T.Sink.faults c.args.self.now after
    (subst (λ n. ComesOn g.I.Source.took g.I.Source.faults c.args.self.now.coming n (λ arrivals. arrivals)) (sym c.in_err-admit.ensures.kept) (λ first arrivals handed so_far. so_far)) refl c.set.ensures.kept refl)

pub returns-then-not-branch-clause-took : goal.returns-then-not-branch-clause-took
returns-then-not-branch-clause-took g c =
    let refused : c.in_ok-admit.field-0 ≡ false = search rules in
    did-read g.I.Source.took g.I.Source.faults g.O.Sink.told g.O.Sink.faults g.T.Sink.told g.T.Sink.faults
    c.args.self.now (record { coming = c.admit.new.self; out = c.args.self.now.out; transcript = c.set.new.self; hand_overs = c.args.self.now.hand_overs })
    (c.in_ok-admit.ensures.refused (subst (λ (b : Bool). Ok b ≡ Ok false) (sym refused) refl)).0 refl c.set.ensures.kept refl
