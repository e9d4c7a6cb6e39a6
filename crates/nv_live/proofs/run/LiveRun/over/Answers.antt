use Rattle.std.proofs.Common.{refl, sym, ap, ◌∙◌}
use Rattle.nv_live.specs.Run.{hands_by}
use Rattle.nv_live.proofs.run.LiveRun.over.Goals as goal

pub returns-then-clients : goal.returns-then-clients
returns-then-clients g c =
    let e = c.new-run.ensures in
    record {
      way = sym c.if-clients.true;
      read = ap g.I.Source.took e.source;
      unread_is = ap g.I.Source.faults e.source;
      moments_are = ap g.I.Source.moments e.source;
      held = e.held;
      line = e.line;
      order = e.order;
      taken = e.taken;
      asked = e.asked;
      going = e.going;
      hands_are = e.hands ∙ ap (λ clients. hands_by clients c.args.hands.now) (sym c.if-clients.true);
      said_is = ap g.O.Sink.told e.out;
      unsaid_is = ap g.O.Sink.faults e.out;
      saying = e.whole;
      noted_is = e.head;
    }

pub returns : goal.returns
returns g c =
    let e = c.new-run-2.ensures in
    record {
      way = sym c.if-clients.false;
      read = ap g.I.Source.took e.source;
      unread_is = ap g.I.Source.faults e.source;
      moments_are = ap g.I.Source.moments e.source;
      held = e.held;
      line = refl;
      order = refl;
      taken = refl;
      asked = refl;
      going = e.going;
      hands_are = ap (λ clients. hands_by clients c.args.hands.now) (sym c.if-clients.false);
      said_is = ap g.O.Sink.told e.out;
      unsaid_is = ap g.O.Sink.faults e.out;
      saying = e.whole;
      noted_is = e.head;
    }
