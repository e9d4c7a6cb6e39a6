use Rattle.std.proofs.Common.{◌≡◌, true, is_some, sym, subst}
use Rattle.nv_live.specs.Source.{Moment, moment_of}
use Rattle.nv_live.proofs.Asking.{asked-on, asked-still}
use Rattle.nv_live.proofs.coming_lines.ComingLines.find.Goals as goal

pub loop-self-preserved : goal.loop-self-preserved
loop-self-preserved g c =
    let stood : g.row.I.Denot → Moment = λ source. moment_of g.I.Source.took g.I.Source.faults g.O.Sink.told g.O.Sink.faults g.T.Sink.told g.T.Sink.faults source c.args.said.now c.args.noted.now in (
      λ first arrivals handed so_far. c.pass_over.ensures.come first arrivals handed (c.has_line.ensures.come first arrivals handed (c.loop-self.invariant.0 first arrivals handed so_far)),
      asked-on g.I.Source.took g.I.Source.faults g.I.Source.moments stood c.args.self.now c.loop-self.self c.pass_over.new.self c.loop-self.invariant.0 c.loop-self.invariant.1
          (asked-still g.I.Source.took g.I.Source.faults g.I.Source.moments stood c.loop-self.self c.has_line.new.self c.pass_over.new.self c.has_line.ensures.asked c.pass_over.ensures.source),
      λ stopped.
          let was : is_some c.loop-self.self.stopped ≡ true = subst (λ x. is_some x.stopped ≡ true) (sym (c.loop-self.invariant.2 stopped)) stopped in
          let clash = (c.in_ok-has_line.ensures.stays was).0 in cc,
    )

pub returns-in_err-has_line-clause-asked : goal.returns-in_err-has_line-clause-asked
returns-in_err-has_line-clause-asked g c =
    let stood : g.row.I.Denot → Moment = λ source. moment_of g.I.Source.took g.I.Source.faults g.O.Sink.told g.O.Sink.faults g.T.Sink.told g.T.Sink.faults source c.args.said.now c.args.noted.now in
    asked-on g.I.Source.took g.I.Source.faults g.I.Source.moments stood c.args.self.now c.loop-self.self c.has_line.new.self c.loop-self.invariant.0 c.loop-self.invariant.1 c.has_line.ensures.asked

pub returns-then-self-clause-asked : goal.returns-then-self-clause-asked
returns-then-self-clause-asked g c =
    let stood : g.row.I.Denot → Moment = λ source. moment_of g.I.Source.took g.I.Source.faults g.O.Sink.told g.O.Sink.faults g.T.Sink.told g.T.Sink.faults source c.args.said.now c.args.noted.now in
    asked-on g.I.Source.took g.I.Source.faults g.I.Source.moments stood c.args.self.now c.loop-self.self c.refuse.new.self c.loop-self.invariant.0 c.loop-self.invariant.1
    (asked-still g.I.Source.took g.I.Source.faults g.I.Source.moments stood c.loop-self.self c.has_line.new.self c.refuse.new.self c.has_line.ensures.asked c.refuse.ensures.source)

pub returns-then-not-is_passed-clause-asked : goal.returns-then-not-is_passed-clause-asked
returns-then-not-is_passed-clause-asked g c =
    let stood : g.row.I.Denot → Moment = λ source. moment_of g.I.Source.took g.I.Source.faults g.O.Sink.told g.O.Sink.faults g.T.Sink.told g.T.Sink.faults source c.args.said.now c.args.noted.now in
    asked-on g.I.Source.took g.I.Source.faults g.I.Source.moments stood c.args.self.now c.loop-self.self c.has_line.new.self c.loop-self.invariant.0 c.loop-self.invariant.1 c.has_line.ensures.asked

pub returns-clause-asked : goal.returns-clause-asked
returns-clause-asked g c =
    let stood : g.row.I.Denot → Moment = λ source. moment_of g.I.Source.took g.I.Source.faults g.O.Sink.told g.O.Sink.faults g.T.Sink.told g.T.Sink.faults source c.args.said.now c.args.noted.now in
    asked-on g.I.Source.took g.I.Source.faults g.I.Source.moments stood c.args.self.now c.loop-self.self c.has_line.new.self c.loop-self.invariant.0 c.loop-self.invariant.1 c.has_line.ensures.asked
