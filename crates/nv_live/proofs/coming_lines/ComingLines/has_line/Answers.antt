use Rattle.std.proofs.Common.{rules, ◌∙◌}
use Rattle.nv_live.specs.Source.{Moment, moment_of}
use Rattle.nv_live.proofs.Asking.{asked-once, asked-on, asked-still}
use Rattle.nv_live.proofs.coming_lines.ComingLines.has_line.Goals as goal

pub returns-in_err-gather-clause-asked : goal.returns-in_err-gather-clause-asked
returns-in_err-gather-clause-asked g c =
    let stood : g.row.I.Denot → Moment = λ source. moment_of g.I.Source.took g.I.Source.faults g.O.Sink.told g.O.Sink.faults g.T.Sink.told g.T.Sink.faults source c.args.said.now c.args.noted.now in
    asked-on g.I.Source.took g.I.Source.faults g.I.Source.moments stood c.args.self.now c.loop-self.self c.gather.new.self c.loop-self.invariant.0 c.loop-self.invariant.1
    (asked-still g.I.Source.took g.I.Source.faults g.I.Source.moments stood c.loop-self.self c.has_more.new.self c.gather.new.self
    (asked-once g.I.Source.took g.I.Source.faults g.I.Source.moments stood c.loop-self.self c.has_more.new.self c.has_more.ensures.asked) c.gather.ensures.source)

pub returns-then-len-ge-MOST_LINE-clause-asked : goal.returns-then-len-ge-MOST_LINE-clause-asked
returns-then-len-ge-MOST_LINE-clause-asked g c =
    let stood : g.row.I.Denot → Moment = λ source. moment_of g.I.Source.took g.I.Source.faults g.O.Sink.told g.O.Sink.faults g.T.Sink.told g.T.Sink.faults source c.args.said.now c.args.noted.now in
    asked-on g.I.Source.took g.I.Source.faults g.I.Source.moments stood c.args.self.now c.loop-self.self c.refuse.new.self c.loop-self.invariant.0 c.loop-self.invariant.1
    (asked-still g.I.Source.took g.I.Source.faults g.I.Source.moments stood c.loop-self.self c.has_more.new.self c.refuse.new.self
    (asked-once g.I.Source.took g.I.Source.faults g.I.Source.moments stood c.loop-self.self c.has_more.new.self c.has_more.ensures.asked) (c.refuse.ensures.source ∙ c.gather.ensures.source))

pub returns-then-not-is_empty-clause-asked : goal.returns-then-not-is_empty-clause-asked
returns-then-not-is_empty-clause-asked g c =
    let stood : g.row.I.Denot → Moment = λ source. moment_of g.I.Source.took g.I.Source.faults g.O.Sink.told g.O.Sink.faults g.T.Sink.told g.T.Sink.faults source c.args.said.now c.args.noted.now in
    asked-on g.I.Source.took g.I.Source.faults g.I.Source.moments stood c.args.self.now c.loop-self.self c.gather.new.self c.loop-self.invariant.0 c.loop-self.invariant.1
    (asked-still g.I.Source.took g.I.Source.faults g.I.Source.moments stood c.loop-self.self c.has_more.new.self c.gather.new.self
    (asked-once g.I.Source.took g.I.Source.faults g.I.Source.moments stood c.loop-self.self c.has_more.new.self c.has_more.ensures.asked) c.gather.ensures.source)

pub loop-self-preserved : goal.loop-self-preserved
loop-self-preserved g c =
    let stood : g.row.I.Denot → Moment = λ source. moment_of g.I.Source.took g.I.Source.faults g.O.Sink.told g.O.Sink.faults g.T.Sink.told g.T.Sink.faults source c.args.said.now c.args.noted.now in (
      λ first arrivals handed so_far. c.gather.ensures.come first arrivals handed (c.has_more.ensures.come first arrivals handed (c.loop-self.invariant.0 first arrivals handed so_far)),
      asked-on g.I.Source.took g.I.Source.faults g.I.Source.moments stood c.args.self.now c.loop-self.self c.gather.new.self c.loop-self.invariant.0 c.loop-self.invariant.1
          (asked-still g.I.Source.took g.I.Source.faults g.I.Source.moments stood c.loop-self.self c.has_more.new.self c.gather.new.self
          (asked-once g.I.Source.took g.I.Source.faults g.I.Source.moments stood c.loop-self.self c.has_more.new.self c.has_more.ensures.asked) c.gather.ensures.source),
      c.gather.ensures.taken ∙ c.has_more.ensures.taken ∙ c.loop-self.invariant.2,
      search rules,
    )

pub returns-clause-asked : goal.returns-clause-asked
returns-clause-asked g c =
    let stood : g.row.I.Denot → Moment = λ source. moment_of g.I.Source.took g.I.Source.faults g.O.Sink.told g.O.Sink.faults g.T.Sink.told g.T.Sink.faults source c.args.said.now c.args.noted.now in
    asked-on g.I.Source.took g.I.Source.faults g.I.Source.moments stood c.args.self.now c.loop-self.self c.has_more.new.self c.loop-self.invariant.0 c.loop-self.invariant.1
    (asked-once g.I.Source.took g.I.Source.faults g.I.Source.moments stood c.loop-self.self c.has_more.new.self c.has_more.ensures.asked)
