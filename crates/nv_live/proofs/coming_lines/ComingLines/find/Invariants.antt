use Rattle.std.proofs.Common.{◌≡◌, ◌-◌, ◌^◌, true, is_some}
use Rattle.nv_live.specs.ComingLines.{ComesOn, AskedOn}
use Rattle.nv_live.specs.Source.{moment_of}
use Rattle.nv_live.proofs.coming_lines.ComingLines.find.Given as goal

-- so far no arrival was taken
abbrev pub invariant-loop-self : goal.invariant-loop-self
invariant-loop-self g l =
    ComesOn g.I.Source.took g.I.Source.faults l.fn.self l.self (λ arrivals. arrivals)
    × AskedOn g.I.Source.took g.I.Source.faults g.I.Source.moments l.fn.self l.self
    (λ source. moment_of g.I.Source.took g.I.Source.faults g.O.Sink.told g.O.Sink.faults g.T.Sink.told g.T.Sink.faults source l.said l.noted)
    × (is_some l.fn.self.stopped ≡ true → l.self ≡ l.fn.self)

abbrev pub decreases-loop-self : goal.decreases-loop-self
decreases-loop-self g l = 2 ^ 64 - l.self.taken
