use Rattle.std.proofs.Common.{take, Ok}
use Rattle.std.specs.List.{flat_map}
use Rattle.nv_outside.specs.Sink.{Puts}
use Rattle.nv_report.specs.Numbers.{number_text}
use Rattle.nv_report.proofs.numbers.put_numbers.Given as goal

abbrev pub invariant-loop-number : goal.invariant-loop-number
invariant-loop-number g l =
    Puts (g.S.Sink.told l.fn.sink) (g.S.Sink.faults l.fn.sink) (flat_map number_text (take l.number-index l.numbers)) (Ok tt)
    (g.S.Sink.told l.sink) (g.S.Sink.faults l.sink)
