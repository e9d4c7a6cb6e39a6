use Rattle.std.proofs.Common.{◌≡◌, ◌++◌, ℕ, List, Ok}
use Rattle.std.specs.Slice.Iter.{chunks_rest, chunks_size}
use Rattle.nv_outside.specs.Sink.{Puts}
use Rattle.nv_bytes.specs.Numbers.{hex_of}
use Rattle.nv_report.proofs.numbers.put_hex.Given as goal

abbrev pub invariant-loop-part : goal.invariant-loop-part
invariant-loop-part g l =
    (goal.iterator-loop-part g).can_next l.part-iterator
    × (goal.iterator-loop-part g).is_finite l.part-iterator
    × (chunks_size l.part-iterator ≡ 64)
    × (done : List ℕ) × (done ++ chunks_rest l.part-iterator ≡ l.fn.bytes)
    × Puts (g.S.Sink.told l.fn.sink) (g.S.Sink.faults l.fn.sink) (hex_of done) (Ok tt) (g.S.Sink.told l.sink) (g.S.Sink.faults l.sink)
