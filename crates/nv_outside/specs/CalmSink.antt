use Rattle.std.specs.Prelude.{ℕ, ◌+◌, ◌||◌, ◌++◌, Bool, List, if◌then◌else◌, nat_lt, length}
use Rattle.nv_outside.specs.declared.calm_sink.CalmSink.{CalmSink}

-- the bytes that a sink which never fails has kept, and how many it can hold
abbrev pub kept_of : CalmSink → List ℕ
kept_of sink = sink.bytes.items

abbrev pub capacity_of : CalmSink → ℕ
capacity_of sink = sink.capacity

-- a piece went past its capacity, so it tells nothing any more
abbrev pub is_over : CalmSink → Bool
is_over sink = sink.over

-- this piece goes past it, or an earlier one did
abbrev pub over_after : CalmSink → List ℕ → Bool
over_after sink piece = sink.over || nat_lt sink.capacity (length sink.bytes.items + length piece)

-- the piece is kept whole while it fits
abbrev pub kept_with : CalmSink → List ℕ → List ℕ
kept_with sink piece = if over_after sink piece then sink.bytes.items else sink.bytes.items ++ piece
