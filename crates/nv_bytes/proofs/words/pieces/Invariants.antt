use Rattle.std.proofs.Common.{◌≡◌, ◌++◌, map, length}
use Rattle.std.specs.List.{slice_split}
use Rattle.nv_bytes.specs.Lines.{is_comma, trim}
use Rattle.nv_bytes.proofs.words.pieces.Given as goal

-- the pieces so far and those of the rest are all
abbrev pub invariant-loop-pieces : goal.invariant-loop-pieces
invariant-loop-pieces l = map (λ piece. piece.now) l.pieces.items ++ map trim (slice_split is_comma l.rest) ≡ map trim (slice_split is_comma l.text)

abbrev pub decreases-loop-pieces : goal.decreases-loop-pieces
decreases-loop-pieces l = length l.rest
