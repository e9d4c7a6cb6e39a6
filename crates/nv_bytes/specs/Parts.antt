-- The parts of a line as the code has them.
use Rattle.std.specs.Prelude.{option_map}
use Rattle.nv_bytes.specs.declared.words.Line.{Line}
use Rattle.nv_bytes.specs.Lines.{Parts}

abbrev pub parts_of : Line → Parts
parts_of l = record { label = option_map (λ label. label.now) l.label; word = l.word.now; rest = l.rest.now }
