-- What is said where there are clients: lines for who has their streams.
use Rattle.std.specs.Prelude.{ℕ, List, [], ◌++◌, codes}
use Rattle.nv_bytes.specs.Numbers.{decimal_of}
use Rattle.nv_script.specs.Doings.{Said, Accepted, Sent, Closed, Printed}
use Rattle.nv_live.specs.Lines.{line_with, lines_with}
use Rattle.nv_live.specs.declared.said_lines.SaidLines.{SaidLines}
use Rattle.nv_live.specs.declared.writer.Writer.{Writer}

-- what a line says before its bytes
abbrev pub head_of : Said → List ℕ
head_of (Accepted n) = codes "accept " ++ decimal_of n
head_of (Sent n bytes) = (codes "data " ++ decimal_of n) ++ codes " "
head_of (Closed n) = codes "close " ++ decimal_of n
head_of (Printed bytes) = codes "output "

-- its bytes are in hexadecimal digits
abbrev pub said_lines : Said → List ℕ
said_lines (Accepted n) = line_with (head_of (Accepted n)) []
said_lines (Sent n bytes) = lines_with (head_of (Sent n bytes)) bytes
said_lines (Closed n) = line_with (head_of (Closed n)) []
said_lines (Printed bytes) = lines_with (head_of (Printed bytes)) bytes

-- what its lines are written by
abbrev pub writer_of : {O : Type 0} → SaidLines O → Writer O
writer_of lines = lines.writer
