use Rattle.std.proofs.Common.{◌≡◌, ◌+◌, ◌*◌, ◌++◌, length, take}
use Rattle.nv_bytes.specs.Numbers.{hex_of}
use Rattle.nv_live.proofs.lines.put_hex.Given as goal

-- the bytes so far are added
abbrev pub invariant-loop-byte : goal.invariant-loop-byte
invariant-loop-byte l = (l.line.items ≡ l.fn.line.items ++ hex_of (take l.byte-index l.bytes)) × (length l.line.items ≡ length l.fn.line.items + 2 * l.byte-index)
