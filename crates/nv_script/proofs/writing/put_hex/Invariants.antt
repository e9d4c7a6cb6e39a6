use Rattle.std.proofs.Common.{◌≡◌, ◌++◌, take}
use Rattle.nv_bytes.specs.Numbers.{hex_of}
use Rattle.nv_script.proofs.writing.put_hex.Given as goal

-- the bytes so far are written
abbrev pub invariant-loop-byte : goal.invariant-loop-byte
invariant-loop-byte l = l.out.items ≡ l.fn.out.items ++ hex_of (take l.byte-index l.bytes)
