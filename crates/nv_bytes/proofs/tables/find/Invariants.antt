use Rattle.std.proofs.Common.{◌≡◌, drop}
use Rattle.nv_bytes.specs.Names.{defined, named}
use Rattle.nv_bytes.proofs.tables.find.Given as goal

-- the entries that are left say of the word what all do
abbrev pub invariant-loop-name : goal.invariant-loop-name
invariant-loop-name g l = defined (named l.table) l.word ≡ defined (named (drop l.name-index l.table)) l.word
