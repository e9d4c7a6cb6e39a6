-- Words that begin an event.
use Rattle.std.proofs.Common.{ℕ, ◌<◌, List, length, arith}
use Rattle.nv_words.specs.Spelling.{IsWhole, spell}
use Rattle.nv_words.specs.Begins.{BeginsEvent}
use Rattle.nv_words.proofs.SpellLaws.{spell_whole, shorter}

pub begins_short : (words : List ℕ) → BeginsEvent words → ¬ IsWhole words → length words < 518
begins_short words b part = let s = spell_whole b.0 b.1 in let l = shorter words (spell b.0) b.2 s.0 part in let m = s.1 in omega arith
