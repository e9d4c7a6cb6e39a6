use Rattle.std.proofs.Common.{arith, sym, ap, refl, Bool, true, false, ◌∙◌, ◌≡◌, ℕ, ◌+◌, ◌*◌, ◌-◌, ◌++◌, length, slice_index}
use Rattle.nv_calls.specs.Calls.{entry}
use Rattle.byteorder.specs.Endian.{little_from}
use Rattle.nv_words.specs.Spelling.{spell, flag_bit}
use Rattle.nv_words.proofs.SpellLaws.{spell_length, spell_late}
use mir.Val.{bool_byte}
use Rattle.nv_words.proofs.spelling.word.Goals as goal

bit_is : (b : Bool) → bool_byte b ≡ flag_bit b
bit_is false = refl
bit_is true = refl

pub eight_at-requires : goal.eight_at-requires
eight_at-requires c = let e = entry c.args.event.now in let l = spell_length e in let s = c.requires.payload in let i = c.requires.below in omega arith

pub returns-then-i-ge6 : goal.returns-then-i-ge6
returns-then-i-ge6 c = let e = entry c.args.event.now in let i : ℕ = c.args.i in
    c.eight_at.ensures ∙ (λ k. little_from (8 * (i - 6)) 8 (c.as_slice-sent.ensures.bytes k ++ c.as_slice-came.ensures.bytes k)) ∙ sym (spell_late e i c.if-i-ge6.true c.requires.below)

pub returns-in-0 : goal.returns-in-0
unfolding spell
returns-in-0 c = c.pair.ensures ∙ ap (slice_index (spell (entry c.args.event.now))) (sym c.in-0.is)

pub returns-in-1 : goal.returns-in-1
unfolding spell
returns-in-1 c = let e = c.args.event.now in c.pair-in-1.ensures ∙ ap (λ (z : ℕ). e.stamp + 4294967296 * z) (bit_is e.call.bad) ∙ ap (slice_index (spell (entry e))) (sym c.in-1.is)

pub returns-in-2 : goal.returns-in-2
unfolding spell
returns-in-2 c = c.pair-in-2.ensures ∙ ap (slice_index (spell (entry c.args.event.now))) (sym c.in-2.is)

pub returns-in-3 : goal.returns-in-3
unfolding spell
returns-in-3 c = c.pair-in-3.ensures ∙ ap (slice_index (spell (entry c.args.event.now))) (sym c.in-3.is)

pub returns-in-4 : goal.returns-in-4
unfolding spell
returns-in-4 c = c.pair-in-4.ensures ∙ ap (slice_index (spell (entry c.args.event.now))) (sym c.in-4.is)

pub returns-in-5 : goal.returns-in-5
unfolding spell
returns-in-5 c = let e = c.args.event.now in
    c.pair-in-5.ensures
    ∙ (λ k. c.bits_of.ensures k + 4294967296 * (length (c.as_slice-sent.ensures.bytes k) + 65536 * length (c.as_slice-came.ensures.bytes k)))
    ∙ ap (slice_index (spell (entry e))) (sym c.in-5.is)
