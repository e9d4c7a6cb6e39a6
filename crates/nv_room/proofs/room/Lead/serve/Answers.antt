use Rattle.std.proofs.Common.{arith, ap, sym, ◌∙◌, ◌≡◌, ◌+◌, ◌∷◌, [], ℕ, List, ◌≤◌, map, length, take, get_or}
use Rattle.std.proofs.lemmas.List.{nil_from_length, length-map}
use Rattle.std.proofs.lemmas.List.{take-append-le}
use mathlib.Core.List.{map-append}
use Rattle.nv_calls.specs.Calls.{Entry, request}
use Rattle.nv_calls.specs.Logs.{served}
use Rattle.nv_words.specs.Spelling.{spell, flag_bit}
use Rattle.nv_room.proofs.Served.{due_words_are}
use Rattle.nv_room.proofs.room.Lead.serve.Goals as goal

pub invariant_of-self-clause-part : goal.invariant_of-self-clause-part
invariant_of-self-clause-part g c = let l = c.args.self.now in let none : l.wrote ≡ 0 = l.quiet c.requires.none_due in
    nil_from_length _ (l.wrote_is ∙ none) ∙ ap (λ (z : ℕ). take z (get_or (map spell (g.K.SyscallKernel.log c.serve.new.self)) l.seen [])) (sym none)

pub invariant_of-self-clause-next_words : goal.invariant_of-self-clause-next_words
invariant_of-self-clause-next_words g c = due_words_are _ c.args.self.now.seen c.ended-end.ensures.lawful

pub invariant_of-self-clause-history : goal.invariant_of-self-clause-history
invariant_of-self-clause-history g c = let l = c.args.self.now in let h : List Entry = g.K.SyscallKernel.log l.kernel in let x : Entry = served (g.K.SyscallKernel.known l.kernel) h (request c.args.call.now) in
    let long : length h ≡ l.seen + 0 = l.longer ∙ ap (λ b. l.seen + flag_bit b) c.requires.none_due in
    let near : l.seen ≤ length (map spell h) = omega (arith, length-map h spell) in
    ap (λ (z : List Entry). take l.seen (map spell z)) c.serve.ensures.log ∙ ap (take l.seen) (map-append spell h (x ∷ [])) ∙ take-append-le l.seen (map spell h) (spell x ∷ []) near ∙ l.history
