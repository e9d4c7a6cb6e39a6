use Rattle.std.proofs.Common.{arith, sym, ap, subst, ◌∙◌, ◌≡◌, ◌<◌, ◌+◌, ◌++◌, ◌∷◌, [], ℕ, List, length, map, get_or, Some}
use Rattle.std.specs.Prelude.{slice_get}
use Rattle.std.proofs.lemmas.Option.{same_Some, slice_get-get_or}
use Rattle.nv_calls.specs.Calls.{Entry, entry}
use Rattle.nv_calls.specs.Logs.{InRange, IsLawful}
use Rattle.nv_words.specs.Spelling.{spell, flag_bit}
use Rattle.nv_room.specs.Kinds.{writes}
use Rattle.nv_room.specs.Seats.{lead_view, kernel_of, stations_of}
use Rattle.nv_room.proofs.Stepped.{one_step, more_steps}
use Rattle.nv_ring.proofs.Events.{last_at, spelt_at, last_spelt, one_more, as_long, take_len}
use Rattle.nv_ring.proofs.Filling.{ready_still}
use Rattle.nv_ring.proofs.writes.write_event.Goals as goal

pub last-requires : goal.last-requires
last-requires g c =
    let l = c.args.lead.now in
    let long : length (g.K.SyscallKernel.log (kernel_of l)) ≡ l.seen + 1 = l.longer ∙ ap (λ b. l.seen + flag_bit b) c.requires.due in
    omega (arith, long, ap (λ k. length (g.K.SyscallKernel.log k)) c.kernel.ensures)

pub last-requires-in-loop-i : goal.last-requires-in-loop-i
last-requires-in-loop-i g c =
    let l = c.args.lead.now in
    let long : length (g.K.SyscallKernel.log (kernel_of l)) ≡ l.seen + 1 = l.longer ∙ ap (λ b. l.seen + flag_bit b) c.requires.due in
    omega (arith, long, ap (λ k. length (g.K.SyscallKernel.log k)) (c.kernel-in-loop-i.ensures ∙ c.loop-i.invariant.kernel))

pub count-words-requires : goal.count-words-requires
count-words-requires g c =
    let l = c.args.lead.now in
    let log : List Entry = g.K.SyscallKernel.log (kernel_of l) in
    let long : length log ≡ l.seen + 1 = l.longer ∙ ap (λ b. l.seen + flag_bit b) c.requires.due in
    let law : IsLawful log = subst IsLawful (ap g.K.SyscallKernel.log c.kernel.ensures) c.last.ensures.lawful in
    let here = last_at log l.seen (entry c.last.result.now) long (λ past e h. c.last.ensures.is past e (ap g.K.SyscallKernel.log c.kernel.ensures ∙ h)) in
    (law l.seen (entry c.last.result.now) here).range.short

pub word-next-requires : goal.word-next-requires
word-next-requires g c =
    let l = c.args.lead.now in
    let log : List Entry = g.K.SyscallKernel.log (kernel_of l) in
    let i = c.loop-i.invariant in
    let long : length log ≡ l.seen + 1 = l.longer ∙ ap (λ b. l.seen + flag_bit b) c.requires.due in
    let law : IsLawful log = subst IsLawful (ap g.K.SyscallKernel.log c.kernel.ensures) c.last.ensures.lawful in
    let first = last_at log l.seen (entry c.last.result.now) long (λ past e h. c.last.ensures.is past e (ap g.K.SyscallKernel.log c.kernel.ensures ∙ h)) in
    let again = last_at log l.seen (entry c.last-in-loop-i.result.now) long (λ past e h. c.last-in-loop-i.ensures.is past e (ap g.K.SyscallKernel.log (c.kernel-in-loop-i.ensures ∙ i.kernel) ∙ h)) in
    let same : entry c.last.result.now ≡ entry c.last-in-loop-i.result.now = same_Some _ _ (sym first ∙ again) in
    let range : InRange (entry c.last-in-loop-i.result.now) = (law l.seen _ again).range in
    let words : c.count-words.result ≡ length (spell (entry c.last-in-loop-i.result.now)) = c.count-words.ensures ∙ ap (λ (z : Entry). length (spell z)) same in
    let t = c.loop-i-test.true in
    record { payload = range.short; below = omega arith }

pub write_word-requires-clause-next : goal.write_word-requires-clause-next
write_word-requires-clause-next g c κs within =
    let l = c.args.lead.now in
    let log : List Entry = g.K.SyscallKernel.log (kernel_of l) in
    let i = c.loop-i.invariant in
    let long : length log ≡ l.seen + 1 = l.longer ∙ ap (λ b. l.seen + flag_bit b) c.requires.due in
    let first = last_at log l.seen (entry c.last.result.now) long (λ past e h. c.last.ensures.is past e (ap g.K.SyscallKernel.log c.kernel.ensures ∙ h)) in
    let t = c.loop-i-test.true in
    let words : c.count-words.result ≡ length (spell (entry c.last.result.now)) = c.count-words.ensures in
    as_long (lead_view c.loop-i.lead).wrote c.loop-i.i (spell (entry c.last.result.now)) (i.wrote _ first) (omega arith)

pub write_word-requires-clause-word : goal.write_word-requires-clause-word
write_word-requires-clause-word g c κs within =
    let l = c.args.lead.now in
    let log : List Entry = g.K.SyscallKernel.log (kernel_of l) in
    let i = c.loop-i.invariant in
    let long : length log ≡ l.seen + 1 = l.longer ∙ ap (λ b. l.seen + flag_bit b) c.requires.due in
    let first = last_at log l.seen (entry c.last.result.now) long (λ past e h. c.last.ensures.is past e (ap g.K.SyscallKernel.log c.kernel.ensures ∙ h)) in
    let again = last_at log l.seen (entry c.last-in-loop-i.result.now) long (λ past e h. c.last-in-loop-i.ensures.is past e (ap g.K.SyscallKernel.log (c.kernel-in-loop-i.ensures ∙ i.kernel) ∙ h)) in
    let same : entry c.last.result.now ≡ entry c.last-in-loop-i.result.now = same_Some _ _ (sym first ∙ again) in
    let words : c.count-words.result ≡ length (spell (entry c.last-in-loop-i.result.now)) = c.count-words.ensures ∙ ap (λ (z : Entry). length (spell z)) same in
    let t = c.loop-i-test.true in
    let seen : length (lead_view c.loop-i.lead).seen ≡ l.seen = ap length i.seen ∙ l.seen_is in
    let is : get_or (map spell (g.K.SyscallKernel.log (kernel_of c.loop-i.lead))) (length (lead_view c.loop-i.lead).seen) [] ≡ spell (entry c.last-in-loop-i.result.now) =
    ap (λ k. get_or (map spell (g.K.SyscallKernel.log k)) (length (lead_view c.loop-i.lead).seen) []) i.kernel ∙ ap (λ z. get_or (map spell log) z []) seen ∙ spelt_at log l.seen _ again in
    subst (λ (z : List ℕ). slice_get z c.loop-i.i ≡ Some c.word-next.result) (sym is) (slice_get-get_or (spell (entry c.last-in-loop-i.result.now)) c.loop-i.i 0 (omega arith) ∙ ap Some (sym c.word-next.ensures))

pub write_word-requires-clause-ready : goal.write_word-requires-clause-ready
write_word-requires-clause-ready g c κs within = let i = c.loop-i.invariant in ready_still c.args.room.now c.args.lead.now c.loop-i.lead i.seen i.floors i.same.2 i.same.4 c.requires.placed

pub loop-i-preserved : goal.loop-i-preserved
loop-i-preserved g c =
    let l = c.args.lead.now in
    let log : List Entry = g.K.SyscallKernel.log (kernel_of l) in
    let i = c.loop-i.invariant in
    let w = c.write_word.ensures in
    let long : length log ≡ l.seen + 1 = l.longer ∙ ap (λ b. l.seen + flag_bit b) c.requires.due in
    let first = last_at log l.seen (entry c.last.result.now) long (λ past e h. c.last.ensures.is past e (ap g.K.SyscallKernel.log c.kernel.ensures ∙ h)) in
    let again = last_at log l.seen (entry c.last-in-loop-i.result.now) long (λ past e h. c.last-in-loop-i.ensures.is past e (ap g.K.SyscallKernel.log (c.kernel-in-loop-i.ensures ∙ i.kernel) ∙ h)) in
    let t = c.loop-i-test.true in
    record {
      of = w.of;
      same = (w.same.0 ∙ i.same.0, w.same.1 ∙ i.same.1, w.same.2 ∙ i.same.2, w.same.3 ∙ i.same.3, w.same.4 ∙ i.same.4, w.same.5 ∙ i.same.5);
      due = w.due ∙ i.due;
      kernel = w.kernel ∙ i.kernel;
      seen = ap (λ v. v.seen) w.view ∙ i.seen;
      floors = ap (λ v. v.floors) w.view ∙ i.floors;
      spans = ap (λ v. v.spans) w.view ∙ i.spans;
      steps = (let n : ℕ = stations_of c.args.room.now in more_steps n (lead_view l) (lead_view c.loop-i.lead) (lead_view c.write_word.new.lead) i.steps (one_step n (lead_view c.loop-i.lead) (lead_view c.write_word.new.lead) (writes c.word-next.result) w.view));
      wrote = λ e is.
          let one : entry c.last.result.now ≡ e = same_Some _ _ (sym first ∙ is) in
          let two : entry c.last-in-loop-i.result.now ≡ e = same_Some _ _ (sym again ∙ is) in
          let words : c.count-words.result ≡ length (spell e) = c.count-words.ensures ∙ ap (λ (z : Entry). length (spell z)) one in
          ap (λ v. v.wrote) w.view ∙ one_more _ c.loop-i.i c.word-next.result (spell e) (i.wrote e is) (omega arith) (c.word-next.ensures ∙ ap (λ (z : Entry). get_or (spell z) c.loop-i.i 0) two);
    }

pub returns-clause-whole : goal.returns-clause-whole
returns-clause-whole g c =
    let l = c.args.lead.now in
    let log : List Entry = g.K.SyscallKernel.log (kernel_of l) in
    let i = c.loop-i.invariant in
    let long : length log ≡ l.seen + 1 = l.longer ∙ ap (λ b. l.seen + flag_bit b) c.requires.due in
    let first = last_at log l.seen (entry c.last.result.now) long (λ past e h. c.last.ensures.is past e (ap g.K.SyscallKernel.log c.kernel.ensures ∙ h)) in
    let e : Entry = entry c.last.result.now in
    let t = c.loop-i-test.false in
    let top = c.loop-i.auto.i-end in
    let words : c.count-words.result ≡ length (spell e) = c.count-words.ensures in
    let whole : (lead_view c.loop-i.lead).wrote ≡ spell e = i.wrote e first ∙ take_len (spell e) c.loop-i.i (omega arith) in
    (i.due, ap (λ k. map spell (g.K.SyscallKernel.log k)) i.kernel ∙ last_spelt log l.seen e long first ∙ (λ j. (l.history ∙ sym i.seen) j ++ sym whole j ∷ []))
