use Rattle.std.proofs.Common.{◌∙◌, sym, ap, get_or}
use Rattle.std.specs.Int.{w32}
use Rattle.std.proofs.lemmas.Int.{to_z-of_z}
use Rattle.nv_machine.specs.Registers.{Registers}
use Rattle.nv_machine.specs.Guest.{Machine}
use Rattle.nv_guest.specs.Guest.{machine_with}
use Rattle.nv_guest.specs.Calls.{with_answer}
use Rattle.nv_guest.specs.Threads.{with_regs}
use Rattle.nv_guest.proofs.Places.{written_place}
use Rattle.nv_guest.proofs.Staying.{lives_in, heap_stays, gave_stays}
use Rattle.nv_guest.proofs.guest.Guest.answer.Goals as goal

pub returns : goal.returns
returns c =
    let xs = c.self.inside.threads.items in
    let w = written_place xs c.deref_mut.result.now c.args.tid c.place-place.result c.index-deref_mut-place.result c.answer_to.new.regs c.deref.result.now
    c.deref_mut.ensures.value c.deref.ensures.0 c.place-place.ensures.place (lives_in _ _ c.args.tid c.self.view_is c.requires) in
    let is = c.answer_to.ensures ∙ ap (λ ret. with_answer (machine_with (get_or c.deref_mut.result.now c.place-place.result c.index-deref_mut-place.result).regs c.self.inside.memory) ret c.args.payload.now) (to_z-of_z w32 c.args.ret c.ranges.ret)
    ∙ ap (λ (regs : Registers). with_answer (machine_with regs c.self.inside.memory) c.args.ret c.args.payload.now) w.1 in
    rw (sym c.self.view_is, w.0) (ap (λ (m : Machine). record { threads = with_regs xs c.args.tid m.regs; memory = m.memory }) is)

pub invariant_of-self : goal.invariant_of-self
invariant_of-self c = heap_stays c.self.inside.memory c.answer_to.new.memory c.self.inside.heap c.self.invariant (gave_stays _ c.self.inside.memory _ _ _ c.answer_to.ensures)
