use Rattle.std.proofs.Common.{◌∙◌, sym, ap, refl}
use Rattle.nv_machine.specs.Registers.{Registers}
use Rattle.nv_guest.specs.Guest.{machine_with}
use Rattle.nv_guest.specs.Threads.{run}
use Rattle.nv_guest.proofs.Places.{written_place}
use Rattle.nv_guest.proofs.Staying.{lives_in, heap_stays, ran_stays}
use Rattle.nv_guest.proofs.guest.Guest.run.Goals as goal

pub returns-clause-ran : goal.returns-clause-ran
returns-clause-ran c =
    let xs = c.self.inside.threads.items in
    let w = written_place xs c.deref_mut.result.now c.args.tid c.place-place.result c.index-deref_mut-place.result c.run_on.new.regs c.deref.result.now
    c.deref_mut.ensures.value c.deref.ensures.0 c.place-place.ensures.place (lives_in _ _ c.args.tid c.self.view_is c.requires) in
    rw (sym c.self.view_is, w.0, w.2) (sym c.run_on.ensures.ran ∙ ap (λ (regs : Registers). run c.args.most (machine_with regs c.self.inside.memory)) w.1)

pub returns-clause-after : goal.returns-clause-after
returns-clause-after c =
    let xs = c.self.inside.threads.items in
    let w = written_place xs c.deref_mut.result.now c.args.tid c.place-place.result c.index-deref_mut-place.result c.run_on.new.regs c.deref.result.now
    c.deref_mut.ensures.value c.deref.ensures.0 c.place-place.ensures.place (lives_in _ _ c.args.tid c.self.view_is c.requires) in
    rw (sym c.self.view_is, w.0, w.2) refl

pub invariant_of-self : goal.invariant_of-self
invariant_of-self c = heap_stays c.self.inside.memory c.run_on.new.memory c.self.inside.heap c.self.invariant (ran_stays c.args.most _ c.self.inside.memory _ c.run_on.ensures.ran)
