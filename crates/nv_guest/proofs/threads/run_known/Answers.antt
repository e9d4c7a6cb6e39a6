use Rattle.std.proofs.Common.{rules, ◌-◌, ◌∙◌, ap, sym, ℤ, SFits, w32}
use Rattle.std.proofs.lemmas.Int.{to_z-of_z}
use Rattle.nv_machine.specs.Registers.{Registers}
use Rattle.nv_machine.specs.Guest.{effect}
use Rattle.nv_machine.specs.Went.{ended, at_pc}
use Rattle.nv_guest.specs.Guest.{machine_with}
use Rattle.nv_guest.specs.Threads.{run, more}
use Rattle.nv_guest.proofs.Known.{next_at, ends_at, Carried}
use Rattle.nv_guest.proofs.threads.run_known.Goals as goal

pub returns-then-not-goes_on-clause-ran : goal.returns-then-not-goes_on-clause-ran
returns-then-not-goes_on-clause-ran c =
    let l = c.loop-count in
    let next = c.execute-went.new in
    let insn = c.in-Some.insn.now in
    let fits : SFits w32 insn.imm = search rules in
    let done = c.execute-went.ensures.effect ∙ ap (λ (z : ℤ). effect insn.op (record insn { imm = z }) (machine_with (at_pc l.regs c.address_of-pc.result) l.memory)) (to_z-of_z w32 insn.imm fits) in
    let went : Carried c.code_start-start.result l.at c.address_of-pc.result (ended c.execute-went.result) (machine_with (at_pc next.regs next.pc) next.memory) l.regs l.memory insn = record { stood = c.address_of-pc.ensures; known = c.in-Some.ensures.insn; done = done } in
    ends_at c.args.most l.count c.code_start-start.result l.at c.address_of-pc.result next.pc (machine_with c.args.regs.now c.args.memory.now) (ended c.execute-went.result) l.regs next.regs l.memory next.memory insn l.invariant went (λ e. cc (c.goes_on.ensures.1 e, c.if-not-goes_on.true))
    ∙ ap (λ (r : Registers). more l.count (run (c.args.most - l.count) (machine_with (at_pc r next.pc) next.memory))) (sym c.regs-in-loop-count-2.view_is)

pub loop-count-preserved : goal.loop-count-preserved
loop-count-preserved c =
    let l = c.loop-count in
    let next = c.execute-went.new in
    let insn = c.in-Some.insn.now in
    let fits : SFits w32 insn.imm = search rules in
    let done = c.execute-went.ensures.effect ∙ ap (λ (z : ℤ). effect insn.op (record insn { imm = z }) (machine_with (at_pc l.regs c.address_of-pc.result) l.memory)) (to_z-of_z w32 insn.imm fits) in
    let went : Carried c.code_start-start.result l.at c.address_of-pc.result (ended c.execute-went.result) (machine_with (at_pc next.regs next.pc) next.memory) l.regs l.memory insn = record { stood = c.address_of-pc.ensures; known = c.in-Some.ensures.insn; done = done } in
    next_at c.args.most l.count c.code_start-start.result l.at c.address_of-pc.result c.next_place-at.result next.pc (machine_with c.args.regs.now c.args.memory.now) (ended c.execute-went.result) l.regs next.regs l.memory next.memory insn l.invariant c.loop-count-test.true went (c.goes_on.ensures.0 c.if-not-goes_on.false) c.next_place-at.ensures
