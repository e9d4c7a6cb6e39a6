use Rattle.std.proofs.Common.{rules, Ok, Err, Some, None, ap, ◌∙◌, sym, ℤ, SFits, w32}
use Rattle.std.proofs.lemmas.Int.{to_z-of_z}
use Rattle.nv_memory.specs.Insns.{insn_at}
use Rattle.nv_machine.specs.Registers.{Registers}
use Rattle.nv_machine.specs.Guest.{effect}
use Rattle.nv_machine.proofs.GuestLaws.{found_anew}
use Rattle.nv_machine.proofs.stepping.step_anew.Goals as goal

pub returns-in-Ok-Some : goal.returns-in-Ok-Some
returns-in-Ok-Some c =
    let found = rw c.in-Ok-Some.field-0-is at c.in-Ok-Some.ensures.insn in
    let there = ap (λ (r : Registers). insn_at c.args.memory.now r.pc) c.regs.view_is in
    let insn = c.in-Ok-Some.insn in
    let fits : SFits w32 insn.imm = search rules in
    c.carry_out.ensures
    ∙ ap (λ (z : ℤ). effect insn.op (record insn { imm = z }) (record { regs = c.args.regs.now; memory = c.insn.new.self })) (to_z-of_z w32 insn.imm fits)
    ∙ sym (found_anew c.args.regs.now c.args.memory.now c.insn.new.self (Ok (Some c.in-Ok-Some.insn)) (found ∙ there) c.insn.ensures.same)

pub returns-in-Ok-None : goal.returns-in-Ok-None
returns-in-Ok-None c =
    let found = rw c.in-Ok-None.field-0-is at c.in-Ok-None.ensures.insn in
    let there = ap (λ (r : Registers). insn_at c.args.memory.now r.pc) c.regs.view_is in
    sym (found_anew c.args.regs.now c.args.memory.now c.insn.new.self (Ok None) (found ∙ there) c.insn.ensures.same)

pub returns-in-Err : goal.returns-in-Err
returns-in-Err c =
    let there = ap (λ (r : Registers). insn_at c.args.memory.now r.pc) c.regs.view_is in
    sym (found_anew c.args.regs.now c.args.memory.now c.insn.new.self (Err c.in-Err.field-0) (c.in-Err.ensures.insn ∙ there) c.insn.ensures.same)
