use Rattle.std.proofs.Common.{rules, ap, ◌∙◌, sym, ℤ, SFits, w32}
use Rattle.std.proofs.lemmas.Int.{to_z-of_z}
use Rattle.nv_memory.specs.Insns.{insn_at}
use Rattle.nv_machine.specs.Registers.{Registers}
use Rattle.nv_machine.specs.Guest.{Machine, effect}
use Rattle.nv_machine.proofs.GuestLaws.{known_step, rests}
use Rattle.nv_machine.proofs.stepping.step.Goals as goal

pub returns-in-Some-clause-step : goal.returns-in-Some-clause-step
returns-in-Some-clause-step c =
    let there = ap (λ (r : Registers). insn_at c.args.memory.now r.pc) (sym c.regs.view_is) in
    let insn = c.in-Some.insn.now in
    let fits : SFits w32 insn.imm = search rules in
    c.carry_out.ensures
    ∙ ap (λ (z : ℤ). effect insn.op (record insn { imm = z }) (record { regs = c.args.regs.now; memory = c.args.memory.now })) (to_z-of_z w32 insn.imm fits)
    ∙ sym (known_step (record { regs = c.args.regs.now; memory = c.args.memory.now }) insn (there ∙ c.in-Some.ensures.insn))

pub returns-in-Some-clause-registers_rest : goal.returns-in-Some-clause-registers_rest
returns-in-Some-clause-registers_rest c = λ n. ap (λ (m : Machine). m.regs) (rests c.carry_out.result (record { regs = c.carry_out.new.regs; memory = c.carry_out.new.memory }) (record { regs = c.args.regs.now; memory = c.args.memory.now }) (returns-in-Some-clause-step c) n)

pub returns-in-Some-clause-memory_rests : goal.returns-in-Some-clause-memory_rests
returns-in-Some-clause-memory_rests c = λ n. ap (λ (m : Machine). m.memory) (rests c.carry_out.result (record { regs = c.carry_out.new.regs; memory = c.carry_out.new.memory }) (record { regs = c.args.regs.now; memory = c.args.memory.now }) (returns-in-Some-clause-step c) n)

pub returns-in-None-clause-registers_rest : goal.returns-in-None-clause-registers_rest
returns-in-None-clause-registers_rest c = λ n. ap (λ (m : Machine). m.regs) (rests c.step_anew.result (record { regs = c.step_anew.new.regs; memory = c.step_anew.new.memory }) (record { regs = c.args.regs.now; memory = c.args.memory.now }) c.step_anew.ensures n)

pub returns-in-None-clause-memory_rests : goal.returns-in-None-clause-memory_rests
returns-in-None-clause-memory_rests c = λ n. ap (λ (m : Machine). m.memory) (rests c.step_anew.result (record { regs = c.step_anew.new.regs; memory = c.step_anew.new.memory }) (record { regs = c.args.regs.now; memory = c.args.memory.now }) c.step_anew.ensures n)
