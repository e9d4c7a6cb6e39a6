use Rattle.std.proofs.Common.{◌∙◌, ap}
use Rattle.std.specs.Int.{w32, cast_unsigned}
use Rattle.std.proofs.lemmas.Int.{to_z-of_z}
use Rattle.nv_guest.specs.Guest.{machine_with}
use Rattle.nv_guest.proofs.Calling.{answered-is}
use Rattle.nv_guest.proofs.threads.answer_to.Goals as goal

pub returns : goal.returns
returns c =
    answered-is (machine_with c.args.regs.now c.args.memory.now) c.go_past.new.regs c.copy_out.new.memory c.args.ret c.cast_unsigned.result c.args.payload.now c.get.result c.of-syscall.result
    (c.cast_unsigned.ensures ∙ ap (cast_unsigned w32) (to_z-of_z w32 c.args.ret c.ranges.ret)) c.get.ensures c.of-syscall.ensures c.copy_out.ensures c.go_past.ensures
