use Rattle.std.proofs.Common.{ap}
use Rattle.nv_guest.specs.Threads.{machine_at}
use Rattle.nv_outside.proofs.Writing.{puts-is, puts-then, puts-failed}
use Rattle.nv_inspect.specs.Shown.{counter_text, registers_text}
use Rattle.nv_inspect.proofs.threads.put_thread.Goals as goal

pub returns : goal.returns
returns g c =
    puts-then (puts-is (ap (counter_text c.args.tid) c.pc.ensures) c.in_ok-put_counter.ensures) (puts-is (ap registers_text c.regs.ensures) c.put_registers.ensures)

pub returns-in_err-put_counter : goal.returns-in_err-put_counter
returns-in_err-put_counter g c =
    puts-failed (registers_text (machine_at c.args.guest.now c.args.tid).regs) c.from_residual.ensures.0 (puts-is (ap (counter_text c.args.tid) c.pc.ensures) c.in_err-put_counter.ensures)
