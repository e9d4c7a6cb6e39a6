use Rattle.std.proofs.Common.{◌∙◌, sym, arith}
use Rattle.nv_guest.proofs.Blocks.{stored_all, stored_none}
use Rattle.nv_guest.proofs.answers.store_all.Goals as goal

pub returns-clause-stored : goal.returns-clause-stored
returns-clause-stored c ok =
    stored_all c.args.memory.now c.args.address c.args.bytes.now c.copy_out.result c.copy_out.new.self (omega (arith, c.ranges.address.fits, c.if-bytes-address.false))
    c.copy_out.ensures.answer c.copy_out.ensures.after (sym c.is_ok.ensures.value ∙ ok)

pub returns-clause-refused : goal.returns-clause-refused
returns-clause-refused c refuses =
    stored_none c.args.memory.now c.args.address c.args.bytes.now c.copy_out.result c.copy_out.new.self
    c.copy_out.ensures.answer c.copy_out.ensures.after (sym c.is_ok.ensures.value ∙ refuses)
