use Rattle.std.proofs.Common.{◌∙◌, sym, ap}
use Rattle.nv_calls.specs.declared.numbers.Syscall.{Syscall}
use Rattle.nv_calls.specs.Calls.{request}
use Rattle.nv_calls.specs.Constants.{constant_by, constant_of}
use Rattle.nv_kernel.proofs.ReplyLaws.{always-replied}
use Rattle.nv_kernel.proofs.constants.constant.Goals as goal

pub returns-clause-always : goal.returns-clause-always
unfolding constant_of
returns-clause-always c = always-replied (request c.args.call.now) c.constant_as.result c.constant_as.new.out.bytes
    (ap (λ (k : Syscall). constant_by k (request c.args.call.now)) (sym c.of.ensures) ∙ c.constant_as.ensures.reply)
