use Rattle.std.proofs.Common.{◌∙◌, ap, subst}
use Rattle.nv_calls.specs.Calls.{entry}
use Rattle.nv_calls.specs.Logs.{IsLawful}
use Rattle.nv_kernel.specs.Logged.{Logged}
use Rattle.nv_kernel.proofs.Lasts.{last_mapped}
use Rattle.nv_kernel.proofs.kernel.KernelSyscallKernel.last.Goals as goal

pub returns-clause-is : goal.returns-clause-is
returns-clause-is g c = λ past e h. last_mapped entry c.self.inside.log.items c.last.result.now c.last.ensures past e (ap (λ (k : Logged g.row.A.Denot). k.log) c.self.view_is ∙ h)

pub returns-clause-lawful : goal.returns-clause-lawful
returns-clause-lawful g c = subst IsLawful (ap (λ (k : Logged g.row.A.Denot). k.log) c.self.view_is) c.self.invariant.0.lawful
