use Rattle.std.proofs.Common.{ap, subst}
use Rattle.nv_calls.specs.Logs.{IsLawful}
use Rattle.nv_kernel.specs.Logged.{Logged}
use Rattle.nv_kernel.proofs.kernel.KernelRecorded.history.Goals as goal

pub returns-clause-lawful : goal.returns-clause-lawful
returns-clause-lawful g c = subst IsLawful (ap (λ (k : Logged g.row.A.Denot). k.log) c.self.view_is) c.self.invariant.0.lawful
