use Rattle.std.proofs.Common.{ap, subst}
use Rattle.nv_calls.specs.Logs.{IsLawful}
use Rattle.nv_run_tests.proofs.learning.LearningKernelSyscallKernel.ended.Goals as goal

pub returns-clause-lawful : goal.returns-clause-lawful
returns-clause-lawful g c = subst IsLawful (ap (λ k. k.log) c.self.view_is) c.self.invariant.0.lawful
