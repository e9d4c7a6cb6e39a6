use Rattle.std.proofs.Common.{◌≡◌, false, ℕ, List}
use Rattle.nv_room.specs.Seats.{IsLeadOf, SameLead, due_of, kernel_of, version_of_lead}
use Rattle.nv_calls.specs.Calls.{request}
use Rattle.nv_room_tests.proofs.running.publish_one.Given as goal

abbrev pub invariant-loop-turn : goal.invariant-loop-turn
invariant-loop-turn g l = record {
  of : IsLeadOf l.room l.lead;
  due : due_of l.lead ≡ false;
  version : version_of_lead l.lead ≡ version_of_lead l.fn.lead;
  log : g.K.SyscallKernel.log (kernel_of l.lead) ≡ g.K.SyscallKernel.log (kernel_of l.fn.lead);
  start : g.K.SyscallKernel.start (kernel_of l.lead) ≡ g.K.SyscallKernel.start (kernel_of l.fn.lead);
  same : SameLead l.fn.lead l.lead;
  handed : (lengths : List ℕ) → g.K.SyscallKernel.handed (kernel_of l.fn.lead) lengths → g.K.SyscallKernel.handed (kernel_of l.lead) lengths;
  ready : g.K.SyscallKernel.is_ready (kernel_of l.lead) (request l.call);
}
