use Rattle.std.proofs.Common.{◌≡◌, false}
use Rattle.std.specs.Prelude.{Contains}
use Rattle.nv_calls.specs.Logs.{live_after}
use Rattle.nv_room.specs.Seats.{IsLeadOf, AskedSoFar, due_of, kernel_of, version_of_lead}
use Rattle.nv_room_tests.proofs.running.publish_share.Given as goal

abbrev pub invariant-loop-number : goal.invariant-loop-number
invariant-loop-number g l = record {
  of : IsLeadOf l.room l.lead;
  due : due_of l.lead ≡ false;
  asked : AskedSoFar l.room l.lead;
  version : version_of_lead l.lead ≡ version_of_lead l.fn.lead;
  lives : Contains (live_after (g.K.SyscallKernel.log (kernel_of l.lead))) 100;
}
