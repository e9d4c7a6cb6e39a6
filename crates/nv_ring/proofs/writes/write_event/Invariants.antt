use Rattle.std.proofs.Common.{◌≡◌, take}
use Rattle.std.specs.Prelude.{true, slice_get, Some}
use Rattle.nv_calls.specs.Calls.{Entry}
use Rattle.nv_words.specs.Spelling.{spell}
use Rattle.nv_room.specs.Kinds.{Stepped}
use Rattle.nv_room.specs.Seats.{IsLeadOf, SameLead, lead_view, kernel_of, due_of, stations_of}
use Rattle.nv_ring.proofs.writes.write_event.Given as goal

abbrev pub invariant-loop-i : goal.invariant-loop-i
invariant-loop-i g l = record {
  of : IsLeadOf l.room l.lead;
  same : SameLead l.fn.lead l.lead;
  due : due_of l.lead ≡ true;
  kernel : kernel_of l.lead ≡ kernel_of l.fn.lead;
  seen : (lead_view l.lead).seen ≡ (lead_view l.fn.lead).seen;
  floors : (lead_view l.lead).floors ≡ (lead_view l.fn.lead).floors;
  spans : (lead_view l.lead).spans ≡ (lead_view l.fn.lead).spans;
  steps : Stepped (stations_of l.room) (lead_view l.fn.lead) (lead_view l.lead);
  wrote : (e : Entry) → slice_get (g.K.SyscallKernel.log (kernel_of l.fn.lead)) l.fn.lead.seen ≡ Some e → (lead_view l.lead).wrote ≡ take l.i (spell e);
}
