-- What answers where input arrives may cross threads where its outside may, and so may a kernel over it: a snapshot, which has no bytes, stands between the fields of which
-- that is known at once.
use denote.Param.Send.{IsSend, sendable, recorded_send, struct_send, view_send}
use denote.RattleType.{RattleType}
use denote.Struct.Declared.{shape}
use Rattle.std.proofs.Crossing.{crosses}
use Rattle.std.specs.contracts.snapshot.Snapshot as Snapshot
use Rattle.nv_calls.proofs.past.Past.TheSendSync.{the_send as past_send}
use Rattle.nv_calls.proofs.bytes.Bytes.TheSendSync.{the_send as bytes_send}
use Rattle.nv_calls.proofs.calls.Event.TheSendSync.{the_field_send as event_send}
use Rattle.nv_script.proofs.arrival.Arrival.TheSendSync.{the_field_send as arrival_send}
use Rattle.nv_script.specs.declared.outside.Outside.{Ghosts}
use Rattle.nv_arriving.proofs.guests.GuestSide.TheSendSync.{the_field_send as side_send}
use Rattle.nv_arriving.proofs.waiting.Intake.TheSendSync.{the_field_send as intake_send}
use Rattle.nv_arriving.specs.contracts.answering.Guests as Guests
use Rattle.nv_arriving.specs.contracts.answering.Guests.TheInside as GuestsInside
use Rattle.nv_arriving.specs.contracts.listed.Nothing as Nothing
use Rattle.nv_arriving.specs.contracts.listed.NothingOutside.TheImpl as NothingOutside
use Rattle.nv_arriving.specs.contracts.scripted.Listed as Listed
use Rattle.nv_arriving.specs.contracts.scripted.ListedAnswers.TheImpl as ListedAnswers
use Rattle.nv_kernel.specs.contracts.kernel.Kernel as Kernel
use Rattle.nv_kernel.specs.contracts.kernel.Kernel.TheInside as Inside
use Rattle.nv_kernel.specs.declared.answers.Answers.{Ghosts as AnswersGhosts}
use Rattle.nv_script.specs.contracts.script.Script as Script

begun_send : (X : RattleType) → IsSend (Snapshot.the_row X)
begun_send X = search crosses

guests_inside : (X : RattleType) (o : Ghosts X.Denot) → IsSend X → IsSend (GuestsInside.the_row X o)
guests_inside X o x = recorded_send _ _ _ (GuestsInside.the_type X o).to_one (struct_send (shape (GuestsInside.the_type X o)) (search sendable, (search (sendable, side_send) depth 20, (begun_send X, (x, (search (sendable, past_send, arrival_send) depth 20, (search sendable, (search (sendable, intake_send) depth 20, (search sendable, (search sendable, tt))))))))))

pub guests_send : (X : RattleType) (o : Ghosts X.Denot) → IsSend X → IsSend (Guests.the_row X o)
guests_send X o x = view_send _ _ _ _ _ (guests_inside X o x)

nothing_send : IsSend Nothing.the_row
nothing_send = search sendable

listed_guests : IsSend (Guests.the_row Nothing.the_row NothingOutside.ghosts)
listed_guests = guests_send Nothing.the_row NothingOutside.ghosts nothing_send

pub listed_send : IsSend Listed.the_row
listed_send = search (sendable, listed_guests) depth 20

-- ---- kernels

script_send : IsSend (Snapshot.the_row Script.the_row)
script_send = search crosses

inside_send : (A : RattleType) (o : AnswersGhosts A.Denot) → IsSend A → IsSend (Inside.the_row A o)
inside_send A o a = recorded_send _ _ _ (Inside.the_type A o).to_one (struct_send (shape (Inside.the_type A o)) (search sendable, (script_send, (a, (search (sendable, past_send, event_send) depth 20, (bytes_send, (search (sendable, event_send) depth 20, (search sendable, tt))))))))

pub kernel_send : (A : RattleType) (o : AnswersGhosts A.Denot) → IsSend A → IsSend (Kernel.the_row A o)
kernel_send A o a = view_send _ _ _ _ _ (inside_send A o a)

-- the kernel over what a script lists may
pub scripted_send : IsSend (Kernel.the_row Listed.the_row ListedAnswers.ghosts)
scripted_send = kernel_send Listed.the_row ListedAnswers.ghosts listed_send
