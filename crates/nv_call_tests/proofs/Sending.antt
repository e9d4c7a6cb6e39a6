-- The kernel over a script's devices may cross threads: a snapshot, which has no bytes, stands between the fields of which that is known at once.
use denote.Param.Send.{IsSend, sendable, recorded_send, struct_send, view_send}
use denote.Struct.Declared.{shape}
use Rattle.std.proofs.Crossing.{crosses}
use Rattle.std.specs.contracts.snapshot.Snapshot as Snapshot
use Rattle.nv_calls.proofs.past.Past.TheSendSync.{the_send as past_send}
use Rattle.nv_calls.proofs.bytes.Bytes.TheSendSync.{the_send as bytes_send}
use Rattle.nv_calls.proofs.calls.Event.TheSendSync.{the_field_send as event_send}
use Rattle.nv_kernel.proofs.devices.Devices.TheSendSync.{the_send as devices_send}
use Rattle.nv_kernel.specs.contracts.devices.Devices as Devices
use Rattle.nv_kernel.specs.contracts.replying.DevicesAnswers.TheImpl as DevicesAnswers
use Rattle.nv_kernel.specs.contracts.kernel.Kernel as Kernel
use Rattle.nv_kernel.specs.contracts.kernel.Kernel.TheInside as Inside
use Rattle.nv_script.specs.contracts.script.Script as Script

script_send : IsSend (Snapshot.the_row Script.the_row)
script_send = search crosses

inside_send : IsSend (Inside.the_row Devices.the_row DevicesAnswers.ghosts)
inside_send = recorded_send _ _ _ (Inside.the_type Devices.the_row DevicesAnswers.ghosts).to_one (struct_send (shape (Inside.the_type Devices.the_row DevicesAnswers.ghosts)) (search sendable, (script_send, (devices_send, (search (sendable, past_send, event_send) depth 20, (bytes_send, (search (sendable, event_send) depth 20, (search sendable, tt))))))))

pub kernel_send : IsSend (Kernel.the_row Devices.the_row DevicesAnswers.ghosts)
kernel_send = view_send _ _ _ _ _ inside_send
