-- A version may cross threads: a snapshot, which has no bytes, stands between the fields of which that is known at once.
use denote.Param.Send.{IsSend, sendable, view_send}
use Rattle.std.proofs.Crossing.{crosses}
use Rattle.std.specs.contracts.snapshot.Snapshot as Snapshot
use Rattle.nv_calls.proofs.bytes.Bytes.TheSendSync.{the_send as bytes_send}
use Rattle.nv_threads.proofs.process.Process.TheSendSync.{the_send as process_send}
use Rattle.nv_threads.proofs.turns.Ahead.TheSendSync.{the_field_send as ahead_send}
use Rattle.nv_threads.specs.contracts.process.Process as Process
use Rattle.nv_threads.specs.contracts.eager.Eager as Eager
use Rattle.nv_threads.specs.contracts.eager.Eager.TheInside as EagerInside
use Rattle.nv_replay.proofs.standing.Standing.TheSendSync.{the_field_send as standing_send}
use Rattle.nv_replay.specs.contracts.version.Version as Version
use Rattle.nv_replay.specs.contracts.version.Version.TheInside as VersionInside

known_send : IsSend (Snapshot.the_row Process.the_row)
known_send = search crosses

eager_inside : IsSend EagerInside.the_row
eager_inside = search (sendable, known_send, process_send, ahead_send) depth 20

eager_send : IsSend Eager.the_row
eager_send = view_send _ _ _ _ _ eager_inside

version_inside : IsSend VersionInside.the_row
version_inside = search (sendable, eager_send, standing_send, bytes_send) depth 20

pub version_send : IsSend Version.the_row
version_send = view_send _ _ _ _ _ version_inside
