-- A source in memory may cross threads, whatever its sinks are: what it keeps of them has no bytes.
use denote.Param.Send.{IsSend, sendable, recorded_send, struct_send}
use denote.RattleType.{RattleType}
use denote.Struct.Declared.{shape}
use Rattle.std.proofs.Crossing.{crosses}
use Rattle.std.specs.contracts.snapshot.Snapshot as Snapshot
use Rattle.nv_calls.proofs.whole.Whole.TheSendSync.{the_send as whole_send}
use Rattle.nv_live.specs.contracts.memory_source.Seen as Seen
use Rattle.nv_live.specs.contracts.memory_source.MemorySource as MemorySource

snapshot_send : (X : RattleType) → IsSend (Snapshot.the_row X)
snapshot_send X = search crosses

seen_send : (O T : RattleType) → IsSend (Seen.the_row O T)
seen_send O T =
    recorded_send _ _ _ (Seen.the_type O T).to_one (struct_send (shape (Seen.the_type O T)) (search sendable, (search sendable, (snapshot_send O, (snapshot_send T, tt)))))

pub source_send : (O T : RattleType) → IsSend (MemorySource.the_row O T)
source_send O T =
    recorded_send _ _ _ (MemorySource.the_type O T).to_one (struct_send (shape (MemorySource.the_type O T)) (search crosses, (search sendable, (search sendable, (whole_send (Seen.the_row O T) (seen_send O T), tt)))))
