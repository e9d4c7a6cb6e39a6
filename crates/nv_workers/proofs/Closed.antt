-- No reader without a fate meets a closed room.
use Rattle.std.proofs.Common.{◌≡◌, ℕ, List, [], None}
use Rattle.nv_calls.specs.Calls.{Entry}
use Rattle.nv_calls.specs.Logs.{Start, live_after}
use Rattle.nv_threads.specs.Behaviours.{Behaviour, IsProcess}
use Rattle.nv_replay.specs.Follow.{Judge}
use Rattle.nv_replay.specs.Version.{Running}
use Rattle.nv_replay.proofs.Fates.{alive_not}
use Rattle.nv_workers.specs.Turns.{IsReaders}

pub never_closed : {P : Type 0} (g : Behaviour P) (laws : IsProcess g) (judges : ℕ → Judge) (start : Start) (most : ℕ) (hands : List ℕ) (i : ℕ) (p : P) (v : Running P) (log : List Entry)
    → IsReaders g judges start most hands i p v log None → live_after log ≡ [] → ⊥
never_closed g laws judges start most hands i p v log r d = alive_not g laws log v.at r.in_step d r.seen r.on
