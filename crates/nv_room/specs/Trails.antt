-- What a seat keeps of the events that it has seen, and of the one that it reads or writes.
use Rattle.std.specs.Prelude.{◌≡◌, ℕ, ◌<◌, ◌%◌, ◌++◌, List, [], ◌∷◌, length, slice_index, Some}
use Rattle.nv_pool.specs.Pool.{chunks_of_pool, places_of, Holds}
use Rattle.nv_room.specs.Logs.{Log, lanes_after, lane}
use Rattle.nv_room.specs.declared.spot.Spot.{Spot}
use Rattle.nv_room.specs.declared.view.View.{View}
use Rattle.nv_room.specs.declared.trail.Trail.{Trail}
use Rattle.nv_room.specs.Placement.{pool_chunks, chunks_before, sizes}

-- in a room of c places a lane
pub record Trails (c : ℕ) (t : Trail) (seen : Log) (words : List ℕ) : Type 0 where
  pub lanes : t.lanes ≡ lanes_after seen
  pub pool_is : (chunks_of_pool t.pool ≡ pool_chunks c) × (places_of t.pool ≡ c)
  pub pool : Holds t.pool (sizes seen)
  pub first : 0 < length words → t.first ≡ slice_index words 0
  pub sixth : 5 < length words → t.sixth ≡ slice_index words 5

-- where the event after these stands, if it stands in this lane
pub record IsSpot (c : ℕ) (seen : Log) (l : ℕ) (s : Spot) : Type 0 where
  pub lane : s.lane ≡ l
  pub below : l < 8
  pub place : s.place ≡ slice_index (lanes_after seen).counts l % c
  pub first : s.first ≡ chunks_before seen (length seen) % pool_chunks c

-- where the event of the lane that is noted stands
abbrev pub NotedAt : {T : Type 0} → Spot → View T → Type 0
NotedAt s v = (l : ℕ) → v.noted ≡ Some l → IsSpot v.places v.seen l s

-- where the event that is written stands
abbrev pub WritesAt : {T : Type 0} → Spot → View T → Type 0
WritesAt s v = 0 < length v.wrote → IsSpot v.places v.seen (lane (v.seen ++ v.wrote ∷ []) (length v.seen)) s
