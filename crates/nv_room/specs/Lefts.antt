-- What a clause says of the seats that have left, at the room's end.
use Rattle.std.specs.Prelude.{◌≡◌, ◌<◌, ℕ, List, length, take}
use mathlib.Core.Option.{some}
use lib.ListN.{get_elem?}
use Rattle.nv_calls.specs.declared.kernel.SyscallKernel.{Ghosts}
use Rattle.atomic_table.specs.Seated.{TableId}
use Rattle.nv_room.specs.declared.view.Past.{Past}
use Rattle.nv_room.specs.declared.view.Span.{Span}
use Rattle.nv_room.specs.declared.room.Room.{Room}
use Rattle.nv_room.specs.declared.room.Left.{Left}
use Rattle.nv_room.specs.Placement.{Log}
use Rattle.nv_room.specs.Planned.{asked_in}
use Rattle.nv_room.specs.Spans.{Tiles, Rising, of_version, Before, IsLastStation, Opened}
use Rattle.nv_room.specs.Room.{AreOfNext, Became}
use Rattle.nv_room.specs.Steps.{past_of}
use Rattle.nv_room.specs.Seats.{left_view, hands_of, origin}

module _ {K : Type 0} {G : Ghosts K} where
  -- seats of one table, each of a version of its own
  pub record LeftsOf (n : ℕ) (z : TableId) (rs : List (Left K G)) : Type 0 where
    pub table : (i : ℕ) (r : Left K G) → get_elem? rs i ≡ some r → (r.seat.table_id ≡ z) × (r.version < n)
    pub apart : (i j : ℕ) (r q : Left K G) → get_elem? rs i ≡ some r → get_elem? rs j ≡ some q → r.version ≡ q.version → i ≡ j

  -- exactly one for each version
  abbrev pub IsEach : Room K → List (Left K G) → Type 0
  IsEach room rs = LeftsOf room.versions room.table.shared.table_id rs × ((v : ℕ) → v < room.versions → (i : ℕ) × (r : Left K G) × (get_elem? rs i ≡ some r) × (r.version ≡ v))

  abbrev pub Came : Left K G → List Past → Type 0
  Came r es = (k : ℕ) × (get_elem? es k ≡ some (past_of (left_view r)))

  -- the seat is among those that came back, and its count is written
  pub record Counted (rs : List (Left K G)) (es : List Past) (xs ys : List ℕ) : Type 0 where
    pub wide : length ys ≡ length xs
    pub each : (i : ℕ) (r : Left K G) → get_elem? rs i ≡ some r → Came r es × (get_elem? ys r.version ≡ some (length (left_view r).seen))

  -- what a version's seat tells, in terms of the whole history
  pub record TellsOf (history : Log) (counts : List ℕ) (spans : List Span) (seating : List ℕ) (r : Left K G) : Type 0 where
    pub count : get_elem? counts r.version ≡ some (length (left_view r).seen)
    pub seen : (left_view r).seen ≡ take (length (left_view r).seen) history
    pub read : AreOfNext history (left_view r).seen (left_view r).read
    pub led : (left_view r).spans ≡ of_version r.version spans
    pub last : IsLastStation seating r.version r.station
    pub before : Before spans r.station (left_view r).seen (left_view r).read

  -- The spans, each of an open station and its version, tile the history in order of station. The first stations are those of the versions;
  -- the others were opened by the hand-overs. The kernel asked for those that aren't planned, and for no other.
  pub record AllTell (room : Room K) (kernel : K) (history : Log) (counts : List ℕ) (rs : List (Left K G)) : Type 0 where
    pub spans : List Span
    pub seating : List ℕ
    pub tile : Tiles 0 spans (length history)
    pub rise : Rising 0 spans
    pub made : (i : ℕ) (x : Span) → get_elem? spans i ≡ some x → get_elem? seating x.station ≡ some x.version
    pub first : (s : ℕ) → s < length counts → get_elem? seating s ≡ some s
    pub is_version : (s v : ℕ) → get_elem? seating s ≡ some v → v < length counts
    pub opened : Opened (length counts) seating spans
    pub asked : Became G.start G.handed (origin room) kernel (asked_in (hands_of room) spans)
    pub each : (i : ℕ) (r : Left K G) → get_elem? rs i ≡ some r → TellsOf history counts spans seating r
