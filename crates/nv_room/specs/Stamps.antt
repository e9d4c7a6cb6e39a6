-- What the places of the lanes tell of the order of events: word 1 of a place has an event's number in its low half.
use Rattle.std.specs.Prelude.{◌≡◌, ℕ, ◌%◌, ◌<◌, ◌≤◌, ◌⊎◌, true, List, [], ◌∷◌, ◌++◌, length, slice_index}
use Rattle.nv_words.specs.Spelling.{low}
use Rattle.nv_room.specs.Lanes.{lives}
use Rattle.nv_room.specs.Logs.{Log, lanes_after, lane, earlier}

-- the event of this number stands in the lane
pub record Published (log : Log) (l number : ℕ) : Type 0 where
  pub below : number < length log
  pub lane_is : lane log number ≡ l

-- the event after the log is written there as far as its number
pub record Begun (log : Log) (writing : List ℕ) (l number : ℕ) : Type 0 where
  pub at_head : number ≡ length log
  pub numbered : 2 ≤ length writing
  pub lane_is : lane (log ++ writing ∷ []) (length log) ≡ l

abbrev pub Stamp : Log → List ℕ → ℕ → ℕ → Type 0
Stamp log writing l number = (number ≡ 0) ⊎ (Published log l number ⊎ Begun log writing l number)

-- `second l k` is word 1 of the k-th of the c places of the lane l
abbrev pub Stamps : ℕ → (ℕ → ℕ → ℕ) → Log → List ℕ → Type 0
Stamps c second log writing = (l k : ℕ) → l < 8 → k < c → Stamp log writing l (low (second l k))

-- the event's number stands in its place
abbrev pub IsStamped : ℕ → (ℕ → ℕ → ℕ) → Log → ℕ → Type 0
IsStamped c second log i = low (second (lane log i) (earlier log i % c)) ≡ i

-- what a reader that has seen these events finds in a lane: its own count, where the next place of the lane has it
abbrev pub found_in_lane : ℕ → (ℕ → ℕ → ℕ) → Log → ℕ → ℕ
found_in_lane c second seen l = low (second l (slice_index (lanes_after seen).counts l % c))

abbrev pub Lives : Log → ℕ → Type 0
Lives seen l = lives (lanes_after seen) l ≡ true
