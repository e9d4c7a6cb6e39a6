-- The memory that was taken in advance for what a call takes in.
use Rattle.std.specs.Prelude.{◌≡◌, ℕ, suc, ◌+◌, ◌-◌, ◌≤◌, ◌<◌, List, [], ◌∷◌, length, slice_index}
use Rattle.nv_fs.specs.Reserved.{Disk}
use Rattle.nv_sockets.specs.Reserved.{Buffered, IsWhole}
use Rattle.nv_sockets.specs.Coming.{came_over, HasInput, HasPlaces}
use Rattle.nv_script.specs.Arrivals.{Arrival, Input, InputEnd, ClientsEnd, Connect, Data, End, Time}

-- The files and the sockets with their memory; and for how many bytes of each of the clients that connect memory was taken, those of the last one first.
pub record Room : Type 0 where
  pub disk : Disk
  pub buffered : Buffered
  pub kept : List ℕ

-- how many bytes come for descriptor 0
abbrev pub input_bytes : List Arrival → ℕ
input_bytes [] = 0
input_bytes (Input bytes ∷ xs) = length bytes + input_bytes xs
input_bytes (InputEnd ∷ xs) = input_bytes xs
input_bytes (ClientsEnd ∷ xs) = input_bytes xs
input_bytes (Connect port ∷ xs) = input_bytes xs
input_bytes (Data i bytes ∷ xs) = input_bytes xs
input_bytes (End i ∷ xs) = input_bytes xs
input_bytes (Time seconds nanos ∷ xs) = input_bytes xs

-- how many clients connect
abbrev pub connects : List Arrival → ℕ
connects [] = 0
connects (Input bytes ∷ xs) = connects xs
connects (InputEnd ∷ xs) = connects xs
connects (ClientsEnd ∷ xs) = connects xs
connects (Connect port ∷ xs) = suc (connects xs)
connects (Data i bytes ∷ xs) = connects xs
connects (End i ∷ xs) = connects xs
connects (Time seconds nanos ∷ xs) = connects xs

-- how many bytes come from a client
abbrev pub data_of : ℕ → List Arrival → ℕ
data_of j [] = 0
data_of j (Input bytes ∷ xs) = data_of j xs
data_of j (InputEnd ∷ xs) = data_of j xs
data_of j (ClientsEnd ∷ xs) = data_of j xs
data_of j (Connect port ∷ xs) = data_of j xs
data_of j (Data i bytes ∷ xs) = came_over i bytes j + data_of j xs
data_of j (End i ∷ xs) = data_of j xs
data_of j (Time seconds nanos ∷ xs) = data_of j xs

-- where the next client has this number, there is memory for all that connect, and for what each sends
pub record HasKept (kept : List ℕ) (next : ℕ) (xs : List Arrival) : Type 0 where
  pub many : connects xs ≤ length kept
  pub each : (p : ℕ) → p < length kept → data_of (next + length kept - suc p) xs ≤ slice_index kept p

-- there is memory for all that comes
pub record HasRoom (r : Room) (xs : List Arrival) : Type 0 where
  pub input : length r.disk.state.input + input_bytes xs ≤ r.disk.reserved.input
  pub clients : HasPlaces r.buffered (connects xs)
  pub data_fits : (j : ℕ) → HasInput r.buffered j (data_of j xs)
  pub kept : HasKept r.kept (length r.buffered.net.links) xs

-- there is, or nothing comes
abbrev pub CanTakeIn : Room → List Arrival → Type 0
CanTakeIn r [] = Unit {0}
CanTakeIn r (x ∷ xs) = HasRoom r (x ∷ xs)

-- only what is left of the input differs, with its memory, which isn't less
pub record IsSameBut (d e : Disk) : Type 0 where
  pub state : e.state ≡ record d.state { input = e.state.input }
  pub reserved : e.reserved ≡ record d.reserved { input = e.reserved.input }
  pub room : d.reserved.input ≤ e.reserved.input
  pub gone : e.gone ≡ d.gone

-- only the memory of what comes over the connections differs, and of those that will be
abbrev pub with_memory : Buffered → Buffered → Buffered
with_memory w v = record w { promised = v.promised; places = v.places; waits = v.waits }

-- nothing of what was written was let go, and no connection
pub record IsKept (r : Room) : Type 0 where
  pub connections : IsWhole r.buffered
  pub console : r.disk.gone ≡ 0
