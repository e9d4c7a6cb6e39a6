-- Workers as they are made.
use Rattle.std.specs.Prelude.{◌≡◌, ℕ, ◌+◌, ◌≤◌, List, [], ◌∷◌, vec_len, vec_capacity}
use Rattle.nv_calls.specs.declared.kernel.SyscallKernel.{Ghosts}
use Rattle.nv_room.specs.declared.room.Room.{Room}
use Rattle.nv_room.specs.declared.room.Reader.{Reader}
use Rattle.nv_room.specs.declared.room.Lead.{Lead}
use Rattle.nv_room.specs.Seats.{IsFreshLead, IsFreshReader, FreshReaders, kernel_of, version_of_reader}
use Rattle.nv_threads.specs.Threads.{Proc, threads}
use Rattle.nv_replay.specs.Follow.{Judge}
use Rattle.nv_replay.specs.Version.{Running, IsFresh}
use Rattle.nv_workers.specs.declared.staffing.Stock.{Stock}
use Rattle.nv_workers.specs.declared.worker.Worker.{Worker}
use Rattle.nv_workers.specs.Worker.{Works, version_of}
use Rattle.nv_workers.specs.Measure.{MOST_TURNS, turns_left}

module _ {K : Type 0} {G : Ghosts K} where
  -- memory for the workers of so many versions, and for what is left of them
  pub record HasMemoryFor (count : ℕ) (stock : Stock K G) : Type 0 where
    pub bufs : count ≤ vec_len stock.bufs
    pub none_yet : stock.workers.items ≡ []
    pub workers : count ≤ vec_capacity stock.workers
    pub none_ended : (stock.versions.items ≡ []) × (stock.left.items ≡ [])
    pub ended : (count ≤ vec_capacity stock.versions) × (count ≤ vec_capacity stock.left)

  -- the lead as the room's making gave it
  pub record IsLeadAsMade (room : Room K) (l : Lead K G) : Type 0 where
    pub fresh : IsFreshLead room l
    pub log : G.log (kernel_of l) ≡ []

  abbrev pub IsNewLead : Lead K G → Type 0
  IsNewLead l = (room : Room K) × IsLeadAsMade room l

  abbrev pub IsNewReader : Reader K G → Type 0
  IsNewReader r = (room : Room K) × IsFreshReader room (version_of_reader r) r

  -- the worker of version i, with its seat in the room, as it is made
  pub record IsNewWorker (room : Room K) (i : ℕ) (v : Running Proc) (w : Worker K G) : Type 0 where
    pub fresh : IsFresh threads i v
    pub version : version_of w ≡ i
    pub works : (judges : ℕ → Judge) (most : ℕ) → Works judges room most v.at.process w
    pub few : turns_left w ≤ MOST_TURNS

  -- of the room that made the lead
  abbrev pub LeadsAnew : Running Proc → Lead K G → Worker K G → Type 0
  LeadsAnew v l w = (room : Room K) → IsLeadAsMade room l → IsNewWorker room 0 v w

  -- of the room that made the reader
  abbrev pub ReadsAnew : Running Proc → Reader K G → Worker K G → Type 0
  ReadsAnew v r w = (room : Room K) → IsFreshReader room (version_of_reader r) r → IsNewWorker room (version_of_reader r) v w

  -- one worker for each version, for the numbers from i on
  abbrev pub AreNew : Room K → ℕ → List (Running Proc) → List (Worker K G) → Type 0
  AreNew room i [] [] = Unit {0}
  AreNew room i [] (w ∷ ws) = ⊥
  AreNew room i (v ∷ vs) [] = ⊥
  AreNew room i (v ∷ vs) (w ∷ ws) = IsNewWorker room i v w × AreNew room (i + 1) vs ws

  -- the lead and the readers, in order of version, as one room's making gave them
  pub record AreAsMade (room : Room K) (rs : List (Reader K G)) (l : Lead K G) : Type 0 where
    pub readers : FreshReaders room rs
    pub lead : IsLeadAsMade room l

  abbrev pub AreNewSeats : List (Reader K G) → Lead K G → Type 0
  AreNewSeats rs l = (room : Room K) × AreAsMade room rs l

  -- of the room that made the seats
  abbrev pub StaffsAnew : List (Running Proc) → List (Reader K G) → Lead K G → List (Worker K G) → Type 0
  StaffsAnew vs rs l ws = (room : Room K) → AreAsMade room rs l → AreNew room 0 vs ws
