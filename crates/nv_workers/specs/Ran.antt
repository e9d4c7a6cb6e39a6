-- Workers that have ended.
use Rattle.std.specs.Prelude.{◌≡◌, ℕ, ◌+◌, List, [], ◌∷◌, length}
use Rattle.nv_calls.specs.declared.kernel.SyscallKernel.{Ghosts}
use Rattle.nv_room.specs.declared.room.Room.{Room}
use Rattle.nv_room.specs.declared.room.Left.{Left}
use Rattle.nv_room.specs.Seats.{IsLeftOf, left_view, version_of_left, versions_of, hands_of, on_demand_of}
use Rattle.nv_threads.specs.Threads.{Proc, threads}
use Rattle.nv_replay.specs.Follow.{Judge}
use Rattle.nv_replay.specs.Version.{Running}
use Rattle.nv_replay.specs.Account.{AreFresh}
use Rattle.nv_workers.specs.declared.worker.Seat.TheVariants.{Gone}
use Rattle.nv_workers.specs.declared.worker.Worker.{Worker}
use Rattle.nv_workers.specs.Working.{HasEnded}

module _ {K : Type 0} {G : Ghosts K} where
  -- the versions of the workers, and the seats that have left
  abbrev pub AreApart : List (Worker K G) → List (Running Proc) → List (Left K G) → Type 0
  AreApart [] [] [] = Unit {0}
  AreApart [] [] (l ∷ ls) = ⊥
  AreApart [] (v ∷ vs) ls = ⊥
  AreApart (w ∷ ws) [] ls = ⊥
  AreApart (w ∷ ws) (v ∷ vs) [] = ⊥
  AreApart (w ∷ ws) (v ∷ vs) (l ∷ ls) = (w.version ≡ v) × (w.seat ≡ Gone l) × AreApart ws vs ls

module _ (judges : ℕ → Judge) {K : Type 0} {G : Ghosts K} (room : Room K) (most : ℕ) where
  -- version i, fresh before and v after, has its fate, and its seat has left
  pub record HasRun (i : ℕ) (fresh v : Running Proc) (l : Left K G) : Type 0 where
    pub of : IsLeftOf room l
    pub version : version_of_left l ≡ i
    pub ended : HasEnded judges most (hands_of room) (on_demand_of room) i fresh.at.process v (left_view l)

  -- so do the versions from number i on
  abbrev pub HaveRun : ℕ → List (Running Proc) → List (Running Proc) → List (Left K G) → Type 0
  HaveRun i [] [] [] = Unit {0}
  HaveRun i [] [] (l ∷ ls) = ⊥
  HaveRun i [] (v ∷ vs) ls = ⊥
  HaveRun i (f ∷ fs) [] ls = ⊥
  HaveRun i (f ∷ fs) (v ∷ vs) [] = ⊥
  HaveRun i (f ∷ fs) (v ∷ vs) (l ∷ ls) = HasRun i f v l × HaveRun (i + 1) fs vs ls

  -- all versions have run, and the seat of each version of the room has left
  pub record AllRan (olds news : List (Running Proc)) (left : List (Left K G)) : Type 0 where
    pub fresh : AreFresh threads 0 olds
    pub ran : HaveRun 0 olds news left
    pub all : length left ≡ versions_of room
