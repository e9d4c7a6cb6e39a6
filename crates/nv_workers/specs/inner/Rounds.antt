-- Workers beside each other.
use Rattle.std.specs.Prelude.{◌≡◌, ℕ, List, [], ◌∷◌}
use Rattle.nv_calls.specs.declared.kernel.SyscallKernel.{Ghosts}
use Rattle.nv_room.specs.declared.room.Room.{Room}
use Rattle.nv_threads.specs.Threads.{Proc}
use Rattle.nv_replay.specs.Follow.{Judge}
use Rattle.nv_workers.specs.declared.worker.Turn.{Turn}
use Rattle.nv_workers.specs.declared.worker.Turn.TheVariants.{Moved, Ahead, Waiting, Done}
use Rattle.nv_workers.specs.declared.worker.Worker.{Worker}
use Rattle.nv_room.specs.Seats.{stations_of}
use Rattle.nv_workers.specs.Measure.{Falls}
use Rattle.nv_workers.specs.Views.{GoesBySteps}
use Rattle.nv_workers.specs.Worker.{Works, IsGone, TurnTells, version_of}

module _ (judges : ℕ → Judge) {K : Type 0} {G : Ghosts K} (room : Room K) (most : ℕ) where
  -- a worker that may take its turn
  abbrev pub CanWork : Worker K G → Type 0
  CanWork w = (p : Proc) × Works judges room most p w

  -- it works on for the same fresh version
  pub record WorkedOn (old new : Worker K G) : Type 0 where
    pub works : (p : Proc) → Works judges room most p old → Works judges room most p new
    pub version : version_of new ≡ version_of old
    pub steps : GoesBySteps (stations_of room) old.seat new.seat

  abbrev pub CanAll : List (Worker K G) → Type 0
  CanAll [] = Unit {0}
  CanAll (w ∷ ws) = CanWork w × CanAll ws

  abbrev pub AllOn : List (Worker K G) → List (Worker K G) → Type 0
  AllOn [] [] = Unit {0}
  AllOn [] (w ∷ ws) = ⊥
  AllOn (v ∷ vs) [] = ⊥
  AllOn (v ∷ vs) (w ∷ ws) = WorkedOn v w × AllOn vs ws

module _ {K : Type 0} {G : Ghosts K} (room : Room K) where
  -- it had one turn, which came to this
  pub record HadTurn (result : Turn) (old new : Worker K G) : Type 0 where
    pub tells : TurnTells room result old.version new.version old.seat new.seat
    pub falls : Falls result old new
    pub steps : GoesBySteps (stations_of room) old.seat new.seat

  -- each had one
  abbrev pub AllHadTurns : List (Worker K G) → List (Worker K G) → Type 0
  AllHadTurns [] [] = Unit {0}
  AllHadTurns [] (w ∷ ws) = ⊥
  AllHadTurns (v ∷ vs) [] = ⊥
  AllHadTurns (v ∷ vs) (w ∷ ws) = ((result : Turn) × HadTurn result v w) × AllHadTurns vs ws

module _ {K : Type 0} {G : Ghosts K} where
  abbrev pub AreGone : List (Worker K G) → Type 0
  AreGone [] = Unit {0}
  AreGone (w ∷ ws) = IsGone w.seat × AreGone ws

  -- a round that says so leaves none that works
  abbrev pub GoneIf : Turn → List (Worker K G) → Type 0
  GoneIf Moved ws = Unit {0}
  GoneIf Ahead ws = Unit {0}
  GoneIf Waiting ws = Unit {0}
  GoneIf Done ws = AreGone ws

abbrev pub both_of : Turn → Turn → Turn
both_of Done rest = rest
both_of Moved rest = Moved
both_of Ahead Moved = Moved
both_of Ahead Ahead = Ahead
both_of Ahead Waiting = Ahead
both_of Ahead Done = Ahead
both_of Waiting Done = Waiting
both_of Waiting Waiting = Waiting
both_of Waiting Ahead = Ahead
both_of Waiting Moved = Moved
