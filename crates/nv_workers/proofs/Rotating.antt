-- Rounds of turns.
use Rattle.std.proofs.Common.{◌⊎◌, inl, inr, ◌∙◌, refl, ℕ, List, [], ◌∷◌}
use Rattle.nv_calls.specs.declared.kernel.SyscallKernel.{Ghosts}
use Rattle.nv_room.specs.declared.room.Room.{Room}
use Rattle.nv_replay.specs.Follow.{Judge}
use Rattle.nv_workers.specs.declared.worker.Turn.{Turn}
use Rattle.nv_workers.specs.declared.worker.Turn.TheVariants.{Moved, Ahead, Waiting, Done}
use Rattle.nv_workers.specs.declared.worker.Worker.{Worker}
use Rattle.nv_room.specs.Seats.{stations_of}
use Rattle.nv_workers.specs.Worker.{IsLast}
use Rattle.nv_workers.proofs.SeatSteps.{goes_nowhere, goes_further}
use Rattle.nv_workers.specs.inner.Rounds.{CanWork, WorkedOn, CanAll, AllOn, GoneIf, both_of}

module _ (judges : ℕ → Judge) {K : Type 0} {G : Ghosts K} (room : Room K) (most : ℕ) where
  pub can_on : (old new : Worker K G) → WorkedOn judges room most old new → CanWork judges room most old → CanWork judges room most new
  can_on old new w c = (c.0, w.works c.0 c.1)

  pub all_here : (ws : List (Worker K G)) → AllOn judges room most ws ws
  all_here [] = tt
  all_here (w ∷ ws) = (record { works = λ p h. h; version = refl; steps = goes_nowhere (stations_of room) w.seat }, all_here ws)

  pub all_can : (vs ws : List (Worker K G)) → AllOn judges room most vs ws → CanAll judges room most vs → CanAll judges room most ws
  all_can [] [] a c = tt
  all_can [] (w ∷ ws) a c = absurd a
  all_can (v ∷ vs) [] a c = absurd a
  all_can (v ∷ vs) (w ∷ ws) a c = (can_on v w a.0 c.0, all_can vs ws a.1 c.1)

  pub all_then : (us vs ws : List (Worker K G)) → AllOn judges room most us vs → AllOn judges room most vs ws → AllOn judges room most us ws
  all_then [] [] [] a b = tt
  all_then [] [] (w ∷ ws) a b = absurd b
  all_then [] (v ∷ vs) ws a b = absurd a
  all_then (u ∷ us) [] ws a b = absurd a
  all_then (u ∷ us) (v ∷ vs) [] a b = absurd b
  all_then (u ∷ us) (v ∷ vs) (w ∷ ws) a b = (
    record {
      works = λ p h. b.0.works p (a.0.works p h);
      version = b.0.version ∙ a.0.version;
      steps = goes_further (stations_of room) u.seat v.seat w.seat a.0.steps b.0.steps;
    },
    all_then us vs ws a.1 b.1,
  )

-- what grew is one of the three
pub read_grown : {A B C : Type 0} → A ⊎ B → A ⊎ (B ⊎ C)
read_grown (inl a) = inl a
read_grown (inr b) = inr (inl b)

pub gone_both : {K : Type 0} {G : Ghosts K} (own rest : Turn) (w : Worker K G) (ws : List (Worker K G)) → IsLast own w.seat → GoneIf rest ws
    → GoneIf (both_of own rest) (w ∷ ws)
gone_both Done Done w ws a b = (a, b)
gone_both Done Moved w ws a b = tt
gone_both Done Ahead w ws a b = tt
gone_both Done Waiting w ws a b = tt
gone_both Moved rest w ws a b = tt
gone_both Ahead Moved w ws a b = tt
gone_both Ahead Ahead w ws a b = tt
gone_both Ahead Waiting w ws a b = tt
gone_both Ahead Done w ws a b = tt
gone_both Waiting Done w ws a b = tt
gone_both Waiting Waiting w ws a b = tt
gone_both Waiting Ahead w ws a b = tt
gone_both Waiting Moved w ws a b = tt
