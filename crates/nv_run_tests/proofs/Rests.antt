-- How the turns of a worker and of the others come together.
use Rattle.std.proofs.Common.{◌≡◌, sym, subst, ℕ, List, [], ◌∷◌}
use Rattle.nv_calls.specs.declared.kernel.SyscallKernel.{Ghosts}
use Rattle.nv_room.specs.declared.room.Room.{Room}
use Rattle.nv_replay.specs.Follow.{Judge}
use Rattle.nv_workers.specs.declared.worker.Worker.{Worker}
use Rattle.nv_workers.specs.Worker.{IsGone}
use Rattle.nv_workers.specs.inner.Rounds.{WorkedOn, AllOn}
use Rattle.nv_workers.proofs.Rotating.{all_here}
use Rattle.nv_run_tests.specs.declared.scheduler.Ending.{Ending}
use Rattle.nv_run_tests.specs.declared.scheduler.Ending.TheVariants.{AllLeft, AllWait, TooMany}
use Rattle.nv_run_tests.specs.Endings.{GoneIfLeft}

module _ (judges : ℕ → Judge) {K : Type 0} {G : Ghosts K} (room : Room K) (most : ℕ) where
  -- the first had a turn, and the others none
  pub first_on : (ws others : List (Worker K G)) (old new : Worker K G) → ws ≡ old ∷ others → WorkedOn judges room most old new → AllOn judges room most ws (new ∷ others)
  first_on ws others old new e on = subst (λ us. AllOn judges room most us (new ∷ others)) (sym e) (on, all_here judges room most others)

  -- the first had none
  pub others_on : (ws olds news : List (Worker K G)) (w : Worker K G) → ws ≡ w ∷ olds → AllOn judges room most olds news → AllOn judges room most ws (w ∷ news)
  others_on ws olds news w e on = subst (λ us. AllOn judges room most us (w ∷ news)) (sym e) ((all_here judges room most (w ∷ [])).0, on)

-- all have left where this one and the others have
pub gone_with : {K : Type 0} {G : Ghosts K} (rest : Ending) (w : Worker K G) (ws : List (Worker K G)) → IsGone w.seat → GoneIfLeft rest ws → GoneIfLeft rest (w ∷ ws)
gone_with AllLeft w ws a b = (a, b)
gone_with AllWait w ws a b = tt
gone_with TooMany w ws a b = tt
