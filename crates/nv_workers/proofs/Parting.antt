-- Workers in parts.
use Rattle.std.proofs.Common.{◌≡◌, ℕ, zero, suc, ◌<◌, List, [], ◌∷◌, length, get_or, take, drop, arith}
use Rattle.nv_calls.specs.declared.kernel.SyscallKernel.{Ghosts}
use Rattle.nv_room.specs.declared.room.Room.{Room}
use Rattle.nv_replay.specs.Follow.{Judge}
use Rattle.nv_workers.specs.declared.worker.Worker.{Worker}
use Rattle.nv_workers.specs.inner.Rounds.{WorkedOn, CanAll, AllOn}

module _ (judges : ℕ → Judge) {K : Type 0} {G : Ghosts K} (room : Room K) (most : ℕ) where
  pub can_prefix : (n : ℕ) (ws : List (Worker K G)) → CanAll judges room most ws → CanAll judges room most (take n ws)
  can_prefix zero ws c = tt
  can_prefix (suc n) [] c = tt
  can_prefix (suc n) (w ∷ ws) c = (c.0, can_prefix n ws c.1)

  pub can_back : (n : ℕ) (ws : List (Worker K G)) → CanAll judges room most ws → CanAll judges room most (drop n ws)
  can_back zero ws c = c
  can_back (suc n) [] c = tt
  can_back (suc n) (w ∷ ws) c = can_back n ws c.1

  pub on_at : (vs ws : List (Worker K G)) → AllOn judges room most vs ws → (i : ℕ) (d : Worker K G) → i < length vs → WorkedOn judges room most (get_or vs i d) (get_or ws i d)
  on_at [] ws a i d l = absurd (omega arith)
  on_at (v ∷ vs) [] a i d l = absurd a
  on_at (v ∷ vs) (w ∷ ws) a zero d l = a.0
  on_at (v ∷ vs) (w ∷ ws) a (suc i) d l = on_at vs ws a.1 i d (omega arith)

  pub all_at : (vs ws : List (Worker K G)) → length ws ≡ length vs → ((i : ℕ) (d : Worker K G) → i < length vs → WorkedOn judges room most (get_or vs i d) (get_or ws i d)) → AllOn judges room most vs ws
  all_at [] [] h f = tt
  all_at [] (w ∷ ws) h f = absurd (omega arith)
  all_at (v ∷ vs) [] h f = absurd (omega arith)
  all_at (v ∷ vs) (w ∷ ws) h f = (f 0 v (omega arith), all_at vs ws (omega arith) (λ i d l. f (suc i) d (omega arith)))
