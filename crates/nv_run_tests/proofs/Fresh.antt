-- One version more.
use Rattle.std.proofs.Common.{◌≡◌, subst, ℕ, suc, ◌+◌, List, [], ◌∷◌, ◌++◌, length, arith}
use Rattle.nv_threads.specs.Threads.{Proc, threads}
use Rattle.nv_replay.specs.Version.{Running, IsFresh}
use Rattle.nv_replay.specs.Account.{AreFresh}

pub fresh_more : (i : ℕ) (vs : List (Running Proc)) (v : Running Proc) → AreFresh threads i vs → IsFresh threads (i + length vs) v → AreFresh threads i (vs ++ v ∷ [])
fresh_more i [] v f n = let z : i + 0 ≡ i = omega arith in (subst (λ (j : ℕ). IsFresh threads j v) z n, tt)
fresh_more i (u ∷ vs) v f n = let z : i + suc (length vs) ≡ i + 1 + length vs = omega arith in (f.0, fresh_more (i + 1) vs v f.1 (subst (λ (j : ℕ). IsFresh threads j v) z n))
