-- What always holds of the clients that have not sent all.
use Rattle.std.specs.Prelude.{ℕ, ◌<◌, List, All, AllPairs}

-- their numbers rise, and are below how many have come
pub record AreGoing (clients : ℕ) (going : List ℕ) : Type 0 where
  pub rising : AllPairs (λ x y. x < y) going
  pub came : All (λ k. k < clients) going
