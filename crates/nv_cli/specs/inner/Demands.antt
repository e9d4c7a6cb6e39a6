-- The account of versions beside each other whose leaders may hand over on demand.
use Rattle.std.specs.Prelude.{◌≡◌, ℕ, Bool, false, List, [], ◌++◌, map}
use Rattle.nv_calls.specs.Calls.{Entry}
use Rattle.nv_calls.specs.Logs.{Start}
use Rattle.nv_replay.specs.Follow.{Judge}
use Rattle.nv_replay.specs.LettingGo.{NoneLetGo}
use Rattle.nv_replay.specs.Version.{Running, standing_of}
use Rattle.nv_threads.specs.Threads.{Proc, threads}
use Rattle.nv_workers.specs.Ends.{IsAccount}

-- The account is that with the planned lengths and those at which a leader handed over on demand. Where nothing may be demanded there are none of these, and
-- no follower was let go. This holds of them.
pub record IsAccountOnDemand (asks : List ℕ → Type 0) (on_demand : Bool) (judges : ℕ → Judge) (start : Start) (most : ℕ) (planned : List ℕ) (olds news : List (Running Proc)) (log : List Entry) : Type 0 where
  pub asked : List ℕ
  pub asks_for : asks asked
  pub only : on_demand ≡ false → asked ≡ []
  pub stays : on_demand ≡ false → NoneLetGo (map standing_of news)
  pub is_account : IsAccount threads judges start most (planned ++ asked) olds news log
