-- Accounts with and without lengths that were asked for.
use Rattle.std.proofs.Common.{◌≡◌, ◌∙◌, sym, ap, subst, refl, ℕ, Bool, false, List, [], ◌++◌, map}
use Rattle.std.proofs.lemmas.List.{append-nil}
use Rattle.nv_calls.specs.Calls.{Entry}
use Rattle.nv_calls.specs.Logs.{Start}
use Rattle.nv_replay.specs.Follow.{Judge}
use Rattle.nv_replay.specs.LettingGo.{NoneLetGo}
use Rattle.nv_replay.specs.Version.{Running, standing_of}
use Rattle.nv_threads.specs.Threads.{Proc, threads}
use Rattle.nv_workers.specs.Ends.{IsAccount}
use Rattle.nv_cli.specs.inner.Demands.{IsAccountOnDemand}

module _ (asks : List ℕ → Type 0) (on_demand : Bool) (judges : ℕ → Judge) (start : Start) (most : ℕ) (planned : List ℕ) (olds news : List (Running Proc)) (log : List Entry) where
  -- over these lengths
  abbrev Over : List ℕ → Type 0
  Over hands = IsAccount threads judges start most hands olds news log

  -- where none was asked for
  pub unasked : asks [] → Over planned → NoneLetGo (map standing_of news) → IsAccountOnDemand asks on_demand judges start most planned olds news log
  unasked none a s = record { asked = []; asks_for = none; only = λ off. refl; stays = λ off. s; is_account = subst Over (sym (append-nil planned)) a }

  -- nothing may be demanded
  pub planned_alone : on_demand ≡ false → IsAccountOnDemand asks on_demand judges start most planned olds news log → Over planned
  planned_alone off a = subst Over (ap (λ (more : List ℕ). planned ++ more) (a.only off) ∙ append-nil planned) a.is_account
