-- A run without versions.
use Rattle.std.proofs.Common.{◌≡◌, ◌∙◌, ap, sym, subst, refl, ℕ, ◌+◌, Bool, true, false, nat_le, if◌then◌else◌, List, [], ◌∷◌, Option, length, map, arith}
use Rattle.std.proofs.lemmas.Bool.Decides.{nat_tests}
use Rattle.nv_calls.specs.Calls.{Entry}
use Rattle.nv_calls.specs.Logs.{Start}
use Rattle.nv_threads.specs.Behaviours.{Behaviour}
use Rattle.nv_replay.specs.Covers.{Covers}
use Rattle.nv_replay.specs.Follow.{Judge}
use Rattle.nv_replay.specs.Monitor.{begun, turn, account_of, sequence}
use Rattle.nv_replay.specs.Sequence.{cuts_of}
use Rattle.nv_replay.specs.LettingGo.{NoneLetGo}
use Rattle.nv_replay.specs.Version.{Running, standing_of}
use Rattle.nv_replay.proofs.Settled.{stage_rests}
use Rattle.nv_workers.specs.Ends.{IsAccount}

-- nobody is there to be let go
pub none_let_go : {P : Type 0} (versions : List (Running P)) → length versions ≡ 0 → NoneLetGo (map standing_of versions)
none_let_go [] none = tt
none_let_go (v ∷ versions) none = absurd (omega arith)

module _ {P : Type 0} (g : Behaviour P) (judges : ℕ → Judge) (start : Start) (most : ℕ) (hands : List ℕ) where
  nothing : (cuts : ℕ → Option ℕ) → sequence g judges start most cuts hands [] ≡ record { log = []; lines = [] }
  unfolding sequence turn
  nothing cuts = ap (account_of g judges start most cuts hands) (stage_rests (turn g judges start most cuts hands) (0 + length hands) (begun []) refl)

  no_event : Covers [] []
  no_event n = step (nat_le 0 n) refl where
    step : (b : Bool) → nat_le 0 n ≡ b → ◌≡◌ {A = ℕ} 0 (if b then 0 else 1)
    step true e = refl
    step false e = absurd (grind (arith, nat_tests))

  pub no_versions : (versions : List (Running P)) (log : List Entry) → length versions ≡ 0 → log ≡ [] → IsAccount g judges start most hands versions versions log
  no_versions [] log none empty = record {
    account = ap (λ (l : List Entry). record { log = l; lines = [] }) empty ∙ sym (nothing (cuts_of []));
    settled = tt;
    covers = subst (λ (l : List Entry). Covers [] l) (sym empty) no_event;
    survivor = λ k p line at. absurd (grind (arith, nat_tests));
  }
  no_versions (v ∷ versions) log none empty = absurd (omega arith)
