-- What answers a live run's calls and lets nothing go stands where what answers them does.
use Rattle.std.proofs.Common.{◌∙◌, ℤ, ℕ, List}
use Rattle.nv_calls.specs.Calls.{Request}
use Rattle.nv_calls.specs.Logs.{Start}
use Rattle.nv_script.specs.Scripts.{Setup}
use Rattle.nv_script.specs.Doings.{Doing}
use Rattle.nv_kernel.specs.Answering.{MayCome, IsAnswer}
use Rattle.nv_arriving.specs.Kernel.{Coming, KeepsOn}
use Rattle.nv_arriving.specs.Standing.{StandsAt}
use Rattle.nv_run_tests.specs.Keeping.{StandsKept}

module _ {O : Type 0} (did : O → O → List Doing → Type 0) (is_over : O → Type 0) where
  pub kept_comes : (g : Coming O) (c : Request) → MayCome (StandsKept did is_over g) c → MayCome (StandsAt did is_over g) c
  kept_comes g c m = record { setup = m.setup; log = m.log; here = m.here.here; few = m.few; lives = m.lives }

  pub kept_answer : (g h : Coming O) (known : Setup → Start) (c : Request) (ret : ℤ) (payload : List ℕ) → KeepsOn g h
      → IsAnswer known (StandsAt did is_over g) (StandsAt did is_over h) c ret payload → IsAnswer known (StandsKept did is_over g) (StandsKept did is_over h) c ret payload
  kept_answer g h known c ret payload still is = record {
    reply = λ setup log k. is.reply setup log k.here;
    here = λ setup log k. record { here = is.here setup log k.here; keeps = still.still ∙ k.keeps; kept = still.all k.keeps k.kept };
    new = λ setup log k. is.new setup log k.here;
  }
