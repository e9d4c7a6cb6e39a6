-- What has the whole console keeps it, from call to call.
use Rattle.std.proofs.Common.{◌≡◌, ◌∙◌, ℕ, ℤ, List}
use Rattle.nv_calls.specs.Calls.{Request, Entry}
use Rattle.nv_calls.specs.Logs.{Start}
use Rattle.nv_script.specs.Scripts.{Setup}
use Rattle.nv_kernel.specs.Answering.{AtLog, MayCome, IsAnswer}
use Rattle.nv_kernel.specs.Whole.{IsWhole}

-- a call that may be next where the console is whole may be next
pub may_come : (stands : AtLog) (gone : ℕ) (c : Request) → MayCome (IsWhole stands gone) c → MayCome stands c
may_come stands gone c m = record { setup = m.setup; log = m.log; here = m.here.at; few = m.few; lives = m.lives }

-- what stands where it stood stands there with the whole console
pub whole_on : (stood stands : AtLog) (was now : ℕ) → now ≡ was → ((setup : Setup) (log : List Entry) → stood setup log → stands setup log)
    → (setup : Setup) (log : List Entry) → IsWhole stood was setup log → IsWhole stands now setup log
whole_on stood stands was now same on setup log h = record { at = on setup log h.at; all = same ∙ h.all }

-- an answer that lets nothing of the console go
pub whole_answer : (known : Setup → Start) (stood stands : AtLog) (was now : ℕ) (c : Request) (ret : ℤ) (payload : List ℕ) → now ≡ was
    → IsAnswer known stood stands c ret payload → IsAnswer known (IsWhole stood was) (IsWhole stands now) c ret payload
whole_answer known stood stands was now c ret payload same a = record {
  reply = λ setup log h. a.reply setup log h.at;
  here = λ setup log h. record { at = a.here setup log h.at; all = same ∙ h.all };
  new = λ setup log h. a.new setup log h.at;
}
