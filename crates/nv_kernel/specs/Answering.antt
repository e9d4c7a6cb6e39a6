-- What answers a kernel's calls, as the kernel sees it: how it goes on from what a script gives, and at which logs it stands.
use Rattle.std.specs.Prelude.{◌≡◌, ◌<◌, ℕ, ℤ, List, [], ◌∷◌, ◌++◌, length, Contains}
use Rattle.nv_calls.specs.Calls.{Request, Entry}
use Rattle.nv_calls.specs.Limits.{MOST_EVENTS}
use Rattle.nv_calls.specs.Logs.{Start, IsNew, calls_of, child_of, live_after, served}
use Rattle.nv_script.specs.Scripts.{Setup}

-- what stands where the calls of a log leave it, over what a script gives
abbrev pub AtLog : Type 1
AtLog = Setup → List Entry → Type 0

-- a call may be next: there is a log at which what answers stands, with room for one more, after which the call's thread lives
pub record MayCome (stands : AtLog) (c : Request) : Type 0 where
  pub setup : Setup
  pub log : List Entry
  pub here : stands setup log
  pub few : length log < MOST_EVENTS
  pub lives : Contains (live_after log) c.tid

-- It is the definition's answer at each log at which what answers stood, which then stands at that log with this call; a thread that it makes is new.
pub record IsAnswer (known : Setup → Start) (stood stands : AtLog) (c : Request) (ret : ℤ) (payload : List ℕ) : Type 0 where
  pub reply : (setup : Setup) (log : List Entry) → stood setup log → (known setup).replies (calls_of log) c ≡ record { ret = ret; payload = payload }
  pub here : (setup : Setup) (log : List Entry) → stood setup log → stands setup (log ++ served (known setup) log c ∷ [])
  pub new : (setup : Setup) (log : List Entry) → stood setup log → IsNew (live_after log) (child_of (served (known setup) log c))
