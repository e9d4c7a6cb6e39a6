-- What a kernel answers, whatever it holds, and how it goes on from call to call.
use Rattle.std.specs.Prelude.{ℕ, ℤ, List, [], ◌∷◌}
use Rattle.nv_calls.specs.Calls.{Request, Response}
use Rattle.nv_calls.specs.Logs.{Written, Start}

-- what a call leaves, its result, and the bytes that it hands out
pub record Answer (S : Type 0) : Type 0 where
  pub state : S
  pub ret : ℤ
  pub payload : List ℕ

abbrev pub answer : {S : Type 0} → S → ℤ → List ℕ → Answer S
answer s ret payload = record { state = s; ret = ret; payload = payload }

-- an answer that hands out nothing
abbrev pub only : {S : Type 0} → S → ℤ → Answer S
only s ret = answer s ret []

abbrev pub reply_of : {S : Type 0} → Answer S → Response
reply_of a = record { ret = a.ret; payload = a.payload }

-- the state after a list of calls, by what each is answered
abbrev pub state_after : {S : Type 0} → (S → Request → Answer S) → S → List Request → S
state_after serve s [] = s
state_after serve s (c ∷ cs) = state_after serve (serve s c).state cs

-- how a kernel goes on from a state, by what each call is answered, and what stands on the console and at the connections of a state
abbrev pub start_at : {S : Type 0} → (S → Request → Answer S) → (S → List ℕ) → (S → List Written) → S → Start
start_at serve console connections s = record {
  replies = λ cs c. reply_of (serve (state_after serve s cs) c);
  console = λ cs. console (state_after serve s cs);
  connections = λ cs. connections (state_after serve s cs);
}
