-- A guest, by what it does: definitions and proofs above speak of these functions alone.
use Rattle.std.specs.Prelude.{◌≡◌, ℕ, ◌<◌, ◌≤◌, Bool, true, List, [], ◌∷◌, Option, Some, None, Contains}
use Rattle.nv_calls.specs.Calls.{Request, Response, Entry}
use Rattle.nv_calls.specs.Logs.{child_of, live_next}
use Rattle.nv_calls.specs.Limits.{FIRST_THREAD}
use Rattle.nv_threads.specs.declared.turns.Want.{Want}
use Rattle.nv_threads.specs.declared.turns.Want.TheVariants.{Any, Only}
use Rattle.nv_threads.specs.declared.turns.Came.{Came}
use Rattle.nv_threads.specs.declared.turns.Came.TheVariants.{Asked}

pub record Behaviour (P : Type 0) : Type 0 where
  -- what its turns come to, and the process at that point
  pub came : P → Want → Came
  pub after : P → Want → P
  -- a thread has made a call that isn't answered, and which
  pub pending : P → ℕ → Bool
  pub call : P → ℕ → Request
  pub pc : P → ℕ → ℕ
  -- the process once that thread has this answer, from an event; and once it is given one that no event has
  pub answered : P → ℕ → Response → P
  pub given : P → ℕ → Response → P
  pub live : P → List ℕ
  pub ended : P → Option ℕ
  -- how many calls it can still make at most
  pub calls_left : P → ℕ
  -- it never made a second thread
  pub is_alone : P → Bool

-- the event that an answer makes of a thread's call
abbrev pub event_answered : {P : Type 0} → Behaviour P → P → ℕ → Response → ℕ → Entry
event_answered g p t r n = record { stamp = n; call = g.call p t; reply = r }

pub record IsProcess {P : Type 0} (g : Behaviour P) : Type 0 where
  -- an asked call is pending, is of that thread, and is asked again at once
  pub asked : (p : P) (w : Want) (t : ℕ) → g.came p w ≡ Asked t → g.pending (g.after p w) t ≡ true
  pub own : (p : P) (t : ℕ) → (g.call p t).tid ≡ t
  pub again : (p : P) (w : Want) (t : ℕ) → g.came p w ≡ Asked t → g.came (g.after p w) w ≡ Asked t
  pub rests : (p : P) (w : Want) (t : ℕ) → g.came p w ≡ Asked t → g.after (g.after p w) w ≡ g.after p w
  pub only : (p : P) (t u : ℕ) → Contains (g.live p) t → g.came p (Only t) ≡ Asked u → u ≡ t
  pub any : (p : P) (t : ℕ) → g.ended p ≡ None → g.came p Any ≡ Asked t → Contains (g.live p) t
  -- turns make no calls, and each answer is of a call that was made
  pub keeps : (p : P) (w : Want) → g.calls_left (g.after p w) ≤ g.calls_left p
  pub falls : (p : P) (t : ℕ) (r : Response) → g.pending p t ≡ true → g.calls_left (g.answered p t r) < g.calls_left p
  -- the live threads change as a history says
  pub live_after : (p : P) (w : Want) → g.live (g.after p w) ≡ g.live p
  pub live_answer : (p : P) (t n : ℕ) (r : Response) → g.pending p t ≡ true
      → g.live (g.answered p t r) ≡ live_next (g.live p) (event_answered g p t r n)
  pub ended : (p : P) → g.live p ≡ [] → g.ended p ≡ None → ⊥
  pub lives : (p : P) (s : ℕ) → g.ended p ≡ Some s → g.live p ≡ []
  -- one thread alone is the first, and whichever is wanted
  pub sole : (p : P) (t : ℕ) → g.is_alone p ≡ true → Contains (g.live p) t → t ≡ FIRST_THREAD
  pub alone : (p : P) → g.is_alone p ≡ true → g.came p Any ≡ g.came p (Only FIRST_THREAD)
  pub alone_after : (p : P) → g.is_alone p ≡ true → g.after p Any ≡ g.after p (Only FIRST_THREAD)
  pub stays_alone : (p : P) (w : Want) → g.is_alone p ≡ true → g.is_alone (g.after p w) ≡ true
  pub alone_answer : (p : P) (t n : ℕ) (r : Response) → g.is_alone p ≡ true → child_of (event_answered g p t r n) ≡ None
      → g.is_alone (g.answered p t r) ≡ true
  -- an answer that no event has is another call made, and changes the live threads as the same answer of an event does
  pub gives : (p : P) (t : ℕ) (r : Response) → g.pending p t ≡ true → g.calls_left (g.given p t r) < g.calls_left p
  pub given_live : (p : P) (t : ℕ) (r : Response) → g.live (g.given p t r) ≡ g.live (g.answered p t r)

-- one for each instruction of the greatest budget, at the start and after each event of the longest log, and one for each thread
abbrev pub MOST_CALLS : ℕ
MOST_CALLS = 500000001000000008

-- a process as it was made: the first thread alone lives, and it has made no call
pub record IsStarted {P : Type 0} (g : Behaviour P) (p : P) : Type 0 where
  pub live : g.live p ≡ FIRST_THREAD ∷ []
  pub on : g.ended p ≡ None
  pub alone : g.is_alone p ≡ true
  pub few : g.calls_left p ≤ MOST_CALLS
