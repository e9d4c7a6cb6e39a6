-- What always holds of a version's numbers.
use Rattle.std.specs.Prelude.{ℕ, ◌+◌, ◌≤◌, List}
use Rattle.nv_calls.specs.Limits.{MOST_BYTES, MOST_EVENTS}
use Rattle.nv_threads.specs.Behaviours.{MOST_CALLS}
use Rattle.nv_replay.specs.Spans.{EndBy}

-- of the events seen, the rewrites with the calls that are left, the parts that it led, and the capacity for a reply
pub record AreBounded (seen calls : ℕ) (led : List (ℕ × ℕ)) (capacity : ℕ) : Type 0 where
  pub few_seen : seen ≤ MOST_EVENTS
  pub few_calls : calls ≤ seen + MOST_CALLS
  pub in_spans : EndBy seen led
  pub wide : MOST_BYTES ≤ capacity
