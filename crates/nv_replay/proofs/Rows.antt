-- What the definition gives for versions that make three calls, the last of which is exit_group.
use Rattle.std.proofs.Common.{◌≡◌, refl, ℕ, ◌+◌, ◌-◌, true, false, List, [], ◌∷◌, Option, Some, None}
use Rattle.std.specs.Prelude.{◌==◌, pos, nat_le, if◌then◌else◌}
use Rattle.nv_calls.specs.Calls.{is_same}
use Rattle.nv_calls.specs.Logs.{Start}
use Rattle.nv_threads.specs.Behaviours.{Behaviour}
use Rattle.nv_threads.specs.declared.turns.Came.{Came}
use Rattle.nv_threads.specs.declared.turns.Came.TheVariants.{Asked, Fault}
use Rattle.nv_machine.specs.declared.outcome.FaultKind.TheVariants.{Load}
use Rattle.nv_replay.specs.declared.fate.Fate.TheVariants.{Exited, Fault as Faulted, Memory, LetGo}
use Rattle.nv_replay.specs.declared.standing.Standing.{Standing}
use Rattle.nv_replay.specs.Settling.{stage}
use Rattle.nv_replay.specs.Follow.{no_rules, met, decided}
use Rattle.nv_replay.specs.Lead.{next_call}
use Rattle.nv_replay.specs.Tracks.{retraced_by, track_next, track}
use Rattle.nv_replay.specs.Hands.{next_or_hand, lead_to_hand}
use Rattle.nv_replay.specs.Monitor.{sequence, turn}

-- a guest that faults before it makes call number `breaks`
record Toy : Type 0 where
  breaks : ℕ
  made : ℕ

abbrev nr_of : ℕ → ℕ
nr_of n = if n == 2 then 94 else 64

abbrev toy_came : Toy → Came
toy_came p = if p.breaks == p.made then Fault Load 100 65568 else Asked 100

abbrev toy : Behaviour Toy
toy = record {
  came = λ p w. toy_came p;
  after = λ p w. p;
  pending = λ p t. true;
  call = λ p t. record { tid = 100; nr = nr_of p.made; args = []; bad = false; payload = [] };
  pc = λ p t. 65536;
  answered = λ p t r. record p { made = p.made + 1 };
  given = λ p t r. record p { made = p.made + 1 };
  live = λ p. if nat_le 3 p.made then [] else 100 ∷ [];
  ended = λ p. if nat_le 3 p.made then Some 0 else None;
  calls_left = λ p. 3 - p.made;
  is_alone = λ p. true;
}

abbrev start : Start
start = record { replies = λ log c. record { ret = pos 0; payload = [] }; console = λ log. []; connections = λ log. [] }

-- never faults; faults before its third call
abbrev whole : Toy
whole = record { breaks = 9; made = 0 }

abbrev faulty : Toy
faulty = record { breaks = 2; made = 0 }

abbrev lines : List Toy → List ℕ → (ℕ → Option ℕ) → List Standing
lines ps hands cuts = (sequence toy (λ i. no_rules) start 100 cuts hands ps).lines

abbrev none : ℕ → Option ℕ
none i = None

abbrev exited : ℕ → List (ℕ × ℕ) → Standing
exited n led = record { fate = Some (Exited 0); seen = n; led = led; rewrites = 0 }

twice_one_hand : lines (whole ∷ whole ∷ []) (1 ∷ []) none ≡ exited 3 ((0, 1) ∷ []) ∷ exited 3 ((1, 3) ∷ []) ∷ []
unfolding sequence turn lead_to_hand next_or_hand next_call track track_next retraced_by decided met stage is_same
twice_one_hand = refl

twice_two_hands : lines (whole ∷ whole ∷ []) (1 ∷ 2 ∷ []) none ≡ exited 3 ((0, 1) ∷ (2, 3) ∷ []) ∷ exited 3 ((1, 2) ∷ []) ∷ []
unfolding sequence turn lead_to_hand next_or_hand next_call track track_next retraced_by decided met stage is_same
twice_two_hands = refl

alone_one_hand : lines (whole ∷ []) (1 ∷ []) none ≡ exited 3 ((0, 1) ∷ (1, 3) ∷ []) ∷ []
unfolding sequence turn lead_to_hand next_or_hand next_call track track_next retraced_by decided met stage is_same
alone_one_hand = refl

fault_after_a_hand : lines (faulty ∷ whole ∷ []) (1 ∷ []) none
    ≡ record { fate = Some (Faulted Load 100 65568); seen = 2; led = (0, 1) ∷ []; rewrites = 0 } ∷ exited 3 ((1, 3) ∷ []) ∷ []
unfolding sequence turn lead_to_hand next_or_hand next_call track track_next retraced_by decided met stage is_same
fault_after_a_hand = refl

-- a cut in the second stretch of version 0; version 1 leads on
cut_after_a_hand : lines (whole ∷ whole ∷ []) (1 ∷ 2 ∷ []) (λ i. if i == 0 then Some 2 else None)
    ≡ record { fate = Some Memory; seen = 2; led = (0, 1) ∷ (2, 2) ∷ []; rewrites = 0 } ∷ exited 3 ((1, 2) ∷ (2, 3) ∷ []) ∷ []
unfolding sequence turn lead_to_hand next_or_hand next_call track track_next retraced_by decided met stage is_same
cut_after_a_hand = refl

-- a hand at the length of the whole log, and one where a leader has taken over and not published
hands_not_met : lines (faulty ∷ whole ∷ whole ∷ []) (3 ∷ 4 ∷ []) none
    ≡ record { fate = Some (Faulted Load 100 65568); seen = 2; led = (0, 2) ∷ []; rewrites = 0 } ∷ exited 3 ((2, 3) ∷ []) ∷ exited 3 [] ∷ []
unfolding sequence turn lead_to_hand next_or_hand next_call track track_next retraced_by decided met stage is_same
hands_not_met = refl

-- version 1 is let go at the second event; the others end as they would without it
let_go_at_one : lines (whole ∷ whole ∷ whole ∷ []) [] (λ i. if i == 1 then Some 1 else None)
    ≡ exited 3 ((0, 3) ∷ []) ∷ record { fate = Some LetGo; seen = 1; led = []; rewrites = 0 } ∷ exited 3 [] ∷ []
unfolding sequence turn lead_to_hand next_or_hand next_call track track_next retraced_by decided met stage is_same
let_go_at_one = refl

-- it isn't there any more where version 0 faults, and version 2 leads on
let_go_before_a_fault : lines (faulty ∷ whole ∷ whole ∷ []) [] (λ i. if i == 1 then Some 1 else None)
    ≡ record { fate = Some (Faulted Load 100 65568); seen = 2; led = (0, 2) ∷ []; rewrites = 0 }
    ∷ record { fate = Some LetGo; seen = 1; led = []; rewrites = 0 } ∷ exited 3 ((2, 3) ∷ []) ∷ []
unfolding sequence turn lead_to_hand next_or_hand next_call track track_next retraced_by decided met stage is_same
let_go_before_a_fault = refl

-- one that has seen the whole log isn't let go, whatever its cut
in_step_is_not_let_go : lines (faulty ∷ whole ∷ []) [] (λ i. if i == 1 then Some 3 else None)
    ≡ record { fate = Some (Faulted Load 100 65568); seen = 2; led = (0, 2) ∷ []; rewrites = 0 } ∷ exited 3 ((2, 3) ∷ []) ∷ []
unfolding sequence turn lead_to_hand next_or_hand next_call track track_next retraced_by decided met stage is_same
in_step_is_not_let_go = refl

-- version 0 gives up the lead after an event, and is let go at the second one
let_go_after_a_hand : lines (whole ∷ whole ∷ []) (1 ∷ []) (λ i. if i == 0 then Some 2 else None)
    ≡ record { fate = Some LetGo; seen = 2; led = (0, 1) ∷ []; rewrites = 0 } ∷ exited 3 ((1, 3) ∷ []) ∷ []
unfolding sequence turn lead_to_hand next_or_hand next_call track track_next retraced_by decided met stage is_same
let_go_after_a_hand = refl
