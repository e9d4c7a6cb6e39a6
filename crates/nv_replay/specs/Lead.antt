-- A version leads: each call that it comes to is served and logged after those before.
use Rattle.std.specs.Prelude.{ℕ, ◌+◌, Bool, true, false, ◌==◌, nat_le, List, [], ◌∷◌, ◌++◌, length, Option, Some, None, option_map, if◌then◌else◌}
use Rattle.nv_calls.specs.Calls.{Entry}
use Rattle.nv_calls.specs.Logs.{Start, served}
use Rattle.nv_threads.specs.Behaviours.{Behaviour}
use Rattle.nv_machine.specs.declared.outcome.FaultKind.TheVariants.{Calls}
use Rattle.nv_threads.specs.declared.turns.Want.TheVariants.{Any}
use Rattle.nv_threads.specs.declared.turns.Came.{Came}
use Rattle.nv_threads.specs.declared.turns.Came.TheVariants.{Asked, Fault}
use Rattle.nv_replay.specs.declared.fate.Fate.{Fate}
use Rattle.nv_replay.specs.declared.fate.Fate.TheVariants.{Exited, Fault as Faulted, Memory}
use Rattle.nv_replay.specs.Settling.{stage}

pub record Leader (P : Type 0) : Type 0 where
  pub process : P
  pub log : List Entry
  pub fate : Option Fate

-- the length of the log at which memory is refused, if it is
abbrev pub is_cut : Option ℕ → ℕ → Bool
is_cut None n = false
is_cut (Some k) n = n == k

abbrev pub is_memory : Option Fate → Bool
is_memory (Some Memory) = true
is_memory fate = false

-- the cut that a leader's end tells
abbrev pub cut_of : Option Fate → ℕ → Option ℕ
cut_of (Some Memory) n = Some n
cut_of fate n = None

module _ {P : Type 0} (g : Behaviour P) (start : Start) (most : ℕ) (cut : Option ℕ) where
  -- the call is answered, and stands in the log as this event
  abbrev pub logged : Leader P → P → Entry → Leader P
  logged s p e = record { process = p; log = s.log ++ e ∷ []; fate = option_map Exited (g.ended p) }

  abbrev pub led : Leader P → P → Came → Leader P
  led s p (Fault kind tid pc) = record s { process = p; fate = Some (Faulted kind tid pc) }
  led s p (Asked t) =
      if nat_le most (length s.log) then record s { process = p; fate = Some (Faulted Calls t (g.pc p t)) }
      else if is_cut cut (length s.log) then record s { process = p; fate = Some Memory }
      else logged s (g.answered p t (served start s.log (g.call p t)).reply) (served start s.log (g.call p t))

  abbrev pub unless_ended : Leader P → Option Fate → Leader P
  unless_ended s (Some fate) = s
  unless_ended s None = led s (g.after s.process Any) (g.came s.process Any)

  unfoldable pub next_call : Leader P → Leader P
  next_call s = unless_ended s s.fate

  -- as many calls as the guest can make, and one for a fault
  unfoldable pub lead : Leader P → Leader P
  lead s = stage next_call (g.calls_left s.process + 1) s
