-- What the monitor says over files and a sink that never fail.
use Rattle.std.specs.Prelude.{◌≡◌, ◌⊎◌, ℕ, List, Option, None, Some, if◌then◌else◌}
use Rattle.nv_outside.specs.Told.{Told}
use Rattle.nv_outside.specs.CalmSink.{kept_of, is_over}
use Rattle.nv_outside.specs.declared.calm_sink.CalmSink.{CalmSink}
use Rattle.nv_driver.specs.Words.{Command, command_of}
use Rattle.nv_driver.specs.Due.{IsAccepted, IsRefused, IsDone}

-- what the sink tells
abbrev pub sink_told : CalmSink → Option (List ℕ)
sink_told sink = if is_over sink then None else Some (kept_of sink)

-- files that are told and accepted: the command does its work, or memory is wanted
abbrev pub CompletesCalmly : List (List ℕ) → (List ℕ → Told) → ℕ → Type 0
CompletesCalmly words holds status = (command : Command) → command_of words ≡ Some command → IsAccepted command holds → IsDone command status ⊎ (status ≡ 3)

-- a file that is told and refused is named, or memory is wanted
abbrev pub RejectsCalmly : List (List ℕ) → (List ℕ → Told) → ℕ → Type 0
RejectsCalmly words holds status = (command : Command) → command_of words ≡ Some command → IsRefused command holds → (status ≡ 4) ⊎ (status ≡ 3)
