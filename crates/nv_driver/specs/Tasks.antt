-- What the words ask for of a task.
use Rattle.std.specs.Prelude.{◌≡◌, ℕ, List, Some, option_map}
use Rattle.nv_driver.specs.Words.{Uses, Replays, Inspects, Helps, command_of}
use Rattle.nv_driver.specs.Seen.{WordsRefused, job_view, trail_view, look_view}
use Rattle.nv_driver.specs.Tables.{name_view}
use Rattle.nv_driver.specs.declared.asked.LineFault.{LineFault}
use Rattle.nv_driver.specs.declared.asked.LineFault.TheVariants as line
use Rattle.nv_driver.specs.Outcome.{Outcome, Usage, NoMemory}
use Rattle.nv_driver.specs.declared.task.Task.{Task}
use Rattle.nv_driver.specs.declared.task.Task.TheVariants.{Refuse, Use, Replay, Inspect, Help}

-- the words are those of this task, or are refused as it says
abbrev pub IsTaskOf : Task → List (List ℕ) → Type 0
IsTaskOf (Refuse fault) words = WordsRefused fault words
IsTaskOf (Use job) words = command_of words ≡ Some (Uses (job_view job))
IsTaskOf (Replay trail) words = command_of words ≡ Some (Replays (trail_view trail))
IsTaskOf (Inspect look) words = command_of words ≡ Some (Inspects (look_view look))
IsTaskOf (Help topic) words = command_of words ≡ Some (Helps (option_map name_view topic))

-- what refused words come to
abbrev pub fault_outcome : LineFault → Outcome
fault_outcome line.Usage = Usage
fault_outcome line.Memory = NoMemory
