-- What is written of a version that has followed a trace.
use Rattle.std.specs.Prelude.{ℕ, List, [], ◌∷◌, ◌++◌, Option, None, Some, codes}
use Rattle.std.specs.Fmt.{decimal}
use Rattle.std.specs.List.{concat}
use Rattle.nv_inspect.specs.Shown.{standing_text}
use Rattle.nv_replay.specs.declared.fate.Fate.{Fate}
use Rattle.nv_replay.specs.declared.fate.Fate.TheVariants.{Exited}
use Rattle.nv_replay.specs.Follow.{Follower}
use Rattle.nv_threads.specs.Threads.{Proc}

abbrev pub counts_text : ℕ → ℕ → List ℕ
counts_text seen rewrites = concat (codes " seen " ∷ decimal seen ∷ codes " rewrites " ∷ decimal rewrites ∷ codes "\n" ∷ [])

-- its end, the events that it has seen, and its rewrites
abbrev pub replay_text : Follower Proc → List ℕ
replay_text at = codes "replay " ++ (standing_text at.fate ++ counts_text at.seen at.rewrites)

-- 0 where it is in step with the whole trace or exited, else 1
abbrev pub replay_status : Option Fate → ℕ
replay_status None = 0
replay_status (Some (Exited code)) = 0
replay_status (Some fate) = 1
