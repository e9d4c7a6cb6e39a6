-- The report: what went to the console, the log, and how each version ended.
use Rattle.std.specs.Prelude.{ℕ, List, [], ◌∷◌, ◌++◌, length, codes}
use Rattle.std.specs.Fmt.{decimal}
use Rattle.std.specs.List.{flat_map, concat}
use Rattle.nv_replay.specs.declared.standing.Standing.{Standing}
use Rattle.nv_replay.specs.Sequence.{Account}
use Rattle.nv_report.specs.Events.{event_text}
use Rattle.nv_report.specs.Versions.{lines_text}

-- the console's bytes, and the length of the log
abbrev pub head_text : List ℕ → ℕ → List ℕ
head_text output events = concat (codes "output " ∷ decimal (length output) ∷ codes "\n" ∷ output ∷ codes "\nlog " ∷ decimal events ∷ codes "\n" ∷ [])

abbrev pub count_text : ℕ → List ℕ
count_text versions = concat (codes "fates " ∷ decimal versions ∷ codes "\n" ∷ [])

abbrev pub fates_text : List Standing → List ℕ
fates_text lines = count_text (length lines) ++ lines_text 0 lines

abbrev pub report_text : List ℕ → Account → List ℕ
report_text output a = head_text output (length a.log) ++ (flat_map event_text a.log ++ fates_text a.lines)
