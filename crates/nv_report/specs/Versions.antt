-- The lines of the versions.
use Rattle.std.specs.Prelude.{ℕ, ◌+◌, List, [], ◌∷◌, ◌++◌, Option, None, Some, codes}
use Rattle.std.specs.Fmt.{decimal}
use Rattle.std.specs.Int.{w32, to_be_bytes}
use Rattle.std.specs.List.{flat_map, concat}
use Rattle.nv_machine.specs.declared.outcome.FaultKind.{FaultKind}
use Rattle.nv_machine.specs.declared.outcome.FaultKind.TheVariants.{Illegal, Misaligned, Fetch, Load, Store, Breakpoint, Budget, Deadlock, Calls}
use Rattle.nv_replay.specs.declared.fate.Fate.{Fate}
use Rattle.nv_replay.specs.declared.fate.Fate.TheVariants.{Exited, Fault, Refused, Memory, LetGo}
use Rattle.nv_replay.specs.declared.standing.Standing.{Standing}
use Rattle.nv_bytes.specs.Numbers.{hex_of}

abbrev pub kind_text : FaultKind → List ℕ
kind_text Illegal = codes "illegal"
kind_text Misaligned = codes "misaligned"
kind_text Fetch = codes "fetch"
kind_text Load = codes "load"
kind_text Store = codes "store"
kind_text Breakpoint = codes "breakpoint"
kind_text Budget = codes "budget"
kind_text Deadlock = codes "deadlock"
kind_text Calls = codes "calls"

abbrev pub fault_text : FaultKind → ℕ → List ℕ
fault_text kind tid = concat (codes "fault " ∷ kind_text kind ∷ codes " " ∷ decimal tid ∷ codes " " ∷ [])

-- the thread and the number of the call, and the place of the event
abbrev pub refusal_text : ℕ → ℕ → ℕ → List ℕ
refusal_text tid nr stamp = concat (codes "refused " ∷ decimal tid ∷ codes " " ∷ decimal nr ∷ codes " " ∷ decimal stamp ∷ codes " " ∷ [])

abbrev pub fate_text : Fate → List ℕ
fate_text (Exited code) = concat (codes "exited " ∷ decimal code ∷ [])
fate_text (Fault kind tid pc) = fault_text kind tid ++ hex_of (to_be_bytes w32 pc)
fate_text (Refused tid nr stamp verdict) = refusal_text tid nr stamp ++ hex_of (to_be_bytes w32 verdict)
fate_text Memory = codes "memory"
fate_text LetGo = codes "left"

-- nothing of a version that hasn't ended
abbrev pub end_text : Option Fate → List ℕ
end_text None = []
end_text (Some fate) = fate_text fate

-- the number and the end
abbrev pub prefix_text : ℕ → Option Fate → List ℕ
prefix_text index fate = concat (decimal index ∷ codes " " ∷ []) ++ end_text fate

abbrev pub seen_text : ℕ → List ℕ
seen_text seen = concat (codes " seen " ∷ decimal seen ∷ codes " led " ∷ [])

-- from the first event to below the last
abbrev pub span_text : ℕ × ℕ → List ℕ
span_text span = concat (decimal span.0 ∷ codes "-" ∷ decimal span.1 ∷ [])

abbrev pub next_span_text : ℕ × ℕ → List ℕ
next_span_text span = codes "," ++ span_text span

abbrev pub led_text : List (ℕ × ℕ) → List ℕ
led_text [] = codes "-"
led_text (span ∷ spans) = span_text span ++ flat_map next_span_text spans

abbrev pub rewrites_text : ℕ → List ℕ
rewrites_text rewrites = concat (codes " rewrites " ∷ decimal rewrites ∷ codes "\n" ∷ [])

-- what it has seen and led, and its rewrites
abbrev pub rest_text : Standing → List ℕ
rest_text s = seen_text s.seen ++ (led_text s.led ++ rewrites_text s.rewrites)

-- the line of a version
abbrev pub line_text : ℕ → Standing → List ℕ
line_text index s = prefix_text index s.fate ++ rest_text s

-- the lines of the versions from this number on
abbrev pub lines_text : ℕ → List Standing → List ℕ
lines_text index [] = []
lines_text index (s ∷ ss) = line_text index s ++ lines_text (index + 1) ss
