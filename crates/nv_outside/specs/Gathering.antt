use Rattle.std.specs.Prelude.{ℕ, List, ◌++◌, Option, None, Some}
use Rattle.nv_outside.specs.declared.gathering.Gathering.{Gathering}

-- the sink below, and the bytes that are held back from it
abbrev pub sink_of : {S : Type 0} → Gathering S → S
sink_of g = g.sink

abbrev pub held_of : {S : Type 0} → Gathering S → List ℕ
held_of g = g.held.items

-- what is told, with the bytes that are held back
abbrev pub with_held : Option (List ℕ) → List ℕ → Option (List ℕ)
with_held None held = None
with_held (Some told) held = Some (told ++ held)
