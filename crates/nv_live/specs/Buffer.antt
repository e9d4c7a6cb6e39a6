-- What was read and not yet taken.
use Rattle.std.specs.Prelude.{◌≡◌, ◌-◌, ℕ, List, [], ◌∷◌, Option, length, take, drop}
use Rattle.nv_live.specs.declared.source.Read.{Read}
use Rattle.nv_live.specs.declared.source.Read.TheVariants.{Count, Failed}
use Rattle.nv_live.specs.declared.buffer.Buffer.{Buffer}
use Rattle.nv_live.specs.Source.{Gave}

abbrev pub held_in : Buffer → List ℕ
held_in buffer = take (buffer.end - buffer.start) (drop buffer.start buffer.bytes.items)

-- what one read gave is held now, or it failed and nothing is
abbrev pub Refills : Option (List (List ℕ)) → Option (List (List ℕ)) → List ℕ → Read → Type 0
Refills before after held (Count count) = (count ≡ length held) × Gave before (held ∷ []) after
Refills before after held Failed = (after ≡ before) × (held ≡ [])
