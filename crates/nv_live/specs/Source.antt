-- What reads may give.
use Rattle.std.specs.Prelude.{◌≡◌, ◌≤◌, ℕ, List, [], ◌∷◌, ◌++◌, Option, None, Some, length, take}
use Rattle.std.specs.List.{All}
use Rattle.nv_outside.specs.Counts.{raised}
use Rattle.nv_live.specs.declared.source.Read.{Read}
use Rattle.nv_live.specs.declared.source.Read.TheVariants.{Count, Failed}

-- What was told went on by these, one after another, as by the bytes that each read gave. An object that no longer tells never tells again.
abbrev pub Gave : {X : Type 0} → Option (List X) → List X → Option (List X) → Type 0
Gave before reads None = Unit {0}
Gave (Some before) reads (Some after) = after ≡ before ++ reads
Gave None reads (Some after) = ⊥

-- one more read gave the bytes that stand at the beginning of the room now, or it failed
abbrev pub Reads : Option (List (List ℕ)) → Option (List (List ℕ)) → List ℕ → Read → Type 0
Reads before after room (Count count) = (count ≤ length room) × Gave before (take count room ∷ []) after
Reads before after room Failed = after ≡ before

-- how many bytes it gave
abbrev pub count_of : Read → ℕ
count_of (Count count) = count
count_of Failed = 0

-- the count of faults after a read
abbrev pub faults_by_read : Read → ℕ → ℕ
faults_by_read (Count count) faults = faults
faults_by_read Failed faults = raised faults 1

-- How things stand when a source is asked for more: what its reads gave so far, what the two sinks beside it have, and how often each of the three has failed.
pub record Moment : Type 0 where
  pub read : Option (List (List ℕ))
  pub unread : ℕ
  pub said : Option (List ℕ)
  pub unsaid : ℕ
  pub noted : Option (List ℕ)
  pub unnoted : ℕ

-- how they stand with these three objects, of which the first six tell
abbrev pub moment_of : {I O T : Type 0} → (I → Option (List (List ℕ))) → (I → ℕ) → (O → Option (List ℕ)) → (O → ℕ) → (T → Option (List ℕ)) → (T → ℕ) → I → O → T → Moment
moment_of took unread said unsaid noted unnoted source output notes =
    record { read = took source; unread = unread source; said = said output; unsaid = unsaid output; noted = noted notes; unnoted = unnoted notes }

-- between these two a source was asked for more at such moments alone
pub record Asked (before after : Option (List Moment)) (stands : Moment → Type 0) : Type 0 where
  pub moments : List Moment
  pub gave : Gave before moments after
  pub each : All stands moments
