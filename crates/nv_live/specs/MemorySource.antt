use Rattle.std.specs.Prelude.{ℕ, List, Option, Some, map, take}
use Rattle.nv_live.specs.Source.{Moment, moment_of}
use Rattle.nv_live.specs.declared.memory_source.MemorySource.{MemorySource}
use Rattle.nv_live.specs.declared.memory_source.Seen.{Seen}

-- what the reads give, in order
abbrev pub all_of : {O T : Type 0} → MemorySource O T → List (List ℕ)
all_of source = map (λ bytes. bytes.items) source.reads.items

-- what they have given so far
abbrev pub given_of : {O T : Type 0} → MemorySource O T → List (List ℕ)
given_of source = take source.next (all_of source)

abbrev pub faults_of : {O T : Type 0} → MemorySource O T → ℕ
faults_of source = source.faults

-- how things stood when it was read once, of reads that give all of these
abbrev pub moment_in : {O T : Type 0} → (O → Option (List ℕ)) → (O → ℕ) → (T → Option (List ℕ)) → (T → ℕ) → List (List ℕ) → Seen O T → Moment
moment_in said unsaid noted unnoted all seen = moment_of (λ s. Some (take s.given all)) (λ s. s.failed) said unsaid noted unnoted seen seen.said.value seen.noted.value

-- how they stood each time, in order
abbrev pub moments_of : {O T : Type 0} → (O → Option (List ℕ)) → (O → ℕ) → (T → Option (List ℕ)) → (T → ℕ) → MemorySource O T → List Moment
moments_of said unsaid noted unnoted source = map (moment_in said unsaid noted unnoted (all_of source)) source.seen.items
