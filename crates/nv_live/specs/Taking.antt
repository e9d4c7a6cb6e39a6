-- What was taken of a source, as arrivals.
use Rattle.std.specs.Prelude.{◌≡◌, ◌==◌, ℕ, Bool, false, List, [], ◌∷◌, ◌++◌, Option, None, Some, IsSome, map, drop, true, if◌then◌else◌}
use Rattle.nv_script.specs.Arrivals.{Arrival, Input}
use Rattle.nv_script.specs.Order.{most_clients, are_arrivals}
use Rattle.nv_script.specs.Pieces.{pieces, input_of}
use Rattle.nv_outside.specs.Counts.{raised}
use Rattle.nv_live.specs.declared.source.Read.{Read}
use Rattle.nv_live.specs.declared.source.Read.TheVariants.{Count, Failed}
use Rattle.nv_live.specs.declared.incoming.Stopped.{Stopped}
use Rattle.nv_live.specs.declared.incoming.Stopped.TheVariants.{Ended, Unreadable, Unwritten, Refused, CutOff}
use Rattle.nv_live.specs.Source.{Gave}

-- why nothing more comes after a read
abbrev pub stop_by : Read → Option Stopped
stop_by (Count count) = if count == 0 then Some Ended else None
stop_by Failed = Some Unreadable

-- the count of faults of a source: once a read has failed no more is made
abbrev pub faults_by_stop : Option Stopped → ℕ → ℕ
faults_by_stop (Some Unreadable) faults = raised faults 1
faults_by_stop _ faults = faults

-- plain input stops at its end or at a read that fails: none of its lines is refused or cut off
abbrev pub is_plain_stop : Option Stopped → Bool
is_plain_stop None = true
is_plain_stop (Some Ended) = true
is_plain_stop (Some Unreadable) = true
is_plain_stop (Some Unwritten) = false
is_plain_stop (Some (Refused n c)) = false
is_plain_stop (Some (CutOff n)) = false

-- The bytes of the reads, cut at each newline and after 2,000, are the arrivals so far, in order, and after them the pieces of what is held: nothing that was read is lost or made up.
pub record Took (before now : Option (List (List ℕ))) (faults later_faults : ℕ) (stopped : Option Stopped) (held : List ℕ) (arrivals : List Arrival) : Type 0 where
  pub reads : List (List ℕ)
  pub gave : Gave before reads now
  pub cut : input_of 2000 reads ≡ arrivals ++ map Input (pieces 2000 held)
  pub may_come : are_arrivals (most_clients true) arrivals ≡ true
  pub stops : is_plain_stop stopped ≡ true
  -- at the end the last read gave nothing
  pub ended : stopped ≡ Some Ended → (earlier : List (List ℕ)) × (reads ≡ earlier ++ [] ∷ [])
  -- once it has stopped, all that was read is taken
  pub all : IsSome stopped → held ≡ []
  pub counted : later_faults ≡ faults_by_stop stopped faults

-- the bytes that come first of those that are held
abbrev pub IsFirst : List ℕ → List ℕ → Type 0
IsFirst bytes held = pieces 2000 held ≡ bytes ∷ drop 1 (pieces 2000 held)
