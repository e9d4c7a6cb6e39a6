-- What an outside tells of what was done.
use Rattle.std.specs.Prelude.{◌≡◌, ◌+◌, ◌&&◌, ℕ, Bool, true, false, nat_le, List, [], ◌∷◌, ◌++◌}
use Rattle.nv_calls.specs.Calls.{Entry}
use Rattle.nv_script.specs.Scripts.{Setup}
use Rattle.nv_script.specs.Arrivals.{Arrival}
use Rattle.nv_script.specs.Doings.{Doing, Takes, Says, Hands, takings, sayings, handings}
use Rattle.nv_arriving.specs.Doings.{doings}

-- from one object to the next just this was done, behind whatever was done before
abbrev pub Adds : {O : Type 0} → (O → O → List Doing → Type 0) → O → O → List Doing → Type 0
Adds {O} did before now more = (first : O) (done : List Doing) → did first before done → did first now (done ++ more)

-- how many arrivals were taken before each saying, where so many were before all of these
abbrev pub taken_before : ℕ → List Doing → List ℕ
taken_before n [] = []
taken_before n (Takes a ∷ later) = taken_before (n + 1) later
taken_before n (Says s ∷ later) = n ∷ taken_before n later
taken_before n (Hands m ∷ later) = taken_before n later

-- as many numbers, each at most the other's that stands at its place
abbrev pub are_at_most : List ℕ → List ℕ → Bool
are_at_most [] [] = true
are_at_most [] (n ∷ ns) = false
are_at_most (m ∷ ms) [] = false
are_at_most (m ∷ ms) (n ∷ ns) = nat_le m n && are_at_most ms ns

-- This was done over the run of a log: all that came was taken in its order, and what the log says was said in its order; and nothing was said before what the log's
-- calls take in up to there was taken.
pub record IsTold {O : Type 0} (did : O → O → List Doing → Type 0) (begun now : O) (setup : Setup) (came : List Arrival) (log : List Entry) (done : List Doing) : Type 0 where
  pub is : did begun now done
  pub took : takings done ≡ came
  pub said : sayings done ≡ sayings (doings setup came log)
  pub no_sooner : are_at_most (taken_before 0 (doings setup came log)) (taken_before 0 done) ≡ true

-- an outside that tells of itself that nothing was done at first tells all that was done
abbrev pub Tells : {O : Type 0} → (O → O → List Doing → Type 0) → O → O → Setup → List Arrival → List Entry → Type 0
Tells did begun now setup came log = did begun begun [] → ((done : List Doing) × IsTold did begun now setup came log done)

-- and so it tells all of it, in which leaders gave up the lead by operators' words at just these lengths of the log
abbrev pub HasHanded : {O : Type 0} → (O → O → List Doing → Type 0) → O → O → Setup → List Arrival → List Entry → List ℕ → Type 0
HasHanded did begun now setup came log lengths = did begun begun [] → ((done : List Doing) × IsTold did begun now setup came log done × (handings done ≡ lengths))
