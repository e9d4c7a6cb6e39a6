-- What comes, by its source and what is held.
use Rattle.std.specs.Prelude.{◌≡◌, ℕ, List, [], Option, None}
use Rattle.nv_script.specs.Arrivals.{Arrival}
use Rattle.nv_live.specs.declared.incoming.Incoming.{Incoming}
use Rattle.nv_live.specs.declared.incoming.Stopped.{Stopped}
use Rattle.nv_live.specs.Buffer.{held_in}
use Rattle.nv_live.specs.Source.{Moment, Asked}
use Rattle.nv_live.specs.Taking.{Took}

abbrev pub source_in : {I : Type 0} → Incoming I → I
source_in incoming = incoming.source

-- what was read and not yet taken
abbrev pub held_of : {I : Type 0} → Incoming I → List ℕ
held_of incoming = held_in incoming.buffer

-- why nothing more comes
abbrev pub stop_of : {I : Type 0} → Incoming I → Option Stopped
stop_of incoming = incoming.stopped

-- between these two these arrivals were taken; the first two tell what a source gave and how often it failed
abbrev pub HasTaken : {I : Type 0} → (I → Option (List (List ℕ))) → (I → ℕ) → Incoming I → Incoming I → List Arrival → Type 0
HasTaken took faults first later arrivals = Took (took first.source) (took later.source) (faults first.source) (faults later.source) later.stopped (held_of later) arrivals

-- whatever arrivals were taken before, these are taken then
abbrev pub TakesOn : {I : Type 0} → (I → Option (List (List ℕ))) → (I → ℕ) → Incoming I → Incoming I → (List Arrival → List Arrival) → Type 0
TakesOn took faults old new then_taken = (first : Incoming _) (arrivals : List Arrival) → HasTaken took faults first old arrivals → HasTaken took faults first new (then_taken arrivals)

-- The source was asked for more at most at this moment, and only where nothing was held and something could come.
abbrev pub ReadOnce : {I : Type 0} → (I → Option (List Moment)) → Incoming I → Incoming I → Moment → Type 0
ReadOnce moments old new moment = Asked (moments old.source) (moments new.source) (λ m. (m ≡ moment) × (held_of old ≡ []) × (old.stopped ≡ None))
