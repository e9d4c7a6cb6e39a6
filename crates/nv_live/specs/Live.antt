-- The outside of a live run: what was taken, what was said, and the transcript.
use Rattle.std.specs.Prelude.{◌≡◌, ℕ, List, [], ◌∷◌, ◌++◌, Option, None, Some, Result, Ok, Err}
use Rattle.std.specs.List.{flat_map}
use Rattle.std.specs.declared.alloc.AllocError.{AllocError}
use Rattle.nv_script.specs.declared.arrival.Arrival as code
use Rattle.nv_script.specs.Doings.{Doing, Takes, Said, Accepted, Sent, Closed, Printed, takings, sayings, handings}
use Rattle.nv_script.specs.ArrivalViews.{view}
use Rattle.nv_outside.specs.Sink.{Put}
use Rattle.nv_live.specs.declared.incoming.Incoming.{Incoming}
use Rattle.nv_live.specs.declared.incoming.Stopped.{Stopped}
use Rattle.nv_live.specs.declared.incoming.Stopped.TheVariants.{Unwritten}
use Rattle.nv_live.specs.declared.transcript.Transcript.{Transcript}
use Rattle.nv_live.specs.declared.writer.Writer.{Writer}
use Rattle.nv_live.specs.declared.live.Live.{Live}
use Rattle.nv_live.specs.Incoming.{held_of, HasTaken}
use Rattle.nv_live.specs.Source.{Moment, moment_of, Asked}
use Rattle.nv_live.specs.Transcript.{notes_on}
use Rattle.nv_live.specs.Writer.{Written, WritesOn}

abbrev pub incoming_of : {I O T : Type 0} → Live I O T → Incoming I
incoming_of live = live.incoming

abbrev pub out_of : {I O T : Type 0} → Live I O T → Writer O
out_of live = live.out

abbrev pub transcript_of : {I O T : Type 0} → Live I O T → Transcript T
transcript_of live = live.transcript

-- what stopped the source, or else a failed write of what is said
abbrev pub stop_with : Option Stopped → Put → Option Stopped
stop_with (Some stopped) put = Some stopped
stop_with None (Err _) = Some Unwritten
stop_with None (Ok _) = None

-- why nothing more comes
abbrev pub stop_in : {I O T : Type 0} → Live I O T → Option Stopped
stop_in live = stop_with live.incoming.stopped live.out.put

-- the bytes for the console; a plain run has no clients
abbrev pub plain_bytes : Said → List ℕ
plain_bytes (Printed bytes) = bytes
plain_bytes (Accepted i) = []
plain_bytes (Sent i bytes) = []
plain_bytes (Closed i) = []

abbrev pub plain_text : List Said → List ℕ
plain_text said = flat_map plain_bytes said

-- Between these two this was done, in order: what was taken comes of the source, what was said stands in the sink beside it, and the lines of what was taken stand in the transcript. Plain input has no words of an operator.
pub record Did {I O T : Type 0} (took : I → Option (List (List ℕ))) (unread : I → ℕ) (said : O → Option (List ℕ)) (unsaid : O → ℕ) (noted : T → Option (List ℕ)) (unnoted : T → ℕ)
    (first later : Live I O T) (done : List Doing) : Type 0 where
  pub taken : HasTaken took unread first.incoming later.incoming (takings done)
  pub written : Written said unsaid first.out later.out (plain_text (sayings done))
  pub lines : WritesOn noted unnoted first.transcript.writer later.transcript.writer (notes_on done)
  pub handed : handings done ≡ []

-- whatever was done before, this is done then
abbrev pub DoesOn : {I O T : Type 0} → (I → Option (List (List ℕ))) → (I → ℕ) → (O → Option (List ℕ)) → (O → ℕ) → (T → Option (List ℕ)) → (T → ℕ) → Live I O T → Live I O T → List Doing → Type 0
DoesOn took unread said unsaid noted unnoted old new more = (first : Live _ _ _) (done : List Doing)
    → Did took unread said unsaid noted unnoted first old done → Did took unread said unsaid noted unnoted first new (done ++ more)

-- How things stood at this moment, in the midst of what was done: all that was read before was taken, what was done by then stands in the sinks, and something could come.
pub record StoodIn {I O T : Type 0} (took : I → Option (List (List ℕ))) (unread : I → ℕ) (said : O → Option (List ℕ)) (unsaid : O → ℕ) (noted : T → Option (List ℕ)) (unnoted : T → ℕ)
    (first : Live I O T) (done : List Doing) (moment : Moment) : Type 0 where
  pub stood : Live I O T
  pub earlier : List Doing
  pub later : List Doing
  pub parted : done ≡ earlier ++ later
  pub did : Did took unread said unsaid noted unnoted first stood earlier
  pub taken : held_of stood.incoming ≡ []
  pub going : stop_in stood ≡ None
  pub is : moment ≡ moment_of took unread said unsaid noted unnoted stood.incoming.source stood.out.sink stood.transcript.writer.sink

-- the same as `Did`, where the source was asked for more at such moments alone
abbrev pub DidInTurn : {I O T : Type 0} → (I → Option (List (List ℕ))) → (I → ℕ) → (I → Option (List Moment)) → (O → Option (List ℕ)) → (O → ℕ) → (T → Option (List ℕ)) → (T → ℕ) → Live I O T → Live I O T → List Doing → Type 0
DidInTurn took unread moments said unsaid noted unnoted first later done = Did took unread said unsaid noted unnoted first later done
    × Asked (moments first.incoming.source) (moments later.incoming.source) (StoodIn took unread said unsaid noted unnoted first done)

-- whatever was done before, this is done then
abbrev pub DoesInTurn : {I O T : Type 0} → (I → Option (List (List ℕ))) → (I → ℕ) → (I → Option (List Moment)) → (O → Option (List ℕ)) → (O → ℕ) → (T → Option (List ℕ)) → (T → ℕ) → Live I O T → Live I O T → List Doing → Type 0
DoesInTurn took unread moments said unsaid noted unnoted old new more = (first : Live _ _ _) (done : List Doing)
    → DidInTurn took unread moments said unsaid noted unnoted first old done → DidInTurn took unread moments said unsaid noted unnoted first new (done ++ more)

-- the first of what was held; nothing where memory was wanted
abbrev pub took_first : Result code.Arrival AllocError → List Doing
took_first (Ok arrival) = Takes (view arrival) ∷ []
took_first (Err error) = []
