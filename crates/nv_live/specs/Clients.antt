-- The outside of a live run of many clients: what was taken, what was said, and the transcript.
use Rattle.std.specs.Prelude.{◌≡◌, ℕ, true, List, [], ◌++◌, length, Option, None}
use Rattle.std.specs.List.{flat_map}
use Rattle.nv_script.specs.Doings.{Doing, Said, takings, sayings, handings}
use Rattle.nv_live.specs.declared.incoming.Stopped.{Stopped}
use Rattle.nv_live.specs.declared.transcript.Transcript.{Transcript}
use Rattle.nv_live.specs.declared.said_lines.SaidLines.{SaidLines}
use Rattle.nv_live.specs.declared.coming_lines.ComingLines.{ComingLines}
use Rattle.nv_live.specs.declared.clients.Clients.{Clients}
use Rattle.nv_live.specs.declared.hand_overs.HandOvers.{HandOvers}
use Rattle.nv_live.specs.ComingLines.{held_from, HasCome}
use Rattle.nv_live.specs.Live.{stop_with}
use Rattle.nv_live.specs.SaidLines.{said_lines}
use Rattle.nv_live.specs.Source.{Moment, moment_of, Asked}
use Rattle.nv_live.specs.Transcript.{notes_on}
use Rattle.nv_live.specs.Writer.{Written, WritesOn}
use Rattle.nv_script.specs.Scripts.{are_hands}

abbrev pub coming_of : {I O T : Type 0} → Clients I O T → ComingLines I
coming_of clients = clients.coming

abbrev pub lines_out_of : {I O T : Type 0} → Clients I O T → SaidLines O
lines_out_of clients = clients.out

abbrev pub transcript_from : {I O T : Type 0} → Clients I O T → Transcript T
transcript_from clients = clients.transcript

abbrev pub hand_overs_of : {I O T : Type 0} → Clients I O T → HandOvers
hand_overs_of clients = clients.hand_overs

-- why nothing more comes
abbrev pub stop_among : {I O T : Type 0} → Clients I O T → Option Stopped
stop_among clients = stop_with clients.coming.stopped clients.out.writer.put

abbrev pub clients_text : List Said → List ℕ
clients_text said = flat_map said_lines said

-- Between these two this was done, in order: the lines of the source say what was taken, and ask for each hand-over; the lines of what was said are in the sink beside it; and those of what was taken, and of where the leader
-- handed over, are in the transcript. These lengths are behind the script's, and with them are lengths that a script can have.
pub record DidLines {I O T : Type 0} (took : I → Option (List (List ℕ))) (unread : I → ℕ) (said : O → Option (List ℕ)) (unsaid : O → ℕ) (noted : T → Option (List ℕ)) (unnoted : T → ℕ)
    (first later : Clients I O T) (done : List Doing) : Type 0 where
  pub taken : HasCome took unread first.coming later.coming (takings done) (length (handings done))
  pub written : Written said unsaid first.out.writer later.out.writer (clients_text (sayings done))
  pub lines : WritesOn noted unnoted first.transcript.writer later.transcript.writer (notes_on done)
  pub handed : later.hand_overs.lengths.items ≡ first.hand_overs.lengths.items ++ handings done
  pub planned : are_hands later.hand_overs.lengths.items ≡ true

-- whatever was done before, this is done then
abbrev pub DoesLines : {I O T : Type 0} → (I → Option (List (List ℕ))) → (I → ℕ) → (O → Option (List ℕ)) → (O → ℕ) → (T → Option (List ℕ)) → (T → ℕ) → Clients I O T → Clients I O T → List Doing → Type 0
DoesLines took unread said unsaid noted unnoted old new more = (first : Clients _ _ _) (done : List Doing)
    → DidLines took unread said unsaid noted unnoted first old done → DidLines took unread said unsaid noted unnoted first new (done ++ more)

-- How things stood at this moment, in the midst of what was done: all that was read before was taken, but for the beginning of a line; what was done by then stands in the sinks; and something could come.
pub record StoodAmong {I O T : Type 0} (took : I → Option (List (List ℕ))) (unread : I → ℕ) (said : O → Option (List ℕ)) (unsaid : O → ℕ) (noted : T → Option (List ℕ)) (unnoted : T → ℕ)
    (first : Clients I O T) (done : List Doing) (moment : Moment) : Type 0 where
  pub stood : Clients I O T
  pub earlier : List Doing
  pub later : List Doing
  pub parted : done ≡ earlier ++ later
  pub did : DidLines took unread said unsaid noted unnoted first stood earlier
  pub taken : held_from stood.coming ≡ []
  pub going : stop_among stood ≡ None
  pub is : moment ≡ moment_of took unread said unsaid noted unnoted stood.coming.source stood.out.writer.sink stood.transcript.writer.sink

-- the same as `DidLines`, where the source was asked for more at such moments alone
abbrev pub DidLinesInTurn : {I O T : Type 0} → (I → Option (List (List ℕ))) → (I → ℕ) → (I → Option (List Moment)) → (O → Option (List ℕ)) → (O → ℕ) → (T → Option (List ℕ)) → (T → ℕ) → Clients I O T → Clients I O T → List Doing → Type 0
DidLinesInTurn took unread moments said unsaid noted unnoted first later done = DidLines took unread said unsaid noted unnoted first later done
    × Asked (moments first.coming.source) (moments later.coming.source) (StoodAmong took unread said unsaid noted unnoted first done)

-- whatever was done before, this is done then
abbrev pub DoesLinesInTurn : {I O T : Type 0} → (I → Option (List (List ℕ))) → (I → ℕ) → (I → Option (List Moment)) → (O → Option (List ℕ)) → (O → ℕ) → (T → Option (List ℕ)) → (T → ℕ) → Clients I O T → Clients I O T → List Doing → Type 0
DoesLinesInTurn took unread moments said unsaid noted unnoted old new more = (first : Clients _ _ _) (done : List Doing)
    → DidLinesInTurn took unread moments said unsaid noted unnoted first old done → DidLinesInTurn took unread moments said unsaid noted unnoted first new (done ++ more)
