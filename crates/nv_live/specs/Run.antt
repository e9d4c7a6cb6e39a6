-- The outside of a live run, of either way, and what its streams show of what was done.
use Rattle.std.specs.Prelude.{◌≡◌, ℕ, Bool, true, false, List, [], length, Option, None, is_some, IsOk}
use Rattle.nv_script.specs.Arrivals.{Arrival}
use Rattle.nv_script.specs.Doings.{Doing, Said}
use Rattle.nv_script.specs.Order.{Came, most_clients, nothing_came}
use Rattle.nv_outside.specs.Sink.{Puts}
use Rattle.nv_live.specs.declared.incoming.Stopped.{Stopped}
use Rattle.nv_live.specs.declared.run.LiveRun.{LiveRun}
use Rattle.nv_live.specs.declared.run.LiveRun.TheVariants.{Plain, Clients}
use Rattle.nv_live.specs.declared.streams.Streams.{Streams}
use Rattle.nv_live.specs.declared.writer.Writer.{Writer}
use Rattle.nv_live.specs.Clients.{clients_text, stop_among, DidLinesInTurn}
use Rattle.nv_live.specs.ComingLines.{Come, held_from}
use Rattle.nv_live.specs.Incoming.{held_of}
use Rattle.nv_live.specs.Live.{plain_text, stop_in, DidInTurn}
use Rattle.nv_live.specs.Source.{Moment}
use Rattle.nv_live.specs.Taking.{Took}
use Rattle.nv_live.specs.Telling.{Told}

-- ---- its parts

abbrev pub input_of : {I O T : Type 0} → LiveRun I O T → I
input_of (Plain run) = run.incoming.source
input_of (Clients run) = run.coming.source

abbrev pub output_of : {I O T : Type 0} → LiveRun I O T → Writer O
output_of (Plain run) = run.out
output_of (Clients run) = run.out.writer

abbrev pub notes_of : {I O T : Type 0} → LiveRun I O T → Writer T
notes_of (Plain run) = run.transcript.writer
notes_of (Clients run) = run.transcript.writer

-- what was read and not yet taken: of clients the bytes of a line that has begun, and what is behind them
abbrev pub line_of : {I O T : Type 0} → LiveRun I O T → List ℕ
line_of (Plain run) = []
line_of (Clients run) = run.coming.line.items

abbrev pub held_by : {I O T : Type 0} → LiveRun I O T → List ℕ
held_by (Plain run) = held_of run.incoming
held_by (Clients run) = held_from run.coming

-- why no more is read
abbrev pub source_stop : {I O T : Type 0} → LiveRun I O T → Option Stopped
source_stop (Plain run) = run.incoming.stopped
source_stop (Clients run) = run.coming.stopped

-- why nothing more comes
abbrev pub stop_of_run : {I O T : Type 0} → LiveRun I O T → Option Stopped
stop_of_run (Plain run) = stop_in run
stop_of_run (Clients run) = stop_among run

-- nothing more comes
abbrev pub IsOver : {I O T : Type 0} → LiveRun I O T → Type 0
IsOver run = is_some (stop_of_run run) ≡ true

-- ---- what the streams show

-- These arrivals came by reads, which gave nothing more but this: as plain input, or by lines of clients, of which one may have begun. At these lengths the leader handed over, each time for a line `hand` of its own; plain
-- input has none.
abbrev pub CameBy : Bool → Option (List (List ℕ)) → Option (List (List ℕ)) → ℕ → ℕ → Option Stopped → List ℕ → List ℕ → List Arrival → List ℕ → Type 0
CameBy false before after unread later stopped line held arrivals handed = (line ≡ []) × Took before after unread later stopped held arrivals × (handed ≡ [])
CameBy true before after unread later stopped line held arrivals handed =
    (came : Came) × (taken : ℕ) × (asked : Bool) × Come before after unread later stopped line held came taken asked (length handed) arrivals

-- the lengths that the outside of a run knows of its script: plain input needs none
abbrev pub hands_by : Bool → List ℕ → List ℕ
hands_by false hands = []
hands_by true hands = hands

-- what is said: the console's bytes, or lines for the clients
abbrev pub said_text : Bool → List Said → List ℕ
said_text false said = plain_text said
said_text true said = clients_text said

module _ {I O T : Type 0} (took : I → Option (List (List ℕ))) (unread : I → ℕ) (moments : I → Option (List Moment)) (said : O → Option (List ℕ)) (unsaid : O → ℕ) (noted : T → Option (List ℕ)) (unnoted : T → ℕ) where
  -- between these two this was done, in order
  abbrev pub DidRun : LiveRun I O T → LiveRun I O T → List Doing → Type 0
  DidRun (Plain first) (Plain later) done = DidInTurn took unread moments said unsaid noted unnoted first later done
  DidRun (Clients first) (Clients later) done = DidLinesInTurn took unread moments said unsaid noted unnoted first later done
  DidRun first later done = ⊥

  abbrev pub told_run : LiveRun I O T → Told
  told_run (Plain run) = record {
    clients = false;
    read = took run.incoming.source;
    unread = unread run.incoming.source;
    moments = moments run.incoming.source;
    held = held_of run.incoming;
    line = [];
    order = nothing_came (most_clients true);
    taken = 0;
    asked = false;
    stopped = run.incoming.stopped;
    hands = [];
    said = said run.out.sink;
    unsaid = unsaid run.out.sink;
    saying = run.out.put;
    noted = noted run.transcript.writer.sink;
    unnoted = unnoted run.transcript.writer.sink;
    noting = run.transcript.writer.put;
  }
  told_run (Clients run) = record {
    clients = true;
    read = took run.coming.source;
    unread = unread run.coming.source;
    moments = moments run.coming.source;
    held = held_from run.coming;
    line = run.coming.line.items;
    order = run.coming.order;
    taken = run.coming.taken;
    asked = run.coming.asked;
    stopped = run.coming.stopped;
    hands = run.hand_overs.lengths.items;
    said = said run.out.writer.sink;
    unsaid = unsaid run.out.writer.sink;
    saying = run.out.writer.put;
    noted = noted run.transcript.writer.sink;
    unnoted = unnoted run.transcript.writer.sink;
    noting = run.transcript.writer.put;
  }

  -- A run that has done nothing over these streams but to begin the transcript tells this.
  pub record IsBegun (clients : Bool) (head hands : List ℕ) (streams : Streams I O T) (told : Told) : Type 0 where
    pub way : told.clients ≡ clients
    pub read : told.read ≡ took streams.input
    pub unread_is : told.unread ≡ unread streams.input
    pub moments_are : told.moments ≡ moments streams.input
    pub held : told.held ≡ []
    pub line : told.line ≡ []
    pub order : told.order ≡ nothing_came (most_clients true)
    pub taken : told.taken ≡ 0
    pub asked : told.asked ≡ false
    pub going : told.stopped ≡ None
    pub hands_are : told.hands ≡ hands_by clients hands
    pub said_is : told.said ≡ said streams.output
    pub unsaid_is : told.unsaid ≡ unsaid streams.output
    pub saying : IsOk told.saying
    pub noted_is : Puts (noted streams.transcript) (unnoted streams.transcript) head told.noting told.noted told.unnoted
