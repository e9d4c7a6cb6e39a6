-- What a live run shows in the end of what was done.
use Rattle.std.proofs.Common.{◌≡◌, ℕ, Bool, true, false, List, [], ◌++◌, Option, None, Some, refl, sym, ap, ◌∙◌, subst, append-nil, Ok, Err, IsOk, length}
use Rattle.nv_script.specs.Doings.{Doing, takings, sayings, handings}
use Rattle.nv_script.specs.Order.{Came, most_clients, nothing_came}
use Rattle.nv_outside.specs.Sink.{Put, Puts}
use Rattle.nv_live.specs.declared.incoming.Stopped.{Stopped}
use Rattle.nv_live.specs.declared.run.LiveRun.{LiveRun}
use Rattle.nv_live.specs.declared.run.LiveRun.TheVariants.{Plain, Clients}
use Rattle.nv_live.specs.ComingLines.{Come, held_from}
use Rattle.nv_live.specs.Run.{CameBy, hands_by, said_text, DidRun, told_run, IsBegun, input_of, output_of, notes_of, line_of, held_by, source_stop}
use Rattle.nv_live.specs.Telling.{Told}
use Rattle.nv_live.specs.declared.streams.Streams.{Streams}
use Rattle.nv_script.specs.Scripts.{are_hands}
use Rattle.nv_live.specs.Transcript.{notes_on}
use Rattle.nv_live.proofs.Coming.{come-start}
use Rattle.nv_live.specs.declared.clients.Clients.{Clients as Among}
use Rattle.nv_live.specs.declared.live.Live.{Live}
use Rattle.nv_live.specs.Clients.{clients_text, StoodAmong}
use Rattle.nv_live.specs.Live.{plain_text, stop_with, StoodIn}
use Rattle.nv_live.specs.Taking.{Took}
use Rattle.nv_live.specs.Source.{Moment, Asked}
use Rattle.nv_live.proofs.Asking.{asked-where}
use Rattle.nv_live.proofs.Doing.{did-none}
use Rattle.nv_live.proofs.InTurn.{in-turn-none, among-none}
use Rattle.nv_live.proofs.Serving.{did-none as lines-none}

-- what is told at the beginning
pub record IsFresh (told : Told) : Type 0 where
  pub held : told.held ≡ []
  pub line : told.line ≡ []
  pub order : told.order ≡ nothing_came (most_clients true)
  pub taken : told.taken ≡ 0
  pub asked : told.asked ≡ false
  pub going : told.stopped ≡ None
  pub planned : are_hands told.hands ≡ true
  pub saying : IsOk told.saying

module _ {I O T : Type 0} (took : I → Option (List (List ℕ))) (unread : I → ℕ) (moments : I → Option (List Moment)) (said : O → Option (List ℕ)) (unsaid : O → ℕ) (noted : T → Option (List ℕ)) (unnoted : T → ℕ) where
  -- nothing came before by lines
  lines-start : (before : Option (List (List ℕ))) (faults : ℕ) (stopped : Option Stopped) (line held : List ℕ) (came : Came) (taken : ℕ) (asked : Bool) → stopped ≡ None → line ≡ [] → held ≡ [] → came ≡ nothing_came (most_clients true) → taken ≡ 0 → asked ≡ false
      → Come before before faults faults stopped line held came taken asked 0 []
  lines-start before faults stopped line held came taken asked going empty none order zero unasked =
      subst (λ s. Come before before faults faults s line held came taken asked 0 []) (sym going)
      (subst (λ n. Come before before faults faults None line held came n asked 0 []) (sym zero)
      (subst (λ b. Come before before faults faults None line held came 0 b 0 []) (sym unasked) (come-start before faults line held came empty none order)))

  hands_by-planned : (clients : Bool) (hands : List ℕ) → are_hands hands ≡ true → are_hands (hands_by clients hands) ≡ true
  unfolding are_hands
  hands_by-planned false hands are = refl
  hands_by-planned true hands are = are

  -- a run that was begun tells nothing of what it has done
  pub begun-fresh : (clients : Bool) (head hands : List ℕ) (streams : Streams I O T) (told : Told) → are_hands hands ≡ true
      → IsBegun took unread moments said unsaid noted unnoted clients head hands streams told → IsFresh told
  begun-fresh clients head hands streams told are b = record {
    held = b.held;
    line = b.line;
    order = b.order;
    taken = b.taken;
    asked = b.asked;
    going = b.going;
    planned = ap are_hands b.hands_are ∙ hands_by-planned clients hands are;
    saying = b.saying;
  }

  -- a run that tells nothing of what it has done has done nothing
  pub begun-none : (run : LiveRun I O T) → IsFresh (told_run took unread moments said unsaid noted unnoted run) → DidRun took unread moments said unsaid noted unnoted run run []
  begun-none (Plain run) fresh = in-turn-none took unread moments said unsaid noted unnoted run (did-none took unread said unsaid noted unnoted run fresh.going fresh.held fresh.saying)
  begun-none (Clients run) fresh =
      among-none took unread moments said unsaid noted unnoted run
      (lines-none took unread said unsaid noted unnoted run
      (lines-start (took run.coming.source) (unread run.coming.source) run.coming.stopped run.coming.line.items (held_from run.coming) run.coming.order run.coming.taken run.coming.asked
      fresh.going fresh.line fresh.held fresh.order fresh.taken fresh.asked) fresh.saying fresh.planned)

  -- how things stood at a moment in the midst of what was done since a run that told this
  pub record ShownAt (told : Told) (done : List Doing) (m : Moment) : Type 0 where
    pub earlier : List Doing
    pub later : List Doing
    pub parted : done ≡ earlier ++ later
    pub line : List ℕ
    pub came : CameBy told.clients told.read m.read told.unread m.unread None line [] (takings earlier) (handings earlier)
    pub written : Puts told.said told.unsaid (said_text told.clients (sayings earlier)) (Ok tt) m.said m.unsaid
    pub put : Put
    pub lines : (sink : T) (head : List ℕ) → Puts (noted sink) (unnoted sink) head told.noting told.noted told.unnoted
        → Puts (noted sink) (unnoted sink) (head ++ notes_on earlier) put m.noted m.unnoted

  -- what the streams show of what was done since a run that told this
  pub record Shown (told : Told) (later : LiveRun I O T) (done : List Doing) : Type 0 where
    pub came : CameBy told.clients told.read (took (input_of later)) told.unread (unread (input_of later)) (source_stop later) (line_of later) (held_by later) (takings done) (handings done)
    pub written : Puts told.said told.unsaid (said_text told.clients (sayings done)) (output_of later).put (said (output_of later).sink) (unsaid (output_of later).sink)
    pub lines : (sink : T) (head : List ℕ) → Puts (noted sink) (unnoted sink) head told.noting told.noted told.unnoted
        → Puts (noted sink) (unnoted sink) (head ++ notes_on done) (notes_of later).put (noted (notes_of later).sink) (unnoted (notes_of later).sink)
    pub asked : Asked told.moments (moments (input_of later)) (ShownAt told done)
    -- a script with these lengths can have those as well at which the leader handed over
    pub planned : (hands : List ℕ) → are_hands hands ≡ true → told.hands ≡ hands_by told.clients hands → are_hands (hands ++ handings done) ≡ true

  -- nothing stopped it, so all that was said is written
  going-parts : (stopped : Option Stopped) (put : Put) → stop_with stopped put ≡ None → (stopped ≡ None) × (put ≡ Ok tt)
  going-parts (Some s) put e = cc
  going-parts None (Ok u) e = (refl, refl)
  going-parts None (Err f) e = cc

  shown-in : (first : Live I O T) (done : List Doing) (m : Moment) → StoodIn took unread said unsaid noted unnoted first done m
      → ShownAt (told_run took unread moments said unsaid noted unnoted (Plain first)) done m
  shown-in first done m s =
      let parts = going-parts s.stood.incoming.stopped s.stood.out.put s.going in
      subst (λ x. ShownAt (told_run took unread moments said unsaid noted unnoted (Plain first)) done x) (sym s.is) (record {
        earlier = s.earlier;
        later = s.later;
        parted = s.parted;
        line = [];
        came = (
          refl,
          subst (λ x. Took (took first.incoming.source) (took s.stood.incoming.source) (unread first.incoming.source) (unread s.stood.incoming.source) x [] (takings s.earlier)) parts.0
              (subst (λ h. Took (took first.incoming.source) (took s.stood.incoming.source) (unread first.incoming.source) (unread s.stood.incoming.source) s.stood.incoming.stopped h (takings s.earlier)) s.taken s.did.taken),
          s.did.handed,
        );
        written = subst (λ p. Puts (said first.out.sink) (unsaid first.out.sink) (plain_text (sayings s.earlier)) p (said s.stood.out.sink) (unsaid s.stood.out.sink)) parts.1 s.did.written;
        put = s.stood.transcript.writer.put;
        lines = λ sink head begun. s.did.lines (record { sink = sink; put = Ok tt }) head begun;
      })

  shown-among : (first : Among I O T) (done : List Doing) (m : Moment) → StoodAmong took unread said unsaid noted unnoted first done m
      → ShownAt (told_run took unread moments said unsaid noted unnoted (Clients first)) done m
  shown-among first done m s =
      let parts = going-parts s.stood.coming.stopped s.stood.out.writer.put s.going in
      subst (λ x. ShownAt (told_run took unread moments said unsaid noted unnoted (Clients first)) done x) (sym s.is) (record {
        earlier = s.earlier;
        later = s.later;
        parted = s.parted;
        line = s.stood.coming.line.items;
        came = (
          s.stood.coming.order,
          s.stood.coming.taken,
          s.stood.coming.asked,
          subst (λ x. Come (took first.coming.source) (took s.stood.coming.source) (unread first.coming.source) (unread s.stood.coming.source) x s.stood.coming.line.items [] s.stood.coming.order s.stood.coming.taken s.stood.coming.asked
              (length (handings s.earlier)) (takings s.earlier)) parts.0
              (subst (λ h. Come (took first.coming.source) (took s.stood.coming.source) (unread first.coming.source) (unread s.stood.coming.source) s.stood.coming.stopped s.stood.coming.line.items h s.stood.coming.order s.stood.coming.taken
              s.stood.coming.asked (length (handings s.earlier)) (takings s.earlier)) s.taken s.did.taken),
        );
        written = subst (λ p. Puts (said first.out.writer.sink) (unsaid first.out.writer.sink) (clients_text (sayings s.earlier)) p (said s.stood.out.writer.sink) (unsaid s.stood.out.writer.sink)) parts.1 s.did.written;
        put = s.stood.transcript.writer.put;
        lines = λ sink head begun. s.did.lines (record { sink = sink; put = Ok tt }) head begun;
      })

  pub shown : (first later : LiveRun I O T) (done : List Doing) → DidRun took unread moments said unsaid noted unnoted first later done → Shown (told_run took unread moments said unsaid noted unnoted first) later done
  shown (Plain first) (Plain later) done d = record {
    came = (refl, d.0.taken, d.0.handed);
    written = d.0.written;
    lines = λ sink head begun. d.0.lines (record { sink = sink; put = Ok tt }) head begun;
    asked = asked-where (moments first.incoming.source) (moments later.incoming.source) (StoodIn took unread said unsaid noted unnoted first done) (ShownAt (told_run took unread moments said unsaid noted unnoted (Plain first)) done) (shown-in first done) d.1;
    planned = λ hands are same. ap (λ lengths. are_hands (hands ++ lengths)) d.0.handed ∙ ap are_hands (append-nil hands) ∙ are;
  }
  shown (Clients first) (Clients later) done d = record {
    came = (_, _, _, d.0.taken);
    written = d.0.written;
    lines = λ sink head begun. d.0.lines (record { sink = sink; put = Ok tt }) head begun;
    asked = asked-where (moments first.coming.source) (moments later.coming.source) (StoodAmong took unread said unsaid noted unnoted first done) (ShownAt (told_run took unread moments said unsaid noted unnoted (Clients first)) done) (shown-among first done) d.1;
    planned = λ hands are same. ap (λ lengths. are_hands (lengths ++ handings done)) (sym same) ∙ ap are_hands (sym d.0.handed) ∙ d.0.planned;
  }
  shown (Plain first) (Clients later) done d = absurd d
  shown (Clients first) (Plain later) done d = absurd d
