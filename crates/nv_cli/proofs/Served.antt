-- What a live run's account, its log and what is left of its streams say together.
use Rattle.std.proofs.Common.{◌≡◌, ◌∙◌, refl, sym, ap, subst, ℕ, Bool, true, false, List, [], ◌++◌, Option, None, is_some, Result, Ok, map, ◌⊎◌, ⊎_elim, inl, inr}
use Rattle.std.specs.List.{All, list_all}
use Rattle.std.specs.Result.{is_ok}
use Rattle.std.proofs.lemmas.Bool.{and_parts}
use Rattle.nv_script.specs.Arrivals.{Arrival, is_arrival, BringsBytes}
use Rattle.nv_script.specs.Order.{most_clients, are_orderly, are_arrivals}
use Rattle.nv_script.specs.Doings.{Doing, takings, sayings, handings}
use Rattle.nv_arriving.specs.Arriving.{first_stage, start_of_arrivals, Satisfied}
use Rattle.nv_arriving.specs.Doings.{doings}
use Rattle.nv_arriving.specs.Kernel.{Coming}
use Rattle.nv_arriving.specs.Scripted.{start_from}
use Rattle.nv_arriving.specs.Telling.{taken_before, are_at_most, IsTold}
use Rattle.nv_bpf.specs.declared.op.Op.{Op}
use Rattle.nv_calls.specs.Calls.{Entry}
use Rattle.nv_calls.specs.Logs.{calls_of}
use Rattle.nv_driver.specs.Words.{Limits}
use Rattle.nv_kernel.specs.Logged.{Logged}
use Rattle.nv_live.specs.Lines.{held_text}
use Rattle.nv_live.specs.Live.{stop_with}
use Rattle.nv_live.specs.Run.{CameBy, said_text, DidRun, IsBegun, hands_by, input_of, output_of, notes_of, line_of, held_by, stop_of_run, source_stop, IsOver}
use Rattle.nv_live.specs.Source.{Moment, Asked}
use Rattle.nv_live.specs.Telling.{Told}
use Rattle.nv_live.specs.Transcript.{notes_on, continued_with}
use Rattle.nv_live.specs.Writer.{sink_in, put_of}
use Rattle.nv_live.specs.declared.incoming.Stopped.{Stopped}
use Rattle.nv_live.specs.declared.run.LiveRun.{LiveRun}
use Rattle.nv_live.specs.declared.run.LiveRun.TheVariants.{Plain, Clients}
use Rattle.nv_live.specs.declared.streams.Streams.{Streams as Held}
use Rattle.nv_live.proofs.Notes.{noted as noted_on}
use Rattle.nv_live.proofs.Asking.{asked-where}
use Rattle.nv_live.proofs.Showing.{ShownAt, begun-fresh, begun-none, shown}
use Rattle.nv_machine.specs.Guest.{Machine}
use Rattle.nv_outside.specs.Sink.{Puts}
use Rattle.nv_outside.proofs.Writing.{puts-none}
use Rattle.nv_replay.specs.Follow.{judge_of}
use Rattle.nv_replay.specs.Version.{Running, process_of, standing_of}
use Rattle.nv_replay.specs.declared.account.Account.{Account as Ran}
use Rattle.nv_script.specs.Scripts.{Setup, are_hands, is_script, script_of}
use Rattle.nv_script.specs.Transcripts.{IsTranscript}
use Rattle.nv_script.proofs.Sound.{script-keeps}
use Rattle.nv_script.specs.declared.fault.ScriptFault.{ScriptFault}
use Rattle.nv_threads.specs.Threads.{Proc, threads}
use Rattle.nv_workers.specs.Ends.{IsAccount}
use Rattle.nv_driver.specs.Account.{process_begun, run_status}
use Rattle.nv_driver.specs.Live.{Lived, StoodAt, Unserved, with_arrivals, with_hands, ending_of}
use Rattle.nv_driver.specs.Refusals.{IsPlanned}
use Rattle.nv_driver.specs.declared.ending.Ending.{Ending}
use Rattle.nv_driver.specs.declared.ending.Ending.TheVariants.{Finished}
use Rattle.nv_cli.specs.Streams.{streams_of, left_of}
use Rattle.nv_cli.specs.inner.Serving.{IsBegunOver, IsUnused, RanOver, HasLeft, Served, told}
use Rattle.nv_cli.proofs.Running.{run_of}

-- what has come is no part of what a script begins with, and where leaders hand over isn't
begun_alike : (setup : Setup) (came : List Arrival) (asked : List ℕ) → start_of_arrivals setup came ≡ start_from (with_hands (with_arrivals setup came) asked)
unfolding start_of_arrivals
begun_alike setup came asked = refl

does_alike : (setup : Setup) (came : List Arrival) (log : List Entry) → doings setup came log ≡ doings (with_arrivals setup came) came log
unfolding doings
does_alike setup came log = refl

-- a script over which nothing comes is what it is without arrivals
bare : (setup : Setup) → setup.arrivals ≡ [] → ◌≡◌ {A = Result Setup ScriptFault} (Ok setup) (Ok (with_arrivals setup []))
bare setup none = ap (λ arrivals. Ok (with_arrivals setup arrivals)) none

-- what came may come, by the reads
abbrev MayCome : List Arrival → Type 0
MayCome arrivals = (list_all is_arrival arrivals ≡ true) × (are_orderly (most_clients true) arrivals ≡ true)

may_come : (clients : Bool) (before now : Option (List (List ℕ))) (faults later_faults : ℕ) (stopped : Option Stopped) (line held : List ℕ) (arrivals : List Arrival) (handed : List ℕ)
    → CameBy clients before now faults later_faults stopped line held arrivals handed → MayCome arrivals
unfolding are_arrivals
may_come false before now faults later_faults stopped line held arrivals handed came = and_parts (list_all is_arrival arrivals) (are_orderly (most_clients true) arrivals) came.1.may_come
may_come true before now faults later_faults stopped line held arrivals handed came = (came.3.limits, ap is_ok came.3.orderly)

-- the script with what was done, where nothing came in it
with_more : (setup : Setup) (done : List Doing) (came : List Arrival) → setup.arrivals ≡ [] → takings done ≡ came → continued_with done setup ≡ with_hands (with_arrivals setup came) (handings done)
with_more setup done came none took =
    ap (λ (old : List Arrival). with_hands (with_arrivals setup (old ++ takings done)) (handings done)) none ∙ ap (λ (new : List Arrival). with_hands (with_arrivals setup new) (handings done)) took

-- a transcript with the lines of what was done
reads_on : (head : List ℕ) (setup : Setup) (done : List Doing) (came : List Arrival) → IsTranscript head setup → setup.arrivals ≡ [] → takings done ≡ came → MayCome (takings done)
    → are_hands (setup.hands ++ handings done) ≡ true → All BringsBytes came → script_of (head ++ notes_on done) ≡ Ok (with_hands (with_arrivals setup came) (handings done))
reads_on head setup done came begins none took may planned bytes =
    (noted_on done head setup begins may.0 (subst (λ (came : List Arrival). All BringsBytes came) (sym took) bytes) (ap (λ (old : List Arrival). are_orderly (most_clients true) (old ++ takings done)) none ∙ may.1) planned).says
    ∙ ap (λ (s : Setup). Ok s) (with_more setup done came none took)

stops : {I O T : Type 0} (run : LiveRun I O T) → stop_of_run run ≡ stop_with (source_stop run) (put_of (output_of run))
stops (Plain run) = refl
stops (Clients run) = refl

pub stops_alike : {I O T : Type 0} (run other : LiveRun I O T) → source_stop run ≡ source_stop other → output_of run ≡ output_of other → stop_of_run run ≡ stop_of_run other
stops_alike run other stopped output = stops run ∙ ap (λ s. stop_with s (put_of (output_of run))) stopped ∙ ap (λ o. stop_with (source_stop other) (put_of o)) output ∙ sym (stops other)

module _ {I O T : Type 0} (took : I → Option (List (List ℕ))) (unread : I → ℕ) (moments : I → Option (List Moment)) (said : O → Option (List ℕ)) (unsaid : O → ℕ) (noted : T → Option (List ℕ)) (unnoted : T → ℕ) where
  module _ (clients : Bool) (setup : Setup) (sound : are_hands setup.hands ≡ true) (head : List ℕ) (begins : IsTranscript head setup) (none : setup.arrivals ≡ []) (before after : Held I O T)
      (first later : LiveRun I O T) (begun : IsBegun took unread moments said unsaid noted unnoted clients head setup.hands before (told took unread moments said unsaid noted unnoted first))
      (ending : Ending) (left : HasLeft noted unnoted later after ending) where
    -- this came by the streams, and so many words
    abbrev Came : List Arrival → List ℕ → Type 0
    Came arrivals handed = CameBy clients (took before.input) (took after.input) (unread before.input) (unread after.input) (source_stop later) (line_of later) (held_by later) arrivals handed

    came_by : (arrivals : List Arrival) (handed : List ℕ) (t : Told) → IsBegun took unread moments said unsaid noted unnoted clients head setup.hands before t
        → CameBy t.clients t.read (took (input_of later)) t.unread (unread (input_of later)) (source_stop later) (line_of later) (held_by later) arrivals handed
        → Came arrivals handed
    came_by arrivals handed t b came =
        subst (λ i. CameBy clients (took before.input) (took i) (unread before.input) (unread i) (source_stop later) (line_of later) (held_by later) arrivals handed) (sym left.input)
        (subst (λ w. CameBy w (took before.input) (took (input_of later)) (unread before.input) (unread (input_of later)) (source_stop later) (line_of later) (held_by later) arrivals handed) b.way
        (subst (λ n. CameBy t.clients (took before.input) (took (input_of later)) n (unread (input_of later)) (source_stop later) (line_of later) (held_by later) arrivals handed) b.unread_is
        (subst (λ r. CameBy t.clients r (took (input_of later)) t.unread (unread (input_of later)) (source_stop later) (line_of later) (held_by later) arrivals handed) b.read came)))

    written_by : (done : List Doing) (t : Told) → IsBegun took unread moments said unsaid noted unnoted clients head setup.hands before t
        → Puts t.said t.unsaid (said_text t.clients (sayings done)) (put_of (output_of later)) (said (sink_in (output_of later))) (unsaid (sink_in (output_of later)))
        → Puts (said before.output) (unsaid before.output) (said_text clients (sayings done)) (put_of (output_of later)) (said after.output) (unsaid after.output)
    written_by done t b written =
        subst (λ o. Puts (said before.output) (unsaid before.output) (said_text clients (sayings done)) (put_of (output_of later)) (said o) (unsaid o)) (sym left.output)
        (subst (λ w. Puts (said before.output) (unsaid before.output) (said_text w (sayings done)) (put_of (output_of later)) (said (sink_in (output_of later))) (unsaid (sink_in (output_of later)))) b.way
        (subst (λ n. Puts (said before.output) n (said_text t.clients (sayings done)) (put_of (output_of later)) (said (sink_in (output_of later))) (unsaid (sink_in (output_of later)))) b.unsaid_is
        (subst (λ s. Puts s t.unsaid (said_text t.clients (sayings done)) (put_of (output_of later)) (said (sink_in (output_of later))) (unsaid (sink_in (output_of later)))) b.said_is written)))

    stood_at : (done : List Doing) (t : Told) → IsBegun took unread moments said unsaid noted unnoted clients head setup.hands before t
        → (m : Moment) → ShownAt took unread moments said unsaid noted unnoted t done m → StoodAt clients (streams_of took unread moments said unsaid noted unnoted before) head done m
    stood_at done t b m s = record {
      earlier = s.earlier;
      later = s.later;
      parted = s.parted;
      line = s.line;
      came = subst (λ w. CameBy w (took before.input) m.read (unread before.input) m.unread None s.line [] (takings s.earlier) (handings s.earlier)) b.way
          (subst (λ n. CameBy t.clients (took before.input) m.read n m.unread None s.line [] (takings s.earlier) (handings s.earlier)) b.unread_is
          (subst (λ r. CameBy t.clients r m.read t.unread m.unread None s.line [] (takings s.earlier) (handings s.earlier)) b.read s.came));
      said = subst (λ w. Puts (said before.output) (unsaid before.output) (said_text w (sayings s.earlier)) (Ok tt) m.said m.unsaid) b.way
          (subst (λ n. Puts (said before.output) n (said_text t.clients (sayings s.earlier)) (Ok tt) m.said m.unsaid) b.unsaid_is
          (subst (λ x. Puts x t.unsaid (said_text t.clients (sayings s.earlier)) (Ok tt) m.said m.unsaid) b.said_is s.written));
      told = s.put;
      noted = s.lines before.transcript head b.noted_is;
    }

    -- so it was at each moment at which more was asked for
    asked_by : (done : List Doing) (t : Told) → IsBegun took unread moments said unsaid noted unnoted clients head setup.hands before t
        → Asked t.moments (moments (input_of later)) (ShownAt took unread moments said unsaid noted unnoted t done)
        → Asked (moments before.input) (moments after.input) (StoodAt clients (streams_of took unread moments said unsaid noted unnoted before) head done)
    asked_by done t b asked =
        subst (λ i. Asked (moments before.input) (moments i) (StoodAt clients (streams_of took unread moments said unsaid noted unnoted before) head done)) (sym left.input)
        (subst (λ x. Asked x (moments (input_of later)) (StoodAt clients (streams_of took unread moments said unsaid noted unnoted before) head done)) b.moments_are
        (asked-where t.moments (moments (input_of later)) (ShownAt took unread moments said unsaid noted unnoted t done) (StoodAt clients (streams_of took unread moments said unsaid noted unnoted before) head done)
        (stood_at done t b) asked))

    -- what was done over the run of a log
    lived : (arrivals : List Arrival) (lengths : List ℕ) (log : List Entry) (done : List Doing) → IsTold (DidRun took unread moments said unsaid noted unnoted) first later setup arrivals log done → handings done ≡ lengths
        → Satisfied (first_stage setup arrivals) (calls_of log) ⊎ IsOver later
        → Lived clients (with_arrivals setup arrivals) lengths log ending (streams_of took unread moments said unsaid noted unnoted before) (streams_of took unread moments said unsaid noted unnoted after)
    lived arrivals lengths log done t handed waited =
        let s = shown took unread moments said unsaid noted unnoted first later done t.is in
        let came = came_by (takings done) (handings done) (told took unread moments said unsaid noted unnoted first) begun s.came in
        let planned = s.planned setup.hands sound (begun.hands_are ∙ ap (λ way. hands_by way setup.hands) (sym begun.way)) in
        record {
          done = done;
          took_all = t.took;
          said_all = t.said ∙ ap sayings (does_alike setup arrivals log);
          handed_over = handed;
          no_sooner = ap (λ (all : List Doing). are_at_most (taken_before 0 all) (taken_before 0 done)) (sym (does_alike setup arrivals log)) ∙ t.no_sooner;
          stopped = source_stop later;
          line = line_of later;
          held = held_by later;
          came = came;
          asked = asked_by done (told took unread moments said unsaid noted unnoted first) begun s.asked;
          said = put_of (output_of later);
          waited = ⊎_elim (λ satisfied. inl satisfied) (λ over. inr (ap is_some (sym (stops later)) ∙ over)) waited;
          written = written_by done (told took unread moments said unsaid noted unnoted first) begun s.written;
          head = head;
          begins = begins.says ∙ bare setup none;
          reads = reads_on head setup done arrivals begins none t.took (may_come clients _ _ _ _ (source_stop later) (line_of later) (held_by later) (takings done) (handings done) came) planned;
          told = put_of left.notes;
          noted = subst (λ sink. Puts (noted before.transcript) (unnoted before.transcript) ((head ++ notes_on done) ++ held_text (line_of later) (held_by later)) (put_of left.notes) (noted sink) (unnoted sink))
              (sym left.transcript) (left.shows (record { sink = before.transcript; put = Ok tt }) (head ++ notes_on done) (s.lines before.transcript head begun.noted_is));
          ends = left.ends ∙ ap (λ stopped. ending_of stopped (put_of (output_of later)) (put_of left.notes)) (stops later);
        }

  -- the versions of a live run ran over what came
  pub served_by : (limits : Limits) (clients : Bool) (setup : Setup) (head : List ℕ) (rules : Option (List Op)) (hands : List ℕ) (versions : List (Running Proc)) (machines : List Machine)
      (before after : Held I O T) (ending : Ending) (kernel : Logged (Coming (LiveRun I O T))) (account : Ran (Logged (Coming (LiveRun I O T)))) (sink : Option (List ℕ)) (faults status : ℕ)
      → status ≡ run_status (map standing_of account.versions.items)
      → map process_of versions ≡ map (process_begun limits setup) machines → is_script setup ≡ true → IsTranscript head setup → setup.arrivals ≡ [] → IsPlanned setup hands
      → IsBegunOver took unread moments said unsaid noted unnoted clients setup head before kernel
      → RanOver (told took unread moments said unsaid noted unnoted) (DidRun took unread moments said unsaid noted unnoted) clients kernel rules limits.calls hands versions account
      → Satisfied (first_stage account.kernel.setup account.kernel.answers.came) (calls_of account.kernel.log) ⊎ IsOver account.kernel.answers.outside
      → HasLeft noted unnoted account.kernel.answers.outside after ending
      → Served limits clients setup rules machines (streams_of took unread moments said unsaid noted unnoted before) sink faults status sink faults
      (streams_of took unread moments said unsaid noted unnoted after, ending)
  served_by limits clients setup head rules hands versions machines before after ending kernel account sink faults status ends are script begins none planned begun ran waited left =
      let k = account.kernel in
      let set : k.setup ≡ setup = ap (λ b. b.setup) ran.same ∙ begun.setup_is in
      let sound = (script-keeps setup script).hands in
      let first : IsBegun took unread moments said unsaid noted unnoted clients head setup.hands before (told took unread moments said unsaid noted unnoted k.answers.begun) =
      subst (λ t. IsBegun took unread moments said unsaid noted unnoted clients head setup.hands before t) (sym (ap (λ b. b.told) ran.same)) begun.begun in
      let all = ran.account_is.asks_for.1 [] begun.unasked (begun-none took unread moments said unsaid noted unnoted k.answers.begun (begun-fresh took unread moments said unsaid noted unnoted clients head setup.hands before (told took unread moments said unsaid noted unnoted k.answers.begun) sound first)) in
      record {
        arrivals = k.answers.came;
        asked = ran.account_is.asked;
        account = record { log = k.log; lines = map standing_of account.versions.items };
        only = ran.account_is.only;
        is_run = run_of clients limits (with_hands (with_arrivals setup k.answers.came) ran.account_is.asked) rules machines (hands ++ ran.account_is.asked) versions account.versions.items k.log
            (ap (λ planned. planned ++ ran.account_is.asked) planned.same)
            (subst (λ start. IsAccount threads (judge_of rules) start limits.calls (hands ++ ran.account_is.asked) versions account.versions.items k.log)
            (ap (λ s. start_of_arrivals s k.answers.came) set ∙ begun_alike setup k.answers.came ran.account_is.asked) ran.account_is.is_account) ran.account_is.stays
            are;
        says = record { put = Ok tt; ends = ends; written = puts-none sink faults };
        lived = lived clients setup sound head begins none before after k.answers.begun k.answers.outside first ending left k.answers.came ran.account_is.asked k.log all.0
            (subst (λ s. IsTold (DidRun took unread moments said unsaid noted unnoted) k.answers.begun k.answers.outside s k.answers.came k.log all.0) set all.1) all.2
            (subst (λ s. Satisfied (first_stage s k.answers.came) (calls_of k.log) ⊎ IsOver k.answers.outside) set waited);
      }

  -- an outside that was only begun over these streams has nothing else in its own
  pub unused_by : (clients : Bool) (head hands : List ℕ) (streams given : Held I O T) (live : LiveRun I O T)
      → IsBegun took unread moments said unsaid noted unnoted clients head hands streams (told took unread moments said unsaid noted unnoted live)
      → given.input ≡ input_of live → given.output ≡ sink_in (output_of live) → given.transcript ≡ sink_in (notes_of live)
      → IsUnused took unread moments said unsaid noted unnoted head streams given
  unused_by clients head hands streams given (Plain run) b input output transcript = record {
    read = ap took input ∙ b.read;
    unread_is = ap unread input ∙ b.unread_is;
    moments_are = ap moments input ∙ b.moments_are;
    said_is = ap said output ∙ b.said_is;
    unsaid_is = ap unsaid output ∙ b.unsaid_is;
    text = head;
    begins = inr refl;
    told_so_far = run.transcript.writer.put;
    noted_is = subst (λ sink. Puts (noted streams.transcript) (unnoted streams.transcript) head run.transcript.writer.put (noted sink) (unnoted sink)) (sym transcript) b.noted_is;
  }
  unused_by clients head hands streams given (Clients run) b input output transcript = record {
    read = ap took input ∙ b.read;
    unread_is = ap unread input ∙ b.unread_is;
    moments_are = ap moments input ∙ b.moments_are;
    said_is = ap said output ∙ b.said_is;
    unsaid_is = ap unsaid output ∙ b.unsaid_is;
    text = head;
    begins = inr refl;
    told_so_far = run.transcript.writer.put;
    noted_is = subst (λ sink. Puts (noted streams.transcript) (unnoted streams.transcript) head run.transcript.writer.put (noted sink) (unnoted sink)) (sym transcript) b.noted_is;
  }

  -- streams that nothing touched
  pub unused_same : (head : List ℕ) (streams given : Held I O T) → given ≡ streams → IsUnused took unread moments said unsaid noted unnoted head streams given
  unused_same head streams given same = subst (λ (s : Held I O T). IsUnused took unread moments said unsaid noted unnoted head streams s) (sym same) (record {
    read = refl;
    unread_is = refl;
    moments_are = refl;
    said_is = refl;
    unsaid_is = refl;
    text = [];
    begins = inl refl;
    told_so_far = Ok tt;
    noted_is = puts-none (noted streams.transcript) (unnoted streams.transcript);
  })

  -- over streams that are unused nobody was served, where the head is that of a script over which nothing comes
  pub unserved_by : (head : List ℕ) (setup : Setup) (streams given : Held I O T) → IsTranscript head setup → setup.arrivals ≡ [] → IsUnused took unread moments said unsaid noted unnoted head streams given
      → Unserved (streams_of took unread moments said unsaid noted unnoted streams) (streams_of took unread moments said unsaid noted unnoted given)
  unserved_by head setup streams given begins none u = record {
    read = u.read;
    unread = u.unread_is;
    moments = u.moments_are;
    said = u.said_is;
    unsaid = u.unsaid_is;
    head = u.text;
    begins = ⊎_elim (λ empty. inl empty) (λ is. inr (setup, ap script_of is ∙ begins.says ∙ bare setup none)) u.begins;
    told = u.told_so_far;
    noted = u.noted_is;
  }

  -- a kernel that came back as it was begun over these streams
  pub unused_after : (clients : Bool) (setup : Setup) (head : List ℕ) (streams given : Held I O T) (kernel back : Logged (Coming (LiveRun I O T))) (live : LiveRun I O T)
      → IsBegunOver took unread moments said unsaid noted unnoted clients setup head streams kernel → back ≡ kernel → live ≡ back.answers.outside
      → given.input ≡ input_of live → given.output ≡ sink_in (output_of live) → given.transcript ≡ sink_in (notes_of live)
      → IsUnused took unread moments said unsaid noted unnoted head streams given
  unused_after clients setup head streams given kernel back live b same is input output transcript =
      unused_by clients head setup.hands streams given live
      (subst (λ (l : LiveRun I O T). IsBegun took unread moments said unsaid noted unnoted clients head setup.hands streams (told took unread moments said unsaid noted unnoted l))
      (sym (is ∙ ap (λ (k : Logged (Coming (LiveRun I O T))). k.answers.outside) same ∙ b.still)) b.begun) input output transcript

  -- what a run leaves that wanted memory
  pub starved_left : (head : List ℕ) (setup : Setup) (streams given : Held I O T) (left : Held I O T × Ending) → IsTranscript head setup → setup.arrivals ≡ []
      → IsUnused took unread moments said unsaid noted unnoted head streams given → left ≡ (given, Finished)
      → Unserved (streams_of took unread moments said unsaid noted unnoted streams) (left_of took unread moments said unsaid noted unnoted left).0 × ((left_of took unread moments said unsaid noted unnoted left).1 ≡ Finished)
  starved_left head setup streams given left begins none u same = (
    subst (λ (l : Held I O T × Ending). Unserved (streams_of took unread moments said unsaid noted unnoted streams) (streams_of took unread moments said unsaid noted unnoted l.0)) (sym same) (unserved_by head setup streams given begins none u),
    ap (λ (l : Held I O T × Ending). l.1) same,
  )
