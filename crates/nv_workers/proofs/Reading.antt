-- A reader's version with the event that its seat has read.
use Rattle.std.proofs.Common.{◌≡◌, ◌∙◌, sym, ap, subst, refl, ℕ, ◌+◌, ◌<◌, ◌⊎◌, inl, inr, Bool, true, false, List, [], ◌∷◌, ◌++◌, map, length, take, Option, Some, None, arith, append-nil, length-append}
use Rattle.std.proofs.lemmas.List.{map-append}
use Rattle.std.specs.Prelude.{is_some, Contains}
use Rattle.nv_calls.specs.Calls.{Entry}
use Rattle.nv_calls.specs.Logs.{InRange, IsLawful, IsNew, MayFollow, child_of, live_after}
use Rattle.nv_calls.specs.Learning.{FromAny}
use Rattle.nv_calls.proofs.LearningLaws.{as_told, legal_told, legal_front}
use Rattle.nv_calls.specs.declared.kernel.SyscallKernel.{Ghosts}
use Rattle.nv_words.specs.Spelling.{spell, IsWhole}
use Rattle.nv_words.proofs.SpellLaws.{spell_one, spell_whole}
use Rattle.nv_room.specs.declared.view.View.{View}
use Rattle.nv_room.specs.declared.room.Room.{Room}
use Rattle.nv_room.specs.declared.room.Reader.{Reader}
use Rattle.nv_room.specs.Steps.{SpellLawful, TellsEnd, one_on}
use Rattle.nv_room.specs.Seats.{IsOfRoom, SameReader, view, version_of_reader, hands_of, on_demand_of}
use Rattle.nv_threads.specs.Threads.{Proc, threads}
use Rattle.nv_threads.proofs.ThreadLaws.{thread_laws}
use Rattle.nv_replay.specs.declared.fate.Fate.{Fate}
use Rattle.nv_replay.specs.declared.fate.Fate.TheVariants.{LetGo}
use Rattle.nv_replay.specs.LettingGo.{is_let_go, stop_of}
use Rattle.nv_replay.proofs.Stops.{tells_stays, track_tells}
use Rattle.nv_rules.specs.declared.outcome.Verdict.{Verdict}
use Rattle.nv_replay.specs.declared.version.Followed.{Followed}
use Rattle.nv_replay.specs.declared.version.Followed.TheVariants.{Matched, Rewrote, Skipped, Took, Dropped}
use Rattle.nv_replay.specs.Follow.{Follower, Judge, IsCounted, decided, fresh}
use Rattle.nv_replay.specs.Tracks.{track_next}
use Rattle.nv_replay.specs.Sequence.{is_going}
use Rattle.nv_replay.specs.Version.{Running}
use Rattle.nv_replay.proofs.Turning.{get_last}
use Rattle.nv_replay.proofs.Extending.{take_prefix_of}
use Rattle.nv_replay.proofs.Survivor.{lawful_prefix}
use Rattle.nv_workers.specs.Ends.{IsStage, ends_of, AreHandedOn, AreHandedBy, AsPlanned}
use Rattle.nv_workers.specs.Turns.{held_list, IsReaders}
use Rattle.nv_workers.specs.Working.{HoldsNext, HasEnded, FollowsOn, HasFound}
use Rattle.nv_workers.specs.Follows.{AfterTurn, IsWaiting}
use Rattle.nv_workers.specs.declared.follows.Next.{Next}
use Rattle.nv_workers.specs.declared.follows.Next.TheVariants.{Moved, Ahead, Waits, Leads, Hands, Leaves, Left}
use Rattle.nv_workers.proofs.Keeping.{with_next_held, decides, reads_on, reads_held, parts_on, parts_still}
use Rattle.nv_workers.proofs.Closed.{never_closed}
use Rattle.nv_workers.proofs.Spelt.{same_spelt, long_as, parted}

-- one event more is seen
pub longer : (old new : List (List ℕ)) (read : List ℕ) → new ≡ old ++ read ∷ [] → length old < length new
longer old new read e = omega (arith, length-append old (read ∷ []), ap (λ (x : List (List ℕ)). length x) e)

pub seen_by : (x : Followed) (t : Verdict) (old new : Follower Proc) → (x ≡ Matched) ⊎ ((x ≡ Skipped) ⊎ (x ≡ Took)) → IsCounted t x old new → new.seen ≡ old.seen + 1
seen_by Matched t old new h k = k.0
seen_by Skipped t old new h k = k.0
seen_by Took t old new h k = k.0
seen_by (Rewrote w) t old new (inl h) k = cc
seen_by (Rewrote w) t old new (inr (inl h)) k = cc
seen_by (Rewrote w) t old new (inr (inr h)) k = cc
seen_by (Dropped f) t old new (inl h) k = cc
seen_by (Dropped f) t old new (inr (inl h)) k = cc
seen_by (Dropped f) t old new (inr (inr h)) k = cc

pub off_from : (o f : Option Fate) → is_some o ≡ true → o ≡ f → is_going f ≡ false
off_from None f h e = cc
off_from (Some x) f h e = ap is_going (sym e)

module _ (judges : ℕ → Judge) (most : ℕ) (hands : List ℕ) (on_demand : Bool) {T : Type 0} (i : ℕ) (p : Proc) (v : Running Proc) (w : View T) where
  -- a reader's version with the event that is held
  pub record Held (buf : List ℕ) : Type 0 where
    pub log : List Entry
    pub event : Entry
    pub spelt : map spell log ≡ w.seen
    pub lawful : IsLawful (log ++ event ∷ [])
    pub read : w.read ≡ spell event
    pub words : buf ≡ spell event
    pub led : v.led ≡ map ends_of w.spans
    pub handed_on : AreHandedOn w.spans
    pub as_planned : AsPlanned on_demand hands w.spans
    pub reading : FromAny log (λ start. IsReaders threads judges start most hands i p v log (Some event))

  held_by : (buf : List ℕ) (log : List Entry) (next : Option Entry) → map spell log ≡ w.seen → IsLawful (log ++ held_list next) → HoldsNext true w.read buf next
      → v.led ≡ map ends_of w.spans → AreHandedOn w.spans → AsPlanned on_demand hands w.spans → FromAny log (λ start. IsReaders threads judges start most hands i p v log next) → Held buf
  held_by buf log None s l h n o u r = absurd h
  held_by buf log (Some e) s l h n o u r = record { log = log; event = e; spelt = s; lawful = l; read = h.0; words = h.1; led = n; handed_on = o; as_planned = u; reading = r }

  -- a reader's version where no word of a further event is read
  pub record Bare : Type 0 where
    pub log : List Entry
    pub spelt : map spell log ≡ w.seen
    pub lawful : IsLawful log
    pub read : w.read ≡ []
    pub led : v.led ≡ map ends_of w.spans
    pub handed_on : AreHandedOn w.spans
    pub as_planned : AsPlanned on_demand hands w.spans
    pub reading : FromAny log (λ start. IsReaders threads judges start most hands i p v log None)

  bare_by : (buf : List ℕ) (log : List Entry) (next : Option Entry) → map spell log ≡ w.seen → IsLawful (log ++ held_list next) → HoldsNext false w.read buf next
      → v.led ≡ map ends_of w.spans → AreHandedOn w.spans → AsPlanned on_demand hands w.spans → FromAny log (λ start. IsReaders threads judges start most hands i p v log next) → Bare
  bare_by buf log None s l h n o u r = record { log = log; spelt = s; lawful = subst IsLawful (append-nil log) l; read = h; led = n; handed_on = o; as_planned = u; reading = r }
  bare_by buf log (Some e) s l h n o u r = absurd h

-- a version that has ended has its fate
pub has_ended : {judges : ℕ → Judge} {T : Type 0} {most : ℕ} {hands : List ℕ} {on_demand : Bool} {i : ℕ} {p : Proc} {v : Running Proc} {w : View T}
    → HasEnded judges most hands on_demand i p v w → is_going v.at.fate ≡ false
has_ended h = (h.done (as_told h.log) (legal_told h.log h.lawful)).ended

-- a version that follows on has none
pub follows_fate : {judges : ℕ → Judge} {K : Type 0} {G : Ghosts K} {room : Room K} {most : ℕ} {p : Proc} {v : Running Proc} {r : Reader K G} {held : Bool} {buf : List ℕ}
    → FollowsOn judges room most p v r held buf → v.at.fate ≡ None
follows_fate f = (f.reading (as_told f.log) (legal_told f.log (lawful_prefix f.log (held_list f.next) f.lawful))).on

pub none_held : {judges : ℕ → Judge} {K : Type 0} {G : Ghosts K} {room : Room K} {most : ℕ} {p : Proc} {v : Running Proc} {r : Reader K G} {held : Bool} {buf : List ℕ}
    → held ≡ false → FollowsOn judges room most p v r held buf → FollowsOn judges room most p v r false buf
none_held {judges} {K} {G} {room} {most} {p} {v} {r} {held} {buf} h f = subst (λ (b : Bool). FollowsOn judges room most p v r b buf) h f

module _ {judges : ℕ → Judge} {most : ℕ} {hands : List ℕ} {on_demand : Bool} {T : Type 0} {i : ℕ} {p : Proc} {v : Running Proc} {w : View T} {buf : List ℕ}
    (h : Held judges most hands on_demand i p v w buf) where
  -- what holds from whatever start
  pub held_reading : IsReaders threads judges (as_told h.log) most hands i p v h.log (Some h.event)
  held_reading = h.reading (as_told h.log) (legal_told h.log (lawful_prefix h.log (h.event ∷ []) h.lawful))

  may : MayFollow (length h.log) (live_after (take (length h.log) (h.log ++ h.event ∷ []))) h.event
  may = h.lawful (length h.log) h.event (get_last h.log h.event)

  pub whole_buf : IsWhole buf
  whole_buf = subst IsWhole (sym h.words) (spell_whole h.event may.range).0

  pub whole_read : IsWhole w.read
  whole_read = subst IsWhole (sym h.read) (spell_whole h.event may.range).0

  -- the buffer's event is the one that is held
  pub event_is : (e : Entry) → spell e ≡ buf → InRange e → e ≡ h.event
  event_is e s r = spell_one e h.event r may.range (s ∙ h.words)

  pub stamp_is : h.event.stamp ≡ v.at.seen
  stamp_is = may.stamp ∙ sym held_reading.seen

  pub is_below : v.at.seen < 500000000
  is_below = rw (held_reading.seen) may.few

  lives_as : threads.live v.at.process ≡ live_after (take (length h.log) (h.log ++ h.event ∷ []))
  lives_as =
      let all : take v.at.seen h.log ≡ take (length h.log) (h.log ++ h.event ∷ []) = ap (λ (n : ℕ). take n h.log) held_reading.seen
      ∙ sym (take_prefix_of h.log (h.event ∷ []) (length h.log) (omega arith)) in
      held_reading.in_step.live held_reading.on ∙ ap live_after all

  pub is_live : Contains (threads.live v.at.process) h.event.call.tid
  is_live = subst (λ (x : List ℕ). Contains x h.event.call.tid) (sym lives_as) may.lives

  -- a thread that it makes is a new one
  pub is_new : IsNew (threads.live v.at.process) (child_of h.event)
  is_new = subst (λ (x : List ℕ). IsNew x (child_of h.event)) (sym lives_as) may.new

  pub spelt_on : map spell (h.log ++ h.event ∷ []) ≡ w.seen ++ w.read ∷ []
  spelt_on = map-append spell h.log (h.event ∷ []) ∙ (λ i. h.spelt i ++ (sym h.read) i ∷ [])

  long_seen : length w.seen ≡ length h.log
  long_seen = sym (ap (λ (x : List (List ℕ)). length x) h.spelt) ∙ long_as h.log

  -- the version after its decision on the event
  module _ (new : Running Proc) (k : new ≡ record v { at = decided threads (judges i) h.event v.at }) where
    -- Rewrote: the event stays
    pub rewrote : new.at.seen ≡ v.at.seen → new.at.fate ≡ None → FromAny h.log (λ start. IsReaders threads judges start most hands i p new h.log (Some h.event))
    rewrote s n = λ start legal. reads_held threads thread_laws judges start most hands h.event (h.reading start legal) (inr refl) h.lawful k s n

    -- Matched or Skipped: the event is consumed
    pub consumes : new.at.seen ≡ v.at.seen + 1 → new.at.fate ≡ None
        → FromAny (h.log ++ h.event ∷ []) (λ start. IsReaders threads judges start most hands i p new (h.log ++ h.event ∷ []) None)
    consumes s n = λ start legal.
        reads_on threads thread_laws judges start most hands h.event (h.reading start (legal_front start h.log (h.event ∷ []) legal)) (inr refl) h.lawful k s n

    stage_now : IsStage (track_next threads (judges i) new.led (h.log ++ h.event ∷ [])) (fresh p) new.at
    stage_now = (decides threads thread_laws judges (as_told h.log) most hands h.event held_reading (inr refl) h.lawful k).0

    stays_now : is_let_go new.at.fate ≡ false
    stays_now = tells_stays new.at.fate 0 (ap (λ (x : Follower Proc). stop_of x.fate 0) (sym stage_now.is)
        ∙ track_tells threads (judges i) 0 new.led (h.log ++ h.event ∷ []) stage_now.steps (fresh p) refl)

    idle_now : new.leading ≡ false
    idle_now = ap (λ (x : Running Proc). x.leading) k ∙ held_reading.idle

    pub led_now : new.led ≡ map ends_of w.spans
    led_now = ap (λ (x : Running Proc). x.led) k ∙ h.led

    -- it exited with the event, which is consumed
    pub exits : new.at.seen ≡ v.at.seen + 1 → is_going new.at.fate ≡ false → HasEnded judges most hands on_demand i p new (one_on w)
    exits n e = record {
      log = h.log ++ h.event ∷ [];
      spelt = spelt_on;
      lawful = h.lawful;
      count = omega (arith, n, held_reading.seen, long_seen, length-append w.seen (w.read ∷ []));
      led = led_now;
      as_planned = h.as_planned;
      stays = λ off. stays_now;
      done = λ start legal. record {
        ended = e;
        count = omega (arith, n, held_reading.seen, length-append h.log (h.event ∷ []));
        spans = led_now;
        told = inl (record {
          idle = idle_now;
          handed_on = h.handed_on;
          handed = parts_on threads thread_laws judges start most hands h.event (h.reading start (legal_front start h.log (h.event ∷ []) legal)) (inr refl) h.lawful k;
          stage = inl stage_now;
        });
      };
    }

    -- it was dropped at the event, whose words stay read
    pub dropped : new.at.seen ≡ v.at.seen → is_going new.at.fate ≡ false → HasEnded judges most hands on_demand i p new w
    dropped n e = record {
      log = h.log;
      spelt = h.spelt;
      lawful = lawful_prefix h.log (h.event ∷ []) h.lawful;
      count = n ∙ (held_reading.seen ∙ sym long_seen);
      led = led_now;
      as_planned = h.as_planned;
      stays = λ off. stays_now;
      done = λ start legal. record {
        ended = e;
        count = n ∙ held_reading.seen;
        spans = led_now;
        told = inl (record {
          idle = idle_now;
          handed_on = h.handed_on;
          handed = parts_still threads thread_laws judges start most hands h.event (h.reading start legal) (inr refl) h.lawful k;
          stage = inr (inl (record { event = h.event; fit = may.range; words = h.read; stage = stage_now }));
        });
      };
    }

-- the event that was read follows the log
pub read_next : (log : List Entry) (seen : List (List ℕ)) → map spell log ≡ seen → IsLawful log → (words : List ℕ) → SpellLawful (seen ++ words ∷ [])
    → (e : Entry) × (spell e ≡ words) × IsLawful (log ++ e ∷ [])
read_next log seen s l words (h, spelt, law) =
    let q = parted h seen words spelt in
    let lawful : IsLawful (q.prefix ++ q.last ∷ []) = subst IsLawful q.all law in
    let same : q.prefix ≡ log = same_spelt q.prefix log (lawful_prefix q.prefix (q.last ∷ []) lawful) l (q.seen_is ∙ sym s) in
    (q.last, q.words_are, subst (λ (x : List Entry). IsLawful (x ++ q.last ∷ [])) same lawful)

module _ {judges : ℕ → Judge} {K : Type 0} {G : Ghosts K} {room : Room K} {most : ℕ} {p : Proc} {v : Running Proc} {r : Reader K G} {buf : List ℕ} where
  pub held_of : FollowsOn judges room most p v r true buf → Held judges most (hands_of room) (on_demand_of room) (version_of_reader r) p v (view r) buf
  held_of f = held_by judges most (hands_of room) (on_demand_of room) (version_of_reader r) p v (view r) buf f.log f.next f.spelt f.lawful f.holds f.led f.handed_on f.as_planned f.reading

  -- after a decision on the event in the buffer
  module _ (f : FollowsOn judges room most p v r true buf) (e : Entry) (s : spell e ≡ buf) (n : InRange e) (new : Running Proc)
      (k : new ≡ record v { at = decided threads (judges v.index) e v.at }) where
    held : Held judges most (hands_of room) (on_demand_of room) (version_of_reader r) p v (view r) buf
    held = held_of f

    by_held : new ≡ record v { at = decided threads (judges (version_of_reader r)) held.event v.at }
    by_held = k ∙ ap (λ (i : ℕ). record v { at = decided threads (judges i) e v.at }) (held_reading held).index
        ∙ ap (λ (x : Entry). record v { at = decided threads (judges (version_of_reader r)) x v.at }) (event_is held e s n)

    pub after_rewrote : new.at.seen ≡ v.at.seen → new.at.fate ≡ None → FollowsOn judges room most p new r true buf
    after_rewrote h o = record {
      of = f.of;
      log = held.log;
      next = Some held.event;
      spelt = held.spelt;
      lawful = held.lawful;
      holds = (held.read, held.words);
      led = led_now held new by_held;
      handed_on = held.handed_on;
      as_planned = held.as_planned;
      reading = rewrote held new by_held h o;
    }

    pub after_consumed : (r2 : Reader K G) → IsOfRoom room r2 → SameReader r r2 → view r2 ≡ one_on (view r) → new.at.seen ≡ v.at.seen + 1
        → new.at.fate ≡ None → FollowsOn judges room most p new r2 false buf
    after_consumed r2 of same w h o =
        let log : List Entry = held.log ++ held.event ∷ [] in
        record {
          of = of;
          log = log;
          next = None;
          spelt = spelt_on held ∙ sym (ap (λ (x : View K). x.seen) w);
          lawful = subst IsLawful (sym (append-nil log)) held.lawful;
          holds = ap (λ (x : View K). x.read) w;
          led = led_now held new by_held ∙ sym (ap (λ (x : View K). map ends_of x.spans) w);
          handed_on = subst (λ (x : View K). AreHandedOn x.spans) (sym w) held.handed_on;
          as_planned = subst (λ (x : View K). AsPlanned (on_demand_of room) (hands_of room) x.spans) (sym w) held.as_planned;
          reading = subst (λ (i : ℕ). FromAny log (λ start. IsReaders threads judges start most (hands_of room) i p new log None)) (sym same.3) (consumes held new by_held h o);
        }

    pub after_exit : (r2 : Reader K G) → SameReader r r2 → view r2 ≡ one_on (view r) → new.at.seen ≡ v.at.seen + 1 → is_going new.at.fate ≡ false
        → HasEnded judges most (hands_of room) (on_demand_of room) (version_of_reader r2) p new (view r2)
    after_exit r2 same w n o =
        subst (λ (i : ℕ). HasEnded judges most (hands_of room) (on_demand_of room) i p new (view r2)) (sym same.3) (subst (λ (x : View K). HasEnded judges most (hands_of room) (on_demand_of room) (version_of_reader r) p new x) (sym w)
        (exits held new by_held n o))

    pub after_drop : new.at.seen ≡ v.at.seen → is_going new.at.fate ≡ false → HasEnded judges most (hands_of room) (on_demand_of room) (version_of_reader r) p new (view r)
    after_drop n o = dropped held new by_held n o

holds_none : (read buf read2 buf2 : List ℕ) (next : Option Entry) → HoldsNext false read buf next → read2 ≡ [] → HoldsNext false read2 buf2 next
holds_none read buf read2 buf2 None h e = e
holds_none read buf read2 buf2 (Some x) h e = absurd h

module _ {judges : ℕ → Judge} {K : Type 0} {G : Ghosts K} {room : Room K} {most : ℕ} {p : Proc} {v : Running Proc} {r : Reader K G} {buf : List ℕ}
    (f : FollowsOn judges room most p v r false buf) where
  pub bare : Bare judges most (hands_of room) (on_demand_of room) (version_of_reader r) p v (view r)
  bare = bare_by judges most (hands_of room) (on_demand_of room) (version_of_reader r) p v (view r) buf f.log f.next f.spelt f.lawful f.holds f.led f.handed_on f.as_planned f.reading

  -- what holds from whatever start
  pub bare_reading : IsReaders threads judges (as_told bare.log) most (hands_of room) (version_of_reader r) p v bare.log None
  bare_reading = bare.reading (as_told bare.log) (legal_told bare.log bare.lawful)

  -- a version without a fate stands where threads live
  pub lives_on : TellsEnd (view r).seen → ⊥
  lives_on (h, spelt, law, dead) =
      let same : h ≡ bare.log = same_spelt h bare.log law bare.lawful (spelt ∙ sym bare.spelt) in
      never_closed threads thread_laws judges (as_told bare.log) most (hands_of room) (version_of_reader r) p v bare.log bare_reading
      (subst (λ (x : List Entry). live_after x ≡ []) same dead)

  -- the reader has looked, and has consumed nothing
  module _ (r2 : Reader K G) (of : IsOfRoom room r2) (same : SameReader r r2) (seen : (view r2).seen ≡ (view r).seen) (spans : (view r2).spans ≡ (view r).spans) where
    -- where no event is found the version follows on as it stands
    pub found_none : (buf2 : List ℕ) → (view r2).read ≡ [] → FollowsOn judges room most p v r2 false buf2
    found_none buf2 read = record {
      of = of;
      log = f.log;
      next = f.next;
      spelt = f.spelt ∙ sym seen;
      lawful = f.lawful;
      holds = holds_none (view r).read buf (view r2).read buf2 f.next f.holds read;
      led = f.led ∙ sym (ap (map ends_of) spans);
      handed_on = subst AreHandedOn (sym spans) f.handed_on;
      as_planned = subst (AsPlanned (on_demand_of room) (hands_of room)) (sym spans) f.as_planned;
      reading = subst (λ (i : ℕ). FromAny f.log (λ start. IsReaders threads judges start most (hands_of room) i p v f.log f.next)) (sym same.3) f.reading;
    }

    pub found_waiting : (buf2 : List ℕ) → (view r2).read ≡ [] → (next : Next) → IsWaiting next → AfterTurn judges room most p v r2 false buf2 next
    found_waiting buf2 read Moved w = absurd w
    found_waiting buf2 read Ahead w = found_none buf2 read
    found_waiting buf2 read Waits w = found_none buf2 read
    found_waiting buf2 read Leads w = absurd w
    found_waiting buf2 read Hands w = absurd w
    found_waiting buf2 read Leaves w = absurd w
    found_waiting buf2 read Left w = absurd w

    pub found_event : (words : List ℕ) → (view r2).read ≡ words → SpellLawful ((view r2).seen ++ words ∷ []) → HasFound judges room most p v r2 words
    found_event words read tells =
        let spelt : map spell bare.log ≡ (view r2).seen = bare.spelt ∙ sym seen in
        let n = read_next bare.log (view r2).seen spelt bare.lawful words tells in
        record {
          of = of;
          log = bare.log;
          event = n.0;
          spelt = spelt;
          lawful = n.2;
          read = read ∙ sym n.1;
          words = sym n.1;
          led = bare.led ∙ sym (ap (map ends_of) spans);
          handed_on = subst AreHandedOn (sym spans) bare.handed_on;
          as_planned = subst (AsPlanned (on_demand_of room) (hands_of room)) (sym spans) bare.as_planned;
          reading = subst (λ (i : ℕ). FromAny bare.log (λ start. IsReaders threads judges start most (hands_of room) i p v bare.log None)) (sym same.3) bare.reading;
        }

-- a version whose reader has found the next event
module _ {judges : ℕ → Judge} {K : Type 0} {G : Ghosts K} {room : Room K} {most : ℕ} {p : Proc} {v : Running Proc} {r : Reader K G} {buf : List ℕ}
    (f : HasFound judges room most p v r buf) where
  -- it goes on, and decides
  pub found_on : FollowsOn judges room most p v r true buf
  found_on = record {
    of = f.of;
    log = f.log;
    next = Some f.event;
    spelt = f.spelt;
    lawful = f.lawful;
    holds = (f.read, f.words);
    led = f.led;
    handed_on = f.handed_on;
    as_planned = f.as_planned;
    reading = λ start legal. with_next_held threads thread_laws judges start most (hands_of room) f.event (f.reading start legal);
  }

  -- what holds from whatever start
  found_front : IsLawful f.log
  found_front = lawful_prefix f.log (f.event ∷ []) f.lawful

  found_reading : IsReaders threads judges (as_told f.log) most (hands_of room) (version_of_reader r) p v f.log None
  found_reading = f.reading (as_told f.log) (legal_told f.log found_front)

  pub found_idle : (v.at.fate ≡ None) × (v.leading ≡ false)
  found_idle = (found_reading.on, found_reading.idle)

  -- it is let go before the event
  pub found_let_go : (new : Running Proc) → new ≡ record v { at = record v.at { fate = Some LetGo } } → on_demand_of room ≡ true
      → HasEnded judges most (hands_of room) (on_demand_of room) (version_of_reader r) p new (view r)
  found_let_go new k on =
      let at : new.at ≡ record v.at { fate = Some LetGo } = ap (λ (x : Running Proc). x.at) k in
      let led : new.led ≡ v.led = ap (λ (x : Running Proc). x.led) k in
      let seen : new.at.seen ≡ length f.log = ap (λ (x : Follower Proc). x.seen) at ∙ found_reading.seen in
      let may = f.lawful (length f.log) f.event (get_last f.log f.event) in
      record {
        log = f.log;
        spelt = f.spelt;
        lawful = found_front;
        count = seen ∙ (sym (long_as f.log) ∙ ap (λ (x : List (List ℕ)). length x) f.spelt);
        led = led ∙ f.led;
        as_planned = f.as_planned;
        stays = λ off. let z : true ≡ false = sym on ∙ off in cc;
        done = λ start legal.
            let was = f.reading start legal in
            record {
              ended = ap (λ (x : Follower Proc). is_going x.fate) at;
              count = seen;
              spans = led ∙ f.led;
              told = inl (record {
                idle = ap (λ (x : Running Proc). x.leading) k ∙ was.idle;
                handed_on = f.handed_on;
                handed = subst (λ (x : List (ℕ × ℕ)). AreHandedBy threads judges start most (hands_of room) (version_of_reader r) p x f.log) (sym led) was.handed;
                stage = inr (inr (record {
                  event = f.event;
                  fit = may.range;
                  words = f.read;
                  before = v.at;
                  on = was.on;
                  seen = was.seen;
                  stage = subst (λ (x : List (ℕ × ℕ)). IsStage (track_next threads (judges (version_of_reader r)) x f.log) (fresh p) v.at) (sym led)
                      (subst (λ (x : List Entry). IsStage (track_next threads (judges (version_of_reader r)) v.led x) (fresh p) v.at) (append-nil f.log) was.stage);
                  left = at;
                }));
              });
            };
      }
