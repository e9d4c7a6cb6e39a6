-- How what is done goes on in turn: the source is asked for more where all that was done stands in the sinks.
use Rattle.std.proofs.Common.{◌≡◌, ℕ, false, is_some, List, [], ◌++◌, Option, None, Some, Ok, Err, append-nil, append_assoc, refl, sym, ap, subst, ◌∙◌}
use Rattle.nv_script.specs.Doings.{Doing}
use Rattle.nv_live.specs.declared.live.Live.{Live}
use Rattle.nv_live.specs.declared.clients.Clients.{Clients}
use Rattle.nv_live.specs.declared.coming_lines.ComingLines.{ComingLines}
use Rattle.nv_live.specs.declared.incoming.Incoming.{Incoming}
use Rattle.nv_live.specs.declared.incoming.Stopped.{Stopped}
use Rattle.nv_outside.specs.Sink.{Put}
use Rattle.nv_live.specs.Clients.{stop_among, DidLines, DoesLines, StoodAmong, DidLinesInTurn, DoesLinesInTurn}
use Rattle.nv_live.specs.ComingLines.{held_from, ComesOn, AskedOn}
use Rattle.nv_live.specs.Incoming.{held_of, ReadOnce}
use Rattle.nv_live.specs.Live.{stop_with, stop_in, Did, DoesOn, StoodIn, DidInTurn, DoesInTurn}
use Rattle.nv_live.specs.Source.{Moment, moment_of, Asked}
use Rattle.nv_live.proofs.Asking.{asked-none, asked-then, asked-where}
use Rattle.nv_live.proofs.Doing.{did-read}
use Rattle.nv_live.proofs.Serving.{did-read as lines-read}

-- nothing stopped it
going-is : (stop : Option Stopped) → is_some stop ≡ false → stop ≡ None
going-is None e = refl
going-is (Some s) e = cc

-- all that was said is written, whatever stops the source
going-with : (before after : Option Stopped) (put : Put) → stop_with before put ≡ None → after ≡ None → stop_with after put ≡ None
going-with before (Some s) put e n = cc
going-with before None (Ok u) e n = refl
going-with (Some s) None (Err f) e n = cc
going-with None None (Err f) e n = cc

module _ {I O T : Type 0} (took : I → Option (List (List ℕ))) (unread : I → ℕ) (moments : I → Option (List Moment)) (said : O → Option (List ℕ)) (unsaid : O → ℕ) (noted : T → Option (List ℕ)) (unnoted : T → ℕ) where
  -- ---- plain input

  -- how things stood, where nothing was done since
  abbrev pub StandsIn : Live I O T → Moment → Type 0
  StandsIn old m = (at : Live I O T) × DoesOn took unread said unsaid noted unnoted old at [] × (held_of at.incoming ≡ []) × (stop_in at ≡ None)
      × (m ≡ moment_of took unread said unsaid noted unnoted at.incoming.source at.out.sink at.transcript.writer.sink)

  stood-then : (first : Live I O T) (done more : List Doing) (m : Moment) → StoodIn took unread said unsaid noted unnoted first done m → StoodIn took unread said unsaid noted unnoted first (done ++ more) m
  stood-then first done more m s = record {
    stood = s.stood;
    earlier = s.earlier;
    later = s.later ++ more;
    parted = ap (λ x. x ++ more) s.parted ∙ append_assoc s.earlier s.later more;
    did = s.did;
    taken = s.taken;
    going = s.going;
    is = s.is;
  }

  stands-here : (first old : Live I O T) (done more : List Doing) → Did took unread said unsaid noted unnoted first old done
      → (m : Moment) → StandsIn old m → StoodIn took unread said unsaid noted unnoted first (done ++ more) m
  stands-here first old done more d m s = record {
    stood = s.0;
    earlier = done;
    later = more;
    parted = refl;
    did = subst (λ x. Did took unread said unsaid noted unnoted first s.0 x) (append-nil done) (s.1 first done d);
    taken = s.2;
    going = s.3;
    is = s.4;
  }

  pub in-turn : (old new : Live I O T) (more : List Doing) → DoesOn took unread said unsaid noted unnoted old new more
      → Asked (moments old.incoming.source) (moments new.incoming.source) (StandsIn old) → DoesInTurn took unread moments said unsaid noted unnoted old new more
  in-turn old new more does asked = λ first done d. (
    does first done d.0,
    asked-then (moments first.incoming.source) (moments old.incoming.source) (moments new.incoming.source) (StoodIn took unread said unsaid noted unnoted first (done ++ more))
        (asked-where (moments first.incoming.source) (moments old.incoming.source) (StoodIn took unread said unsaid noted unnoted first done) (StoodIn took unread said unsaid noted unnoted first (done ++ more)) (stood-then first done more) d.1)
        (asked-where (moments old.incoming.source) (moments new.incoming.source) (StandsIn old) (StoodIn took unread said unsaid noted unnoted first (done ++ more)) (stands-here first old done more d.0) asked),
  )

  -- the source isn't asked
  pub in-turn-unasked : (old new : Live I O T) (more : List Doing) → DoesOn took unread said unsaid noted unnoted old new more
      → moments new.incoming.source ≡ moments old.incoming.source → DoesInTurn took unread moments said unsaid noted unnoted old new more
  in-turn-unasked old new more does same = in-turn old new more does (asked-none (moments old.incoming.source) (moments new.incoming.source) (StandsIn old) same)

  -- nothing was done, and the source isn't asked
  pub in-turn-still : (old new : Live I O T) → ((first : Live I O T) (done : List Doing) → Did took unread said unsaid noted unnoted first old done → Did took unread said unsaid noted unnoted first new done)
      → moments new.incoming.source ≡ moments old.incoming.source → (first : Live I O T) (done : List Doing)
      → DidInTurn took unread moments said unsaid noted unnoted first old done → DidInTurn took unread moments said unsaid noted unnoted first new done
  in-turn-still old new stays same = λ first done d. (stays first done d.0, subst (λ x. Asked (moments first.incoming.source) x (StoodIn took unread said unsaid noted unnoted first done)) (sym same) d.1)

  pub in-turn-none : (live : Live I O T) → Did took unread said unsaid noted unnoted live live [] → DidInTurn took unread moments said unsaid noted unnoted live live []
  in-turn-none live d = (d, asked-none (moments live.incoming.source) (moments live.incoming.source) (StoodIn took unread said unsaid noted unnoted live []) refl)

  -- it is asked by a look for more
  pub asked-in : (old : Live I O T) (read : Incoming I) (after : Option (List Moment)) (output : O) (notes : T) → is_some (stop_in old) ≡ false → after ≡ moments read.source
      → output ≡ old.out.sink → notes ≡ old.transcript.writer.sink
      → ReadOnce moments old.incoming read (moment_of took unread said unsaid noted unnoted old.incoming.source output notes) → Asked (moments old.incoming.source) after (StandsIn old)
  asked-in old read after output notes going same out transcript asked =
      let stands : (m : Moment) → (m ≡ moment_of took unread said unsaid noted unnoted old.incoming.source output notes) × (held_of old.incoming ≡ []) × (old.incoming.stopped ≡ None) → StandsIn old m =
      λ m s. (
        old,
        did-read took unread said unsaid noted unnoted old old (λ first arrivals so_far. so_far) refl refl,
        s.1,
        going-is (stop_in old) going,
        s.0 ∙ ap (λ o. moment_of took unread said unsaid noted unnoted old.incoming.source o notes) out ∙ ap (λ t. moment_of took unread said unsaid noted unnoted old.incoming.source old.out.sink t) transcript,
      ) in
      subst (λ x. Asked (moments old.incoming.source) x (StandsIn old)) (sym same)
      (asked-where (moments old.incoming.source) (moments read.source) (λ m. (m ≡ moment_of took unread said unsaid noted unnoted old.incoming.source output notes) × (held_of old.incoming ≡ []) × (old.incoming.stopped ≡ None))
      (StandsIn old) stands asked)

  -- ---- clients

  abbrev pub StandsAmong : Clients I O T → Moment → Type 0
  StandsAmong old m = (at : Clients I O T) × DoesLines took unread said unsaid noted unnoted old at [] × (held_from at.coming ≡ []) × (stop_among at ≡ None)
      × (m ≡ moment_of took unread said unsaid noted unnoted at.coming.source at.out.writer.sink at.transcript.writer.sink)

  among-then : (first : Clients I O T) (done more : List Doing) (m : Moment) → StoodAmong took unread said unsaid noted unnoted first done m → StoodAmong took unread said unsaid noted unnoted first (done ++ more) m
  among-then first done more m s = record {
    stood = s.stood;
    earlier = s.earlier;
    later = s.later ++ more;
    parted = ap (λ x. x ++ more) s.parted ∙ append_assoc s.earlier s.later more;
    did = s.did;
    taken = s.taken;
    going = s.going;
    is = s.is;
  }

  among-here : (first old : Clients I O T) (done more : List Doing) → DidLines took unread said unsaid noted unnoted first old done
      → (m : Moment) → StandsAmong old m → StoodAmong took unread said unsaid noted unnoted first (done ++ more) m
  among-here first old done more d m s = record {
    stood = s.0;
    earlier = done;
    later = more;
    parted = refl;
    did = subst (λ x. DidLines took unread said unsaid noted unnoted first s.0 x) (append-nil done) (s.1 first done d);
    taken = s.2;
    going = s.3;
    is = s.4;
  }

  pub among-turn : (old new : Clients I O T) (more : List Doing) → DoesLines took unread said unsaid noted unnoted old new more
      → Asked (moments old.coming.source) (moments new.coming.source) (StandsAmong old) → DoesLinesInTurn took unread moments said unsaid noted unnoted old new more
  among-turn old new more does asked = λ first done d. (
    does first done d.0,
    asked-then (moments first.coming.source) (moments old.coming.source) (moments new.coming.source) (StoodAmong took unread said unsaid noted unnoted first (done ++ more))
        (asked-where (moments first.coming.source) (moments old.coming.source) (StoodAmong took unread said unsaid noted unnoted first done) (StoodAmong took unread said unsaid noted unnoted first (done ++ more)) (among-then first done more) d.1)
        (asked-where (moments old.coming.source) (moments new.coming.source) (StandsAmong old) (StoodAmong took unread said unsaid noted unnoted first (done ++ more)) (among-here first old done more d.0) asked),
  )

  pub among-unasked : (old new : Clients I O T) (more : List Doing) → DoesLines took unread said unsaid noted unnoted old new more
      → moments new.coming.source ≡ moments old.coming.source → DoesLinesInTurn took unread moments said unsaid noted unnoted old new more
  among-unasked old new more does same = among-turn old new more does (asked-none (moments old.coming.source) (moments new.coming.source) (StandsAmong old) same)

  pub among-still : (old new : Clients I O T) → ((first : Clients I O T) (done : List Doing) → DidLines took unread said unsaid noted unnoted first old done → DidLines took unread said unsaid noted unnoted first new done)
      → moments new.coming.source ≡ moments old.coming.source → (first : Clients I O T) (done : List Doing)
      → DidLinesInTurn took unread moments said unsaid noted unnoted first old done → DidLinesInTurn took unread moments said unsaid noted unnoted first new done
  among-still old new stays same = λ first done d. (stays first done d.0, subst (λ x. Asked (moments first.coming.source) x (StoodAmong took unread said unsaid noted unnoted first done)) (sym same) d.1)

  pub among-none : (clients : Clients I O T) → DidLines took unread said unsaid noted unnoted clients clients [] → DidLinesInTurn took unread moments said unsaid noted unnoted clients clients []
  among-none clients d = (d, asked-none (moments clients.coming.source) (moments clients.coming.source) (StoodAmong took unread said unsaid noted unnoted clients []) refl)

  -- it is asked by a look for a line
  pub asked-among : (old : Clients I O T) (found : ComingLines I) (after : Option (List Moment)) (output : O) (notes : T) → is_some (stop_among old) ≡ false → after ≡ moments found.source
      → output ≡ old.out.writer.sink → notes ≡ old.transcript.writer.sink
      → AskedOn took unread moments old.coming found (λ source. moment_of took unread said unsaid noted unnoted source output notes) → Asked (moments old.coming.source) after (StandsAmong old)
  asked-among old found after output notes going same out transcript asked =
      let here : ComingLines I → Clients I O T = λ coming. record { coming = coming; out = old.out; transcript = old.transcript; hand_overs = old.hand_overs } in
      let stands : (m : Moment) → (at : ComingLines I) × ComesOn took unread old.coming at (λ arrivals. arrivals) × (held_from at ≡ []) × (at.stopped ≡ None) × (m ≡ moment_of took unread said unsaid noted unnoted at.source output notes)
      → StandsAmong old m =
      λ m s. (
        here s.0,
        lines-read took unread said unsaid noted unnoted old (here s.0) s.1 refl refl refl,
        s.2,
        going-with old.coming.stopped s.0.stopped old.out.writer.put (going-is (stop_among old) going) s.3,
        s.4 ∙ ap (λ o. moment_of took unread said unsaid noted unnoted s.0.source o notes) out ∙ ap (λ t. moment_of took unread said unsaid noted unnoted s.0.source old.out.writer.sink t) transcript,
      ) in
      subst (λ x. Asked (moments old.coming.source) x (StandsAmong old)) (sym same)
      (asked-where (moments old.coming.source) (moments found.source)
      (λ m. (at : ComingLines I) × ComesOn took unread old.coming at (λ arrivals. arrivals) × (held_from at ≡ []) × (at.stopped ≡ None) × (m ≡ moment_of took unread said unsaid noted unnoted at.source output notes))
      (StandsAmong old) stands asked)
