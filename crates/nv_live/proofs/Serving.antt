-- How what is done outside goes on in a run of many clients: what is read, what is taken and what is said.
use Rattle.std.proofs.Common.{◌≡◌, ◌+◌, ℕ, true, List, [], ◌∷◌, ◌++◌, Option, append-nil, append_assoc, length, length-append, refl, sym, ap, subst, ◌∙◌, IsOk, arith}
use Rattle.std.proofs.lemmas.List.Concat.{flat_map-append}
use Rattle.nv_script.specs.Arrivals.{Arrival}
use Rattle.nv_script.specs.Doings.{Doing, Takes, Says, Hands, Said, takings, sayings, handings}
use Rattle.nv_outside.proofs.Writing.{puts-is, puts-nothing}
use Rattle.nv_live.specs.declared.coming_lines.ComingLines.{ComingLines}
use Rattle.nv_live.specs.declared.writer.Writer.{Writer}
use Rattle.nv_live.specs.declared.clients.Clients.{Clients}
use Rattle.nv_live.specs.ComingLines.{HasCome, ComesOn, HandsOn}
use Rattle.nv_live.specs.Clients.{clients_text, DidLines, DoesLines}
use Rattle.nv_live.specs.SaidLines.{said_lines}
use Rattle.nv_live.specs.Transcript.{lines_of, hand_text, notes_on}
use Rattle.nv_live.specs.Writer.{Written, WritesOn}
use Rattle.nv_script.specs.HandLines.{can_plan}
use Rattle.nv_script.specs.Scripts.{are_hands}
use Rattle.nv_script.proofs.Plans.{are_hands-more}
use Rattle.nv_live.proofs.Noting.{writes-none, writes-is, writes-then}
use Rattle.nv_live.proofs.Doing.{takings-append, sayings-append, handings-append, notes-more}

clients-more : (xs ys : List Doing) → clients_text (sayings xs) ++ clients_text (sayings ys) ≡ clients_text (sayings (xs ++ ys))
clients-more xs ys = sym (ap clients_text (sayings-append xs ys) ∙ flat_map-append said_lines (sayings xs) (sayings ys))

module _ {I O T : Type 0} (took : I → Option (List (List ℕ))) (unread : I → ℕ) (said : O → Option (List ℕ)) (unsaid : O → ℕ) (noted : T → Option (List ℕ)) (unnoted : T → ℕ) where
  -- nothing more, in a part that stays
  still : {S : Type 0} (told : S → Option (List ℕ)) (faults : S → ℕ) (old new : Writer S) → new ≡ old → WritesOn told faults old new []
  still told faults old new same = λ first earlier so_far.
      puts-is (sym (append-nil earlier)) (subst (λ w. Written told faults first w earlier) (sym same) so_far)

  none-written : {S : Type 0} (told : S → Option (List ℕ)) (faults : S → ℕ) (writer : Writer S) → IsOk writer.put → Written told faults writer writer []
  none-written told faults writer whole = puts-nothing (told writer.sink) (faults writer.sink) whole

  -- at the beginning nothing was done
  pub did-none : (clients : Clients I O T) → HasCome took unread clients.coming clients.coming [] 0 → IsOk clients.out.writer.put → are_hands clients.hand_overs.lengths.items ≡ true
      → DidLines took unread said unsaid noted unnoted clients clients []
  did-none clients come whole planned = record {
    taken = come;
    written = none-written said unsaid clients.out.writer whole;
    lines = writes-none noted unnoted clients.transcript.writer;
    handed = sym (append-nil clients.hand_overs.lengths.items);
    planned = planned;
  }

  -- one thing after another
  pub did-then : (a b c : Clients I O T) (x y : List Doing) → DoesLines took unread said unsaid noted unnoted a b x → DoesLines took unread said unsaid noted unnoted b c y → DoesLines took unread said unsaid noted unnoted a c (x ++ y)
  did-then a b c x y p q = λ first done d. subst (λ z. DidLines took unread said unsaid noted unnoted first c z) (append_assoc done x y) (q first (done ++ x) (p first done d))

  -- these arrivals were taken, and the leader handed over so often
  abbrev GoesOn : ComingLines I → ComingLines I → List Doing → Type 0
  GoesOn old new more = (first : ComingLines I) (arrivals : List Arrival) (handed : ℕ)
      → HasCome took unread first old arrivals handed → HasCome took unread first new (arrivals ++ takings more) (handed + length (handings more))

  handed-more : (done more : List Doing) → length (handings done) + length (handings more) ≡ length (handings (done ++ more))
  handed-more done more = sym (ap length (handings-append done more) ∙ length-append (handings done) (handings more))

  -- what was done, by its parts
  pub did-parts : (old new : Clients I O T) (more : List Doing) → GoesOn old.coming new.coming more
      → WritesOn said unsaid old.out.writer new.out.writer (clients_text (sayings more)) → WritesOn noted unnoted old.transcript.writer new.transcript.writer (notes_on more)
      → new.hand_overs.lengths.items ≡ old.hand_overs.lengths.items ++ handings more → (are_hands old.hand_overs.lengths.items ≡ true → are_hands new.hand_overs.lengths.items ≡ true)
      → DoesLines took unread said unsaid noted unnoted old new more
  did-parts old new more takes says notes hands planned = λ first done d. record {
    taken = subst (λ n. HasCome took unread first.coming new.coming (takings (done ++ more)) n) (handed-more done more)
        (subst (λ arrivals. HasCome took unread first.coming new.coming arrivals (length (handings done) + length (handings more))) (sym (takings-append done more))
        (takes first.coming (takings done) (length (handings done)) d.taken));
    written = puts-is (clients-more done more) (says first.out.writer (clients_text (sayings done)) d.written);
    lines = writes-is noted unnoted first.transcript.writer new.transcript.writer _ _ (notes-more done more) (writes-then noted unnoted first.transcript.writer old.transcript.writer new.transcript.writer _ _ d.lines notes);
    handed = hands ∙ ap (λ lengths. lengths ++ handings more) d.handed ∙ append_assoc first.hand_overs.lengths.items (handings done) (handings more)
        ∙ ap (λ lengths. first.hand_overs.lengths.items ++ lengths) (sym (handings-append done more));
    planned = planned d.planned;
  }

  -- the leader handed over nowhere
  did-exchange : (old new : Clients I O T) (more : List Doing) → handings more ≡ [] → ComesOn took unread old.coming new.coming (λ arrivals. arrivals ++ takings more)
      → WritesOn said unsaid old.out.writer new.out.writer (clients_text (sayings more)) → WritesOn noted unnoted old.transcript.writer new.transcript.writer (notes_on more)
      → new.hand_overs ≡ old.hand_overs → DoesLines took unread said unsaid noted unnoted old new more
  did-exchange old new more none takes says notes same =
      did-parts old new more
      (λ first arrivals handed so_far. subst (λ n. HasCome took unread first new.coming (arrivals ++ takings more) n) (handed-none handed) (takes first arrivals handed so_far))
      says notes
      (ap (λ h. h.lengths.items) same ∙ sym (append-nil old.hand_overs.lengths.items) ∙ ap (λ lengths. old.hand_overs.lengths.items ++ lengths) (sym none))
      (λ planned. ap (λ h. are_hands h.lengths.items) same ∙ planned) where
        handed-none : (handed : ℕ) → handed ≡ handed + length (handings more)
        handed-none handed = omega (arith, ap length none)

  takes-none : (old new : ComingLines I) → ComesOn took unread old new (λ arrivals. arrivals) → ComesOn took unread old new (λ arrivals. arrivals ++ [])
  takes-none old new takes = λ first arrivals handed so_far.
      subst (λ xs. HasCome took unread first new xs handed) (sym (append-nil arrivals)) (takes first arrivals handed so_far)

  -- more was read, and nothing was taken
  pub did-read : (old new : Clients I O T) → ComesOn took unread old.coming new.coming (λ arrivals. arrivals) → new.out.writer ≡ old.out.writer → new.transcript.writer ≡ old.transcript.writer
      → new.hand_overs ≡ old.hand_overs → DoesLines took unread said unsaid noted unnoted old new []
  did-read old new takes out transcript same =
      did-exchange old new [] refl (takes-none old.coming new.coming takes) (still said unsaid old.out.writer new.out.writer out)
      (still noted unnoted old.transcript.writer new.transcript.writer transcript) same

  -- what is taken is waited for up to some time
  waits-none : (old new : ComingLines I) → took new.source ≡ took old.source → unread new.source ≡ unread old.source → new ≡ record old { source = new.source } → ComesOn took unread old new (λ arrivals. arrivals)
  waits-none old new same_took same_unread stays = λ first arrivals handed so_far.
      subst (λ c. HasCome took unread first c arrivals handed) (sym stays) (rw (same_took, same_unread) so_far)

  -- nothing was done
  pub did-wait : (old new : Clients I O T) → took new.coming.source ≡ took old.coming.source → unread new.coming.source ≡ unread old.coming.source
      → new.coming ≡ record old.coming { source = new.coming.source } → new.out.writer ≡ old.out.writer → new.transcript.writer ≡ old.transcript.writer → new.hand_overs ≡ old.hand_overs
      → (first : Clients I O T) (done : List Doing) → DidLines took unread said unsaid noted unnoted first old done → DidLines took unread said unsaid noted unnoted first new done
  did-wait old new same_took same_unread stays out transcript same = λ first done d.
      subst (λ z. DidLines took unread said unsaid noted unnoted first new z) (append-nil done)
      (did-read old new (waits-none old.coming new.coming same_took same_unread stays) out transcript same first done d)

  -- an arrival was taken
  pub did-take : (old new : Clients I O T) (arrival : Arrival) → ComesOn took unread old.coming new.coming (λ arrivals. arrivals ++ arrival ∷ []) → new.out.writer ≡ old.out.writer
      → WritesOn noted unnoted old.transcript.writer new.transcript.writer (lines_of (arrival ∷ [])) → new.hand_overs ≡ old.hand_overs
      → DoesLines took unread said unsaid noted unnoted old new (Takes arrival ∷ [])
  did-take old new arrival takes out notes same = did-exchange old new (Takes arrival ∷ []) refl takes (still said unsaid old.out.writer new.out.writer out) notes same

  -- something was said
  pub did-say : (old new : Clients I O T) (x : Said) → new.coming ≡ old.coming → WritesOn said unsaid old.out.writer new.out.writer (said_lines x) → new.transcript.writer ≡ old.transcript.writer
      → new.hand_overs ≡ old.hand_overs → DoesLines took unread said unsaid noted unnoted old new (Says x ∷ [])
  did-say old new x incoming says transcript same =
      did-exchange old new (Says x ∷ []) refl
      (takes-none old.coming new.coming (λ first arrivals handed so_far. subst (λ n. HasCome took unread first n arrivals handed) (sym incoming) so_far))
      (λ first earlier so_far. puts-is (ap (λ t. earlier ++ t) (sym (append-nil (said_lines x)))) (says first earlier so_far))
      (still noted unnoted old.transcript.writer new.transcript.writer transcript) same

  -- the leader handed over
  pub did-hand : (old new : Clients I O T) (length : ℕ) → HandsOn took unread old.coming new.coming → new.out.writer ≡ old.out.writer
      → WritesOn noted unnoted old.transcript.writer new.transcript.writer (hand_text length) → can_plan length old.hand_overs.lengths.items ≡ true
      → new.hand_overs.lengths.items ≡ old.hand_overs.lengths.items ++ length ∷ [] → DoesLines took unread said unsaid noted unnoted old new (Hands length ∷ [])
  did-hand old new length hands out notes can more =
      did-parts old new (Hands length ∷ [])
      (λ first arrivals handed so_far. subst (λ xs. HasCome took unread first new.coming xs (handed + 1)) (sym (append-nil arrivals)) (hands first arrivals handed so_far))
      (still said unsaid old.out.writer new.out.writer out)
      (writes-is noted unnoted old.transcript.writer new.transcript.writer (hand_text length) (hand_text length ++ []) (sym (append-nil (hand_text length))) notes)
      more
      (λ planned. ap are_hands more ∙ are_hands-more old.hand_overs.lengths.items length planned can)
