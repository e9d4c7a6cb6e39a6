-- How what is done outside goes on: what is read, what is taken and what is said.
use Rattle.std.proofs.Common.{◌≡◌, ℕ, List, [], ◌∷◌, ◌++◌, Option, None, append-nil, append_assoc, refl, sym, ap, subst, ◌∙◌, IsOk}
use Rattle.std.proofs.lemmas.List.Concat.{flat_map-append}
use Rattle.nv_script.specs.Arrivals.{Arrival}
use Rattle.nv_script.specs.Doings.{Doing, Takes, Says, Hands, Said, takings, sayings, handings}
use Rattle.nv_outside.proofs.Writing.{puts-is, puts-nothing}
use Rattle.nv_live.specs.declared.incoming.Incoming.{Incoming}
use Rattle.nv_live.specs.declared.writer.Writer.{Writer}
use Rattle.nv_live.specs.declared.live.Live.{Live}
use Rattle.nv_live.specs.Incoming.{held_of, HasTaken, TakesOn}
use Rattle.nv_live.specs.Live.{plain_bytes, plain_text, Did, DoesOn}
use Rattle.nv_live.specs.Transcript.{lines_of, note_of, notes_on}
use Rattle.nv_live.specs.Writer.{Written, WritesOn}
use Rattle.nv_live.proofs.Noting.{writes-none, writes-is, writes-then}
use Rattle.nv_live.proofs.Taking.{took_start}

pub takings-append : (xs ys : List Doing) → takings (xs ++ ys) ≡ takings xs ++ takings ys
takings-append [] ys = refl
takings-append (Takes a ∷ xs) ys = ap (λ later. a ∷ later) (takings-append xs ys)
takings-append (Says s ∷ xs) ys = takings-append xs ys
takings-append (Hands n ∷ xs) ys = takings-append xs ys

pub sayings-append : (xs ys : List Doing) → sayings (xs ++ ys) ≡ sayings xs ++ sayings ys
sayings-append [] ys = refl
sayings-append (Takes a ∷ xs) ys = sayings-append xs ys
sayings-append (Says s ∷ xs) ys = ap (λ later. s ∷ later) (sayings-append xs ys)
sayings-append (Hands n ∷ xs) ys = sayings-append xs ys

pub handings-append : (xs ys : List Doing) → handings (xs ++ ys) ≡ handings xs ++ handings ys
handings-append [] ys = refl
handings-append (Takes a ∷ xs) ys = handings-append xs ys
handings-append (Says s ∷ xs) ys = handings-append xs ys
handings-append (Hands n ∷ xs) ys = ap (λ later. n ∷ later) (handings-append xs ys)

plain-more : (xs ys : List Doing) → plain_text (sayings xs) ++ plain_text (sayings ys) ≡ plain_text (sayings (xs ++ ys))
plain-more xs ys = sym (ap plain_text (sayings-append xs ys) ∙ flat_map-append plain_bytes (sayings xs) (sayings ys))

pub notes-more : (xs ys : List Doing) → notes_on xs ++ notes_on ys ≡ notes_on (xs ++ ys)
notes-more xs ys = sym (flat_map-append note_of xs ys)

module _ {I O T : Type 0} (took : I → Option (List (List ℕ))) (unread : I → ℕ) (said : O → Option (List ℕ)) (unsaid : O → ℕ) (noted : T → Option (List ℕ)) (unnoted : T → ℕ) where
  -- nothing more, in a part that stays
  still : {S : Type 0} (told : S → Option (List ℕ)) (faults : S → ℕ) (old new : Writer S) → new ≡ old → WritesOn told faults old new []
  still told faults old new same = λ first earlier so_far.
      puts-is (sym (append-nil earlier)) (subst (λ w. Written told faults first w earlier) (sym same) so_far)

  none-written : {S : Type 0} (told : S → Option (List ℕ)) (faults : S → ℕ) (writer : Writer S) → IsOk writer.put → Written told faults writer writer []
  none-written told faults writer whole = puts-nothing (told writer.sink) (faults writer.sink) whole

  -- at the beginning nothing was done
  pub did-none : (live : Live I O T) → live.incoming.stopped ≡ None → held_of live.incoming ≡ [] → IsOk live.out.put
      → Did took unread said unsaid noted unnoted live live []
  did-none live going empty whole = record {
    taken = took_start (took live.incoming.source) (took live.incoming.source) (unread live.incoming.source) (unread live.incoming.source) live.incoming.stopped (held_of live.incoming) refl refl going empty;
    written = none-written said unsaid live.out whole;
    lines = writes-none noted unnoted live.transcript.writer;
    handed = refl;
  }

  -- one thing after another
  pub did-then : (a b c : Live I O T) (x y : List Doing) → DoesOn took unread said unsaid noted unnoted a b x → DoesOn took unread said unsaid noted unnoted b c y → DoesOn took unread said unsaid noted unnoted a c (x ++ y)
  did-then a b c x y p q = λ first done d. subst (λ z. Did took unread said unsaid noted unnoted first c z) (append_assoc done x y) (q first (done ++ x) (p first done d))

  -- what was done, by its parts
  pub did-parts : (old new : Live I O T) (more : List Doing) → handings more ≡ [] → TakesOn took unread old.incoming new.incoming (λ arrivals. arrivals ++ takings more)
      → WritesOn said unsaid old.out new.out (plain_text (sayings more)) → WritesOn noted unnoted old.transcript.writer new.transcript.writer (notes_on more)
      → DoesOn took unread said unsaid noted unnoted old new more
  did-parts old new more none takes says notes = λ first done d. record {
    taken = subst (λ arrivals. HasTaken took unread first.incoming new.incoming arrivals) (sym (takings-append done more)) (takes first.incoming (takings done) d.taken);
    written = puts-is (plain-more done more) (says first.out (plain_text (sayings done)) d.written);
    lines = writes-is noted unnoted first.transcript.writer new.transcript.writer _ _ (notes-more done more) (writes-then noted unnoted first.transcript.writer old.transcript.writer new.transcript.writer _ _ d.lines notes);
    handed = handings-append done more ∙ ap (λ later. later ++ handings more) d.handed ∙ none;
  }

  takes-none : (old new : Incoming I) → TakesOn took unread old new (λ arrivals. arrivals) → TakesOn took unread old new (λ arrivals. arrivals ++ [])
  takes-none old new takes = λ first arrivals so_far.
      subst (λ xs. HasTaken took unread first new xs) (sym (append-nil arrivals)) (takes first arrivals so_far)

  -- more was read, and nothing was taken
  pub did-read : (old new : Live I O T) → TakesOn took unread old.incoming new.incoming (λ arrivals. arrivals) → new.out ≡ old.out → new.transcript.writer ≡ old.transcript.writer
      → DoesOn took unread said unsaid noted unnoted old new []
  did-read old new takes out transcript =
      did-parts old new [] refl (takes-none old.incoming new.incoming takes) (still said unsaid old.out new.out out) (still noted unnoted old.transcript.writer new.transcript.writer transcript)

  -- what is taken is waited for up to some time
  waits-none : (old new : Incoming I) → took new.source ≡ took old.source → unread new.source ≡ unread old.source → new ≡ record old { source = new.source } → TakesOn took unread old new (λ arrivals. arrivals)
  waits-none old new same_took same_unread stays = λ first arrivals so_far.
      let stopped : new.stopped ≡ old.stopped = ap (λ (i : Incoming I). i.stopped) stays in
      let held : held_of new ≡ held_of old = ap (λ (i : Incoming I). held_of i) stays in
      rw (same_took, same_unread, stopped, held) so_far

  -- nothing was done
  pub did-wait : (old new : Live I O T) → took new.incoming.source ≡ took old.incoming.source → unread new.incoming.source ≡ unread old.incoming.source
      → new.incoming ≡ record old.incoming { source = new.incoming.source } → new.out ≡ old.out → new.transcript.writer ≡ old.transcript.writer
      → (first : Live I O T) (done : List Doing) → Did took unread said unsaid noted unnoted first old done → Did took unread said unsaid noted unnoted first new done
  did-wait old new same_took same_unread stays out transcript = λ first done d.
      subst (λ z. Did took unread said unsaid noted unnoted first new z) (append-nil done)
      (did-read old new (waits-none old.incoming new.incoming same_took same_unread stays) out transcript first done d)

  -- an arrival was taken
  pub did-take : (old new : Live I O T) (arrival : Arrival) → TakesOn took unread old.incoming new.incoming (λ arrivals. arrivals ++ arrival ∷ []) → new.out ≡ old.out
      → WritesOn noted unnoted old.transcript.writer new.transcript.writer (lines_of (arrival ∷ [])) → DoesOn took unread said unsaid noted unnoted old new (Takes arrival ∷ [])
  did-take old new arrival takes out notes = did-parts old new (Takes arrival ∷ []) refl takes (still said unsaid old.out new.out out) notes

  -- something was said
  pub did-say : (old new : Live I O T) (x : Said) → new.incoming ≡ old.incoming → WritesOn said unsaid old.out new.out (plain_bytes x) → new.transcript.writer ≡ old.transcript.writer
      → DoesOn took unread said unsaid noted unnoted old new (Says x ∷ [])
  did-say old new x incoming says transcript =
      did-parts old new (Says x ∷ []) refl
      (takes-none old.incoming new.incoming (λ first arrivals so_far. subst (λ n. HasTaken took unread first n arrivals) (sym incoming) so_far))
      (λ first earlier so_far. puts-is (ap (λ t. earlier ++ t) (sym (append-nil (plain_bytes x)))) (says first earlier so_far))
      (still noted unnoted old.transcript.writer new.transcript.writer transcript)
