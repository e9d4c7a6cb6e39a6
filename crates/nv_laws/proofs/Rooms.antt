-- What the room allows is a step.
use Rattle.std.proofs.Common.{◌≡◌, ◌≢◌, ℕ, ◌+◌, ◌<◌, ◌⊎◌, List, [], ◌∷◌, ◌++◌, map, length, get_or, set, sym, refl, ◌∙◌, subst}
use mathlib.Core.Option.{some, none}
use lib.ListN.{get_elem?}
use lib.Seq.{set-get_or}
use Rattle.std.specs.Prelude.{Option, Some}
use Rattle.std.specs.Option.{ForSome}
use Rattle.atomic_table.specs.Table.{State, Me, Step, step, Allows}
use Rattle.nv_calls.specs.Calls.{Entry}
use Rattle.nv_calls.specs.Limits.{MOST_EVENTS}
use Rattle.nv_calls.specs.Logs.{IsLawful, live_after}
use Rattle.nv_words.specs.Begins.{Prefix}
use Rattle.nv_words.specs.Spelling.{IsWhole, low, spell}
use Rattle.nv_room.specs.Header.{owner_index, head_index, cursor_index}
use Rattle.nv_room.specs.Logs.{lane, lanes_after}
use Rattle.nv_room.specs.Stamps.{Lives}
use Rattle.nv_room.specs.declared.view.View.{View}
use Rattle.nv_room.specs.declared.view.Layout.{Layout}
use Rattle.nv_room.specs.declared.view.Role.TheVariants.{Reader, Lead, Opening, Leaving, Moving}
use Rattle.nv_room.specs.Owner.{GONE, Phase, held, free, closed, owner_word}
use Rattle.nv_room.specs.Placement.{Fits, Log, next_slot, word_place}
use Rattle.nv_room.specs.Planned.{asked_then}
use Rattle.nv_room.specs.Room.{cursor, MayHand, Live, Rule}
use Rattle.nv_room.specs.Spans.{LastHasEvent}
use Rattle.nv_room.specs.Steps.{SpellLawful, gave_up, goes_ahead, hands_over, left, looked_cursor, looked_head, looked_owner, moves_over, opens as opened_next, probed, published, read_word, spare, took, wrote_word}
use Rattle.nv_room.proofs.Looks.{looks_cursor as allows_cursor, looks_head as allows_head, looks_owner as allows_owner, reads_word}
use Rattle.nv_room.proofs.Probes.{probes as allows_probe}
use Rattle.nv_room.proofs.Cursors.{advances, leaves as allows_leave}
use Rattle.nv_room.proofs.Hands.{gives_up as allows_give_up, takes_lead}
use Rattle.nv_room.proofs.HandingOver.{hands_on, moves_on, opens_next, spares}
use Rattle.nv_room.proofs.Writes.{publishes as allows_publish, writes_word}
use Rattle.nv_room.specs.Kinds.{Kind, looks_head, looks_owner, looks_cursor, looks_spare, probes, reads, writes, sees, publishes, takes, gives_up, leaves, opens, hands, moves}
use Rattle.nv_laws.specs.Plays.{Plays, written, Goes}

module _ {K : Type 0} (hist : K → List Entry) (came : K → K → List ℕ → Type 0) (p : Layout K) (id : ℕ) (me : Me (Option K) (View K)) (s : State (Option K) (View K)) (r : Rule hist came p s) (at : get_elem? s.views id ≡ some me.0) (wide : (i : ℕ) → get_or s.words i 0 < 18446744073709551616) where
  abbrev slots : ℕ
  slots = length s.homes

  -- the step on the word i, and what the rule allows of it
  allowed : (i : ℕ) (f : ℕ → ℕ) (then : ℕ → Me (Option K) (View K) → Type 0) (k : Kind) (st : Step (Option K)) → Allows (Rule hist came p) slots id me i f then
      → ((m' : Me (Option K) (View K)) → then (get_or s.words i 0) m' → Plays hist came st me m' k) → set s.words i (f (get_or s.words i 0)) ≡ written p me.0 s.words k → Goes hist came p s id me k
  allowed i f then k st allows plays words = let q = allows s r refl at (wide i) in (
    _,
    q.3,
    (record { step = st; me = me; next = (q.0, _); at = at; plays = plays _ q.4; words = words; views = refl }, refl),
  )

  -- one that leaves the word as it is
  looked : (i : ℕ) (then : ℕ → Me (Option K) (View K) → Type 0) (k : Kind) → Allows (Rule hist came p) slots id me i (λ x. x) then
      → ((m' : Me (Option K) (View K)) → then (get_or s.words i 0) m' → Plays hist came (step slots i 0 0 none) me m' k) → s.words ≡ written p me.0 s.words k → Goes hist came p s id me k
  looked i then k allows plays words = allowed i (λ x. x) then k (step slots i 0 0 none) allows plays (set-get_or s.words i 0 ∙ words)

  -- one that writes it
  wrote : (i x : ℕ) (then : Me (Option K) (View K) → Type 0) (k : Kind) → Allows (Rule hist came p) slots id me i (λ _. x) (λ _. then)
      → ((m' : Me (Option K) (View K)) → then m' → Plays hist came (step slots i x 0 none) me m' k) → set s.words i x ≡ written p me.0 s.words k → Goes hist came p s id me k
  wrote i x then k allows plays words = allowed i (λ _. x) (λ _. then) k (step slots i x 0 none) allows plays words

  pub goes_head : Goes hist came p s id me (looks_head (get_or s.words head_index 0))
  goes_head = looked head_index (looked_head (step slots head_index 0 0 none) me) (looks_head (get_or s.words head_index 0)) (allows_head hist came p slots id me) (λ m' t. t) refl

  pub goes_owner : me.0.role ≡ Reader → Goes hist came p s id me (looks_owner (get_or s.words owner_index 0))
  goes_owner role = looked owner_index (looked_owner (step slots owner_index 0 0 none) me) (looks_owner (get_or s.words owner_index 0)) (allows_owner hist came p slots id me role) (λ m' t. (role, t)) refl

  pub goes_cursor : (t : ℕ) → t < p.stations → Goes hist came p s id me (looks_cursor t (cursor s.words t))
  goes_cursor t near = looked (cursor_index t) (looked_cursor (step slots (cursor_index t) 0 0 none) me) (looks_cursor t (cursor s.words t)) (allows_cursor hist came p slots id t me near) (λ m' q. (refl, q)) refl

  pub goes_spare : me.0.role ≡ Lead → MayHand p.stations p.hands.value.items me.0.opened (length me.0.seen) → LastHasEvent me.0.spans → Goes hist came p s id me (looks_spare (get_or s.words head_index 0))
  goes_spare role plan led = looked head_index (spare (step slots head_index 0 0 none) me) (looks_spare (get_or s.words head_index 0)) (spares hist came p slots id head_index me role plan led) (λ m' t. (role, t)) refl

  pub goes_probe : (l : ℕ) → me.0.role ≡ Reader → l < 8 → Lives me.0.seen l → length me.0.seen < me.0.head_last → Goes hist came p s id me (probes l (get_or s.words (next_slot p.stations p.places (lanes_after me.0.seen) l 1) 0))
  goes_probe l role below living before =
      let i : ℕ = next_slot p.stations p.places (lanes_after me.0.seen) l 1 in
      let live : Live me.0.role = subst Live (sym role) tt in
      let floors = r.merge.floors_wide id me.0 at live in
      let places = ((r.each_seat id me.0 at).seated live).places_are in
      looked i (probed (step slots i 0 0 none) me) (probes l (get_or s.words i 0)) (allows_probe hist came p slots id i l me role below living before refl)
      (λ m' t. (role, below, (λ z. next_slot (sym floors z) (sym places z) (lanes_after me.0.seen) l 1), t)) refl

  pub goes_read : (i l : ℕ) → me.0.role ≡ Reader → ¬ IsWhole me.0.read → me.0.noted ≡ Some l → ((log : Log) → Prefix me.0.seen log → l ≡ lane log (length me.0.seen) → i ≡ word_place p.stations p.places log (length me.0.seen) (length me.0.read))
      → Goes hist came p s id me (reads (get_or s.words i 0))
  goes_read i l role part noted is = looked i (read_word (step slots i 0 0 none) me) (reads (get_or s.words i 0)) (reads_word hist came p slots id i l me role part noted is) (λ m' t. (role, t)) refl

  pub goes_word : (x : ℕ) → me.0.role ≡ Lead → length me.0.wrote < 518 → (length me.0.wrote ≡ 1 → low x ≡ length me.0.seen) → ((t : ℕ) → t ≢ me.0.station → t < me.0.opened → Fits p.places me.0.seen (me.0.wrote ++ x ∷ []) (get_or me.0.floors t 0))
      → Goes hist came p s id me (writes x)
  goes_word x role small number roomy =
      let i : ℕ = word_place p.stations p.places (me.0.seen ++ (me.0.wrote ++ x ∷ []) ∷ []) (length me.0.seen) (length me.0.wrote) in
      wrote i x (wrote_word (step slots i x 0 none) me x) (writes x) (writes_word hist came p slots id i x me role small number roomy refl) (λ m' t. (role, t)) refl

  pub goes_ahead_on : me.0.role ≡ Reader → IsWhole me.0.read → Goes hist came p s id me sees
  goes_ahead_on role full = wrote (cursor_index me.0.station) (length me.0.seen + 1) (goes_ahead (step slots (cursor_index me.0.station) (length me.0.seen + 1) 0 none) me (length me.0.seen + 1)) sees
      (advances hist came p slots id (length me.0.seen + 1) me role full refl) (λ m' t. (role, t)) refl

  pub goes_out : me.0.role ≡ Lead → IsWhole me.0.wrote → length me.0.seen < MOST_EVENTS → SpellLawful (me.0.seen ++ me.0.wrote ∷ []) → Goes hist came p s id me publishes
  goes_out role full few next = wrote head_index (length me.0.seen + 1) (published (step slots head_index (length me.0.seen + 1) 0 none) me (length me.0.seen + 1)) publishes
      (allows_publish hist came p slots id (length me.0.seen + 1) me role full refl few next) (λ m' t. (role, few, t)) refl

  pub goes_lead : me.0.role ≡ Reader → me.0.freed ≡ Some (length me.0.seen) → Goes hist came p s id me takes
  goes_lead role noted = wrote owner_index (owner_word held me.0.station me.0.opened (length me.0.seen)) (took hist came (step slots 0 (owner_word held me.0.station me.0.opened (length me.0.seen)) 0 none) me (owner_word held me.0.station me.0.opened (length me.0.seen))) takes
      (takes_lead hist came p slots id (owner_word held me.0.station me.0.opened (length me.0.seen)) me role noted refl) (λ m' t. (role, noted, t)) refl

  pub goes_up : (k : K) (ph : Phase) → me.0.role ≡ Lead → me.1 ≡ (0, Some k) ∷ [] → me.0.wrote ≡ [] → map spell (hist k) ≡ me.0.seen → IsLawful (hist k) → ForSome me.0.start (λ s. came s.value k me.0.asked) → ph ≢ held → (ph ≡ closed → live_after (hist k) ≡ [])
      → Goes hist came p s id me (gives_up (owner_word ph me.0.station me.0.opened (length me.0.seen)))
  goes_up k ph role carries quiet tells law began over ended =
      let x : ℕ = owner_word ph me.0.station me.0.opened (length me.0.seen) in
      wrote owner_index x (gave_up (step slots 0 x 0 none) me x) (gives_up x) (allows_give_up hist came p slots id x k ph me role carries quiet tells law began over ended refl) (λ m' t. (role, t)) refl

  pub goes_away : (me.0.role ≡ Reader) ⊎ (me.0.role ≡ Leaving) → Goes hist came p s id me leaves
  goes_away role = wrote (cursor_index me.0.station) GONE (left (step slots (cursor_index me.0.station) GONE 0 none) me GONE) leaves (allows_leave hist came p slots id GONE me role refl) (λ m' t. (role, t)) refl

  pub goes_open : me.0.role ≡ Lead → me.0.wrote ≡ [] → MayHand p.stations p.hands.value.items me.0.opened (length me.0.seen) → LastHasEvent me.0.spans → Goes hist came p s id me opens
  goes_open role quiet plan led = wrote (cursor_index me.0.opened) (length me.0.seen) (opened_next (step slots (cursor_index me.0.opened) (length me.0.seen) 0 none) me (length me.0.seen)) opens
      (opens_next hist came p slots id (length me.0.seen) me role quiet plan led refl) (λ m' t. (role, t)) refl

  pub goes_hand : (k : K) → me.0.role ≡ Opening → me.1 ≡ (0, Some k) ∷ [] → map spell (hist k) ≡ me.0.seen → IsLawful (hist k) → ForSome me.0.start (λ s. came s.value k (asked_then p.hands.value.items (length me.0.seen) me.0.asked))
      → Goes hist came p s id me (hands (owner_word free me.0.station (me.0.opened + 1) (length me.0.seen)))
  goes_hand k role carries tells law began =
      let x : ℕ = owner_word free me.0.station (me.0.opened + 1) (length me.0.seen) in
      wrote owner_index x (hands_over (step slots 0 x 0 none) me x) (hands x) (hands_on hist came p slots id x k me role carries tells law began refl) (λ m' t. (role, t)) refl

  pub goes_over : me.0.role ≡ Moving → Goes hist came p s id me moves
  goes_over role = wrote (cursor_index me.0.former) GONE (moves_over (step slots (cursor_index me.0.former) GONE 0 none) me GONE) moves (moves_on hist came p slots id GONE me role refl) (λ m' t. (role, t)) refl
