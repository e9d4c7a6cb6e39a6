-- What a step of a room tells of its seat and of the words.
use Rattle.std.specs.Prelude.{◌≡◌, ◌⊎◌, ℕ, ◌+◌, ◌<◌, List, ◌++◌, [], ◌∷◌, length, slice_set, slice_index_or, Option, Some}
use mathlib.Core.Option.{some}
use lib.ListN.{get_elem?}
use Rattle.atomic_table.specs.Table.{State, Me, Step}
use Rattle.nv_calls.specs.Calls.{Entry}
use Rattle.nv_calls.specs.Limits.{MOST_EVENTS}
use Rattle.nv_room.specs.Header.{owner_index, head_index, cursor_index}
use Rattle.nv_room.specs.Logs.{lanes_after}
use Rattle.nv_room.specs.declared.view.View.{View}
use Rattle.nv_room.specs.declared.view.Layout.{Layout}
use Rattle.nv_room.specs.declared.view.Role.TheVariants.{Reader, Lead, Opening, Leaving, Moving}
use Rattle.nv_room.specs.Owner.{GONE, held, owner_word}
use Rattle.nv_room.specs.Placement.{word_place, next_slot}
use Rattle.nv_room.specs.Room.{Rule}
use Rattle.nv_room.specs.Steps.{looked_head, looked_owner, looked_cursor, spare, read_word, probed, goes_ahead, wrote_word, published, gave_up, took, opens as opened_next, hands_over, moves_over, left}
use Rattle.nv_room.specs.Kinds.{Kind, looks_head, looks_owner, looks_cursor, looks_spare, probes, reads, writes, sees, publishes, takes, gives_up, leaves, opens, hands, moves}

-- what the room asks of the seat before such a step, and what its play tells of the seat after it
module _ {K : Type 0} (hist : K → List Entry) (came : K → K → List ℕ → Type 0) (st : Step (Option K)) (m m' : Me (Option K) (View K)) where
  abbrev pub Plays : Kind → Type 0
  Plays (looks_head r) = looked_head st m r m'
  Plays (looks_owner r) = (m.0.role ≡ Reader) × looked_owner st m r m'
  Plays (looks_cursor s r) = (st.word ≡ cursor_index s) × looked_cursor st m r m'
  Plays (looks_spare r) = (m.0.role ≡ Lead) × spare st m r m'
  Plays (probes l r) = (m.0.role ≡ Reader) × (l < 8) × (st.word ≡ next_slot (length m.0.floors) m.0.places (lanes_after m.0.seen) l 1) × probed st m r m'
  Plays (reads r) = (m.0.role ≡ Reader) × read_word st m r m'
  Plays (writes r) = (m.0.role ≡ Lead) × wrote_word st m r m'
  Plays sees = (m.0.role ≡ Reader) × goes_ahead st m (length m.0.seen + 1) m'
  Plays publishes = (m.0.role ≡ Lead) × (length m.0.seen < MOST_EVENTS) × published st m (length m.0.seen + 1) m'
  Plays takes = (m.0.role ≡ Reader) × (m.0.freed ≡ Some (length m.0.seen)) × took hist came st m (owner_word held m.0.station m.0.opened (length m.0.seen)) m'
  Plays (gives_up r) = (m.0.role ≡ Lead) × gave_up st m r m'
  Plays leaves = ((m.0.role ≡ Reader) ⊎ (m.0.role ≡ Leaving)) × left st m GONE m'
  Plays opens = (m.0.role ≡ Lead) × opened_next st m (length m.0.seen) m'
  Plays (hands r) = (m.0.role ≡ Opening) × hands_over st m r m'
  Plays moves = (m.0.role ≡ Moving) × moves_over st m GONE m'

-- the words after such a step of a seat with this view
module _ {T : Type 0} (p : Layout T) (v : View T) (ws : List ℕ) where
  abbrev pub written : Kind → List ℕ
  written (looks_head r) = ws
  written (looks_owner r) = ws
  written (looks_cursor s r) = ws
  written (looks_spare r) = ws
  written (probes l r) = ws
  written (reads r) = ws
  written (writes r) = slice_set ws (word_place p.stations p.places (v.seen ++ (v.wrote ++ r ∷ []) ∷ []) (length v.seen) (length v.wrote)) r
  written sees = slice_set ws (cursor_index v.station) (length v.seen + 1)
  written publishes = slice_set ws head_index (length v.seen + 1)
  written takes = slice_set ws owner_index (owner_word held v.station v.opened (length v.seen))
  written (gives_up r) = slice_set ws owner_index r
  written leaves = slice_set ws (cursor_index v.station) GONE
  written opens = slice_set ws (cursor_index v.opened) (length v.seen)
  written (hands r) = slice_set ws owner_index r
  written moves = slice_set ws (cursor_index v.former) GONE

-- the seat id takes a step of this kind, and the other seats stay as they are
pub record Does {K : Type 0} (hist : K → List Entry) (came : K → K → List ℕ → Type 0) (p : Layout K) (s s' : State (Option K) (View K)) (id : ℕ) (kind : Kind) : Type 0 where
  pub step : Step (Option K)
  pub me : Me (Option K) (View K)
  pub next : Me (Option K) (View K)
  pub at : get_elem? s.views id ≡ some me.0
  pub plays : Plays hist came step me next kind
  pub words : s'.words ≡ written p me.0 s.words kind
  pub views : s'.views ≡ slice_set s.views id next.0

-- the seat id, with this view and these slots, may take such a step, to a state that meets the rule
abbrev pub Goes : {K : Type 0} → (K → List Entry) → (K → K → List ℕ → Type 0) → Layout K → State (Option K) (View K) → ℕ → Me (Option K) (View K) → Kind → Type 0
Goes {K} hist came p s id me k = (u : State (Option K) (View K)) × Rule hist came p u × ((d : Does hist came p s u id k) × (d.me.0 ≡ me.0))

-- it may in each state that meets the rule and has it so; what it finds there is the state's
abbrev pub MayDo : {K : Type 0} → (K → List Entry) → (K → K → List ℕ → Type 0) → Layout K → ℕ → Me (Option K) (View K) → (List ℕ → Kind) → Type 0
MayDo {K} hist came p id me kind = (s : State (Option K) (View K)) → Rule hist came p s → get_elem? s.views id ≡ some me.0 → ((i : ℕ) → slice_index_or s.words i 0 < 18446744073709551616) → Goes hist came p s id me (kind s.words)
