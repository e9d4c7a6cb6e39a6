-- What a step is, and what it makes of its seat's view.
use Rattle.std.specs.Prelude.{◌≡◌, ◌⊎◌, ℕ, ◌<◌, List, [], ◌∷◌, length}
use Rattle.nv_calls.specs.Limits.{MOST_EVENTS}
use Rattle.nv_room.specs.declared.view.View.{View}
use Rattle.nv_room.specs.declared.view.Role.TheVariants.{Reader, Lead, Opening, Leaving, Moving}
use Rattle.nv_room.specs.Steps.{head_seen, owner_seen, word_seen, probed_at, one_on, cursor_seen, word_put, one_out, as_leaving, as_lead, as_opening, as_moving, as_reader, as_gone}

-- what a step does: it looks at a word, at a station's cursor, or at a lane, or where nothing moves; it reads or writes a word; or it gets on
pub data Kind : Type 0 where
  looks_head : ℕ → Kind
  looks_owner : ℕ → Kind
  looks_cursor : ℕ → ℕ → Kind
  looks_spare : ℕ → Kind
  probes : ℕ → ℕ → Kind
  reads : ℕ → Kind
  writes : ℕ → Kind
  sees : Kind
  publishes : Kind
  takes : Kind
  gives_up : ℕ → Kind
  leaves : Kind
  opens : Kind
  hands : ℕ → Kind
  moves : Kind

-- the view after such a step of a room of n stations, and when it is taken
module _ {T : Type 0} (n : ℕ) (v w : View T) where
  abbrev pub StepGives : Kind → Type 0
  StepGives (looks_head r) = w ≡ head_seen v r
  StepGives (looks_owner r) = w ≡ owner_seen v r
  StepGives (looks_cursor s r) = w ≡ cursor_seen s v r
  StepGives (looks_spare r) = w ≡ v
  StepGives (probes l r) = w ≡ probed_at l v r
  StepGives (reads r) = w ≡ word_seen v r
  StepGives (writes r) = w ≡ word_put v r
  StepGives sees = (length v.seen < MOST_EVENTS) × (w ≡ one_on v)
  StepGives publishes = (length v.seen < MOST_EVENTS) × (w ≡ one_out v)
  StepGives takes = (v.role ≡ Reader) × (w ≡ as_lead w.asked v)
  StepGives (gives_up r) = (v.role ≡ Lead) × (w ≡ as_leaving v r)
  StepGives leaves = ((v.role ≡ Reader) ⊎ (v.role ≡ Leaving)) × (w ≡ as_gone v)
  StepGives opens = (v.role ≡ Lead) × (w ≡ as_opening v)
  StepGives (hands r) = (v.role ≡ Opening) × (v.station < v.opened) × (v.opened < n) × (w ≡ as_moving v r)
  StepGives moves = (v.role ≡ Moving) × (w ≡ as_reader v)

-- the seat's view after steps of these kinds
abbrev pub Went : {T : Type 0} → ℕ → View T → List Kind → View T → Type 0
Went n v [] w = w ≡ v
Went {T} n v (k ∷ ks) w = (u : View T) × StepGives n v u k × Went n u ks w

-- the seat's view after some steps
abbrev pub Stepped : {T : Type 0} → ℕ → View T → View T → Type 0
Stepped n v w = (ks : List Kind) × Went n v ks w
