-- What the places tell stays, whatever the lead writes.
use Rattle.std.proofs.Common.{◌≡◌, ℕ, ◌<◌, ◌⊎◌, inl, inr, ⊎_elim, List, [], ◌∷◌, ◌++◌, length, length-append, sym, ap, subst, ◌∙◌, refl, arith}
use mathlib.Core.Option.{some}
use lib.ListN.{get_elem?}
use Rattle.nv_calls.specs.Calls.{Entry}
use Rattle.nv_calls.specs.Logs.{InRange}
use Rattle.nv_words.specs.Spelling.{low, pair, flag_bit, spell}
use Rattle.nv_room.specs.Logs.{Log, lane}
use Rattle.nv_room.proofs.LogLaws.{lane_stays, lane_begun}
use Rattle.nv_room.specs.Stamps.{Published, Begun, Stamp, Stamps}

-- a table of zeros
pub stamps_first : (c : ℕ) (second : ℕ → ℕ → ℕ) → ((l k : ℕ) → second l k ≡ 0) → Stamps c second [] []
stamps_first c second zeros l k a b = inl (ap low (zeros l k))

longer : (log : Log) (w : List ℕ) (x l number : ℕ) → Stamp log w l number → Stamp log (w ++ x ∷ []) l number
longer log w x l number s = ⊎_elim (λ z. inl z) (λ t. inr (⊎_elim (λ p. inl p) (λ (b : Begun log w l number). inr (record {
  at_head = b.at_head;
  numbered = (let m = b.numbered in let n = length-append w (x ∷ []) in omega arith);
  lane_is = lane_begun log w (x ∷ []) (let m = b.numbered in omega arith) ∙ b.lane_is;
})) t)) s

-- one more word of the event at head, which isn't its second
pub stamps_more : (c : ℕ) (second : ℕ → ℕ → ℕ) (log : Log) (w : List ℕ) (x : ℕ) → Stamps c second log w → Stamps c second log (w ++ x ∷ [])
stamps_more c second log w x s l k a b = longer log w x l (low (second l k)) (s l k a b)

-- its second word, which has its number in the low half
pub stamps_second : (c : ℕ) (second second' : ℕ → ℕ → ℕ) (log : Log) (w : List ℕ) (x : ℕ) → length w ≡ 1 → Stamps c second log w
    → ((l k : ℕ) → l < 8 → k < c → (second' l k ≡ second l k) ⊎ ((l ≡ lane (log ++ (w ++ x ∷ []) ∷ []) (length log)) × (low (second' l k) ≡ length log)))
    → Stamps c second' log (w ++ x ∷ [])
stamps_second c second second' log w x one s changed l k a b = ⊎_elim
    (λ e. subst (λ (z : ℕ). Stamp log (w ++ x ∷ []) l (low z)) (sym e) (longer log w x l (low (second l k)) (s l k a b)))
    (λ e. inr (inr (record { at_head = e.1; numbered = (let n = length-append w (x ∷ []) in omega arith); lane_is = sym e.0 })))
    (changed l k a b)

-- the event is published
pub stamps_published : (c : ℕ) (second : ℕ → ℕ → ℕ) (log : Log) (w : List ℕ) → Stamps c second log w → Stamps c second (log ++ w ∷ []) []
stamps_published c second log w s l k a b =
    let number : ℕ = low (second l k) in
    let more = length-append log (w ∷ []) in
    ⊎_elim (λ z. inl z) (λ t. inr (inl (⊎_elim
    (λ (p : Published log l number). record { below = (let q = p.below in omega arith); lane_is = lane_stays log (w ∷ []) number p.below ∙ p.lane_is })
    (λ (q : Begun log w l number). record { below = (let r = q.at_head in omega arith); lane_is = ap (lane (log ++ w ∷ [])) q.at_head ∙ q.lane_is })
    t))) (s l k a b)

-- word 1 of an event has its number in the low half
low_pair : (a b : ℕ) → a < 4294967296 → low (pair a b) ≡ a
low_pair a b h = omega arith

pub number_word : (e : Entry) → InRange e → (get_elem? (spell e) 1 ≡ some (pair e.stamp (flag_bit e.call.bad))) × (low (pair e.stamp (flag_bit e.call.bad)) ≡ e.stamp)
unfolding spell
number_word e r = (refl, low_pair e.stamp (flag_bit e.call.bad) (let s = r.stamp in omega arith))
