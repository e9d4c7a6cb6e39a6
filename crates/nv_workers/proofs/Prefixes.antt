-- Lists that one history begins with, and where the spans of a station and of those after it begin.
use Rattle.std.proofs.Common.{◌≡◌, sym, ap, refl, ℕ, zero, suc, ◌+◌, ◌<◌, ◌≤◌, List, [], ◌∷◌, ◌++◌, length, take, Some, arith, append-nil, length-append}
use Rattle.std.specs.Prelude.{slice_get}
use Rattle.nv_workers.proofs.Stations.{SpanFrom, Tile}

pub head_is : {X : Type 0} (a b : X) (xs ys : List X) → a ∷ xs ≡ b ∷ ys → (a ≡ b) × (xs ≡ ys)
head_is a b xs ys h = (cc, cc)

-- of two that a list begins with, the longer begins with the shorter
pub prefix_of : {X : Type 0} (a b c d : List X) → a ++ c ≡ b ++ d → length a ≤ length b → (m : List X) × (b ≡ a ++ m)
prefix_of [] b c d h l = (b, refl)
prefix_of (x ∷ a) [] c d h l = absurd (omega arith)
prefix_of (x ∷ a) (y ∷ b) c d h l =
    let k = head_is x y (a ++ c) (b ++ d) h in
    let r = prefix_of a b c d k.1 (omega arith) in
    (r.0, λ i. sym k.0 i ∷ r.1 i)

pub no_more : {X : Type 0} (a c : List X) → length a ≡ length (a ++ c) → a ++ c ≡ a
no_more a [] h = append-nil a
no_more a (x ∷ c) h = absurd (omega (arith, length-append a (x ∷ c)))

-- the part up to a list's own length
pub take_own : {X : Type 0} (a c : List X) → take (length a) (a ++ c) ≡ a
take_own [] c = refl
take_own (x ∷ a) c = ap (λ y. x ∷ y) (take_own a c)

pub take_within : {X : Type 0} (n : ℕ) (a c : List X) → n ≤ length a → take n (a ++ c) ≡ take n a
take_within zero a c h = refl
take_within (suc n) [] c h = absurd (omega arith)
take_within (suc n) (x ∷ a) c h = ap (λ y. x ∷ y) (take_within n a c (omega arith))

-- a list that a history begins with, with the event after it
pub with_next : {X : Type 0} (a c : List X) (e : X) → slice_get (a ++ c) (length a) ≡ Some e → (m : List X) × (a ++ c ≡ (a ++ e ∷ []) ++ m)
with_next [] [] e h = cc
with_next [] (x ∷ c) e h = let k : x ≡ e = cc in (c, λ i. k i ∷ c)
with_next (x ∷ a) c e h = let r = with_next a c e h in (r.0, ap (λ y. x ∷ y) r.1)

module _ (spans : ℕ → List (ℕ × ℕ)) where
  stop_at : (own : List (ℕ × ℕ)) (i n x y stop : ℕ) → spans i ≡ own → (z : ℕ) → SpanFrom own x z → (stop ≤ z) → ((a b : ℕ) → spans i ≡ (a, b) ∷ [] → stop ≤ a) → stop ≤ x
  stop_at [] i n x y stop h z s t f = rw (← s) t
  stop_at ((a, b) ∷ []) i n x y stop h z s t f = rw (← s.0) (f a b h)
  stop_at (p ∷ q ∷ own) i n x y stop h z s t f = absurd s

  -- where no span after begins before `stop`, the next begins there or later
  pub stop_by : (n i x y stop : ℕ) → Tile spans i n x y → stop ≤ y → ((k a b : ℕ) → i ≤ k → k < i + n → spans k ≡ (a, b) ∷ [] → stop ≤ a) → stop ≤ x
  stop_by zero i x y stop t l f = rw t l
  stop_by (suc n) i x y stop t l f =
      let r : stop ≤ t.0 = stop_by n (i + 1) t.0 y stop t.2 l (λ k a b p q s. f k a b (omega arith) (omega arith) s) in
      stop_at (spans i) i n x y stop refl t.0 t.1 r (λ a b s. f i a b (omega arith) (omega arith) s)
