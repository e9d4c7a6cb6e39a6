-- A span that grows by one event.
use Rattle.std.proofs.Common.{◌≡◌, ap, subst, refl, ℕ, zero, suc, ◌+◌, ◌≤◌, List, [], ◌∷◌, ◌++◌, length, get_or, set, Some, arith}
use Rattle.std.specs.Prelude.{slice_get}
use Rattle.nv_replay.specs.Spans.{grown, EndBy}

pub grown_at : (xs : List (ℕ × ℕ)) (k : ℕ) (x : ℕ × ℕ) → suc k ≡ length xs → x ≡ get_or xs k x → set xs k (x.0, x.1 + 1) ≡ grown xs
grown_at [] k x h e = absurd (omega arith)
grown_at (y ∷ []) zero x h e = ap (λ (z : ℕ × ℕ). (z.0, z.1 + 1) ∷ []) e
grown_at (y ∷ []) (suc k) x h e = absurd (omega arith)
grown_at (y ∷ z ∷ zs) zero x h e = absurd (omega arith)
grown_at (y ∷ z ∷ zs) (suc k) x h e = ap (λ l. y ∷ l) (grown_at (z ∷ zs) k x (omega arith) e)

grown_by : (xs : List (ℕ × ℕ)) (n : ℕ) → EndBy n xs → (i : ℕ) (x : ℕ × ℕ) → slice_get (grown xs) i ≡ Some x → x.1 ≤ n + 1
grown_by [] n f i x h = cc
grown_by (y ∷ []) n f zero x h = let e : (y.0, y.1 + 1) ≡ x = cc in let P : ℕ × ℕ
    → Type 0 = λ z. z.1 ≤ n + 1 in subst P e (omega (arith, f.each 0 y refl))
grown_by (y ∷ []) n f (suc i) x h = cc
grown_by (y ∷ z ∷ zs) n f zero x h = omega (arith, f.each 0 x h)
grown_by (y ∷ z ∷ zs) n f (suc i) x h = grown_by (z ∷ zs) n (record { each = λ j t k. f.each (suc j) t k }) i x h

pub grown_end : (xs : List (ℕ × ℕ)) (n : ℕ) → EndBy n xs → EndBy (n + 1) (grown xs)
grown_end xs n f = record { each = grown_by xs n f }

pub grown_last : (xs : List (ℕ × ℕ)) (a b : ℕ) → grown (xs ++ (a, b) ∷ []) ≡ xs ++ (a, b + 1) ∷ []
grown_last [] a b = refl
grown_last (x ∷ []) a b = refl
grown_last (x ∷ y ∷ xs) a b = ap (λ l. x ∷ l) (grown_last (y ∷ xs) a b)

-- a span after others that end before it
last_span : (spans : List (ℕ × ℕ)) (m a b : ℕ) → EndBy m spans → m ≤ b → (i : ℕ) (x : ℕ × ℕ) → slice_get (spans ++ (a, b) ∷ []) i ≡ Some x → x.1 ≤ b
last_span [] m a b e l zero x h = let k : (a, b) ≡ x = cc in let Q : ℕ × ℕ → Type 0 = λ z. z.1 ≤ b in subst Q k (omega arith)
last_span [] m a b e l (suc i) x h = cc
last_span (s ∷ spans) m a b e l zero x h = let k = e.each 0 x h in omega arith
last_span (s ∷ spans) m a b e l (suc i) x h = last_span spans m a b (record { each = λ j y q. e.each (suc j) y q }) l i x h

pub span_end : (spans : List (ℕ × ℕ)) (m a b : ℕ) → EndBy m spans → m ≤ b → EndBy b (spans ++ (a, b) ∷ [])
span_end spans m a b e l = record { each = last_span spans m a b e l }
