-- Those that wait, as one leaves.
use Rattle.std.proofs.Common.{◌≡◌, ◌∙◌, sym, ap, refl, ℕ, zero, suc, ◌+◌, ◌<◌, Bool, true, false, cond, ◌==◌, List, [], ◌∷◌, Some, None, arith}
use Rattle.std.specs.Prelude.{remove}
use Rattle.std.specs.List.{position_from}
use Rattle.nv_sockets.specs.declared.waiting.Waiting.{Waiting}
use Rattle.nv_sockets.specs.Sockets.{without}

abbrev numbered : ℕ → Waiting → Bool
numbered i w = w.connection == i

by_test : (b : Bool) (P : Type 0) → (b ≡ true → P) → (b ≡ false → P) → P
by_test true P t f = t refl
by_test false P t f = f refl

module _ (i k : ℕ) (w : Waiting) (ws : List Waiting) where
  found_here : (w.connection == i) ≡ true → position_from (numbered i) k (w ∷ ws) ≡ Some k
  found_here h = ap (λ (z : Bool). cond z (Some k) (position_from (numbered i) (k + 1) ws)) h

  found_later : (w.connection == i) ≡ false → position_from (numbered i) k (w ∷ ws) ≡ position_from (numbered i) (k + 1) ws
  found_later h = ap (λ (z : Bool). cond z (Some k) (position_from (numbered i) (k + 1) ws)) h

module _ (i : ℕ) (w : Waiting) (ws : List Waiting) where
  leaves_here : (w.connection == i) ≡ true → ws ≡ without i (w ∷ ws)
  leaves_here h = sym (ap (λ (z : Bool). cond z ws (w ∷ without i ws)) h)

  leaves_later : (w.connection == i) ≡ false → w ∷ without i ws ≡ without i (w ∷ ws)
  leaves_later h = sym (ap (λ (z : Bool). cond z ws (w ∷ without i ws)) h)

some_same : (m n : ℕ) → Some m ≡ Some n → m ≡ n
some_same m n e = cc

none_some : (m : ℕ) → Some m ≡ None → ⊥
none_some m e = cc

-- a place is counted from the first one on
not_before : (i k m : ℕ) (ws : List Waiting) → m < k → position_from (numbered i) k ws ≡ Some m → ⊥
not_before i k m [] l e = none_some m (sym e)
not_before i k m (w ∷ ws) l e =
    by_test (w.connection == i) ⊥ (λ t. let f = some_same k m (sym (found_here i k w ws t) ∙ e) in omega (arith, f, l))
    (λ f. not_before i (k + 1) m ws (omega (arith, l)) (sym (found_later i k w ws f) ∙ e))

pub left_none : (i k : ℕ) (ws : List Waiting) → position_from (numbered i) k ws ≡ None → ws ≡ without i ws
left_none i k [] e = refl
left_none i k (w ∷ ws) e =
    by_test (w.connection == i) (w ∷ ws ≡ without i (w ∷ ws)) (λ t. absurd (none_some k (sym (found_here i k w ws t) ∙ e)))
    (λ f. ap (λ (z : List Waiting). w ∷ z) (left_none i (k + 1) ws (sym (found_later i k w ws f) ∙ e)) ∙ leaves_later i w ws f)

pub left_some : (i k n : ℕ) (ws : List Waiting) → position_from (numbered i) k ws ≡ Some (k + n) → remove ws n ≡ without i ws
left_some i k n [] e = absurd (none_some (k + n) (sym e))
left_some i k zero (w ∷ ws) e =
    by_test (w.connection == i) (ws ≡ without i (w ∷ ws)) (leaves_here i w ws)
    (λ f. absurd (not_before i (k + 1) (k + 0) ws (omega arith) (sym (found_later i k w ws f) ∙ e)))
left_some i k (suc n) (w ∷ ws) e =
    by_test (w.connection == i) (w ∷ remove ws n ≡ without i (w ∷ ws)) (λ t. absurd (let f = some_same k (k + suc n) (sym (found_here i k w ws t) ∙ e) in omega (arith, f)))
    (λ f.
    let same : k + suc n ≡ k + 1 + n = omega arith in
    ap (λ (z : List Waiting). w ∷ z) (left_some i (k + 1) n ws (sym (found_later i k w ws f) ∙ e ∙ ap Some same)) ∙ leaves_later i w ws f)
