-- The Lefts that are back.
use Rattle.std.proofs.Common.{◌≡◌, ℕ, zero, suc, ◌<◌, ◌≢◌, ◌⊎◌, List, [], ◌∷◌, ◌++◌, length, set, sym, refl, ap, ◌∙◌, subst, inl, inr, ⊎_elim, arith, length-set}
use mathlib.Core.Option.{some}
use lib.ListN.{get_elem?}
use Rattle.atomic_table.proofs.Lists.{at_longer, at_last}
use Rattle.atomic_table.specs.Seated.{TableId}
use Rattle.nv_calls.specs.declared.kernel.SyscallKernel.{Ghosts}
use Rattle.nv_room.specs.declared.view.Past.{Past}
use Rattle.nv_room.specs.declared.room.Left.{Left}
use Rattle.nv_room.specs.Lefts.{LeftsOf, Came, Counted}
use Rattle.nv_room.specs.Steps.{past_of}
use Rattle.nv_room.specs.Seats.{left_view}
use Rattle.nv_room.proofs.Lists.{at_end, at_below}

pub at_here : (l : List ℕ) (i x : ℕ) → i < length l → get_elem? (set l i x) i ≡ some x
at_here [] i x h = absurd (omega arith)
at_here (y ∷ ys) zero x h = refl
at_here (y ∷ ys) (suc i) x h = at_here ys i x (omega arith)

pub at_there : (l : List ℕ) (i j x : ℕ) → j ≢ i → get_elem? (set l i x) j ≡ get_elem? l j
at_there [] i j x h = refl
at_there (y ∷ ys) zero zero x h = absurd (h refl)
at_there (y ∷ ys) zero (suc j) x h = refl
at_there (y ∷ ys) (suc i) zero x h = refl
at_there (y ∷ ys) (suc i) (suc j) x h = at_there ys i j x (λ e. h (ap suc e))

module _ {K : Type 0} {G : Ghosts K} where
  pub record Back (n : ℕ) (z : TableId) (all left : List (Left K G)) (xs ys : List ℕ) (es : List Past) : Type 0 where
    pub seats : LeftsOf n z left
    pub wide : length ys ≡ length xs
    pub each : (i : ℕ) (r : Left K G) → get_elem? all i ≡ some r
        → (get_elem? left i ≡ some r) ⊎ (Came r es × (get_elem? ys r.version ≡ some (length (left_view r).seen)) × ((j : ℕ) (q : Left K G) → get_elem? left j ≡ some q → q.version ≢ r.version))

  pub fewer : (n : ℕ) (z : TableId) (left left' : List (Left K G)) (r : Left K G) → left ≡ left' ++ r ∷ [] → LeftsOf n z left → LeftsOf n z left'
  fewer n z left left' r is b = let old = λ (i : ℕ) (x : Left K G) (f : get_elem? left' i ≡ some x). ap (λ (l : List (Left K G)). get_elem? l i) is ∙ at_longer left' (r ∷ []) i x f in
      record { table = λ i x f. b.table i x (old i x f); apart = λ i j x y f g. b.apart i j x y (old i x f) (old j y g) }

  pub last_left : (left left' : List (Left K G)) (r : Left K G) → left ≡ left' ++ r ∷ [] → get_elem? left (length left') ≡ some r
  last_left left left' r is = ap (λ (l : List (Left K G)). get_elem? l (length left')) is ∙ at_last left' r (length left') refl

  pub one_back : (n : ℕ) (z : TableId) (all left left' : List (Left K G)) (r : Left K G) (xs ys ys' : List ℕ) (es es' : List Past) → left ≡ left' ++ r ∷ [] → ys' ≡ set ys r.version r.seen
      → es' ≡ es ++ past_of (left_view r) ∷ [] → length (left_view r).seen ≡ r.seen → n ≡ length xs
      → Back n z all left xs ys es → Back n z all left' xs ys' es'
  one_back n z all left left' r xs ys ys' es es' is put more seen wide b = let m : ℕ = length left' in let here : get_elem? left m ≡ some r = last_left left left' r is in
      let old = λ (i : ℕ) (x : Left K G) (f : get_elem? left' i ≡ some x). ap (λ (l : List (Left K G)). get_elem? l i) is ∙ at_longer left' (r ∷ []) i x f in
      let mine = b.seats.table m r here in let inside : r.version < length ys = (let e = b.wide in let f = mine.1 in omega arith) in
      let others = λ (i : ℕ) (x : Left K G) (f : get_elem? left' i ≡ some x) (e : x.version ≡ r.version). let lt = at_below left' i x f in let same = b.seats.apart i m x r (old i x f) here e in (let q : ⊥ = omega arith in q) in
      let longer : (x : Left K G) → Came x es → Came x es' = λ x h. (h.0, ap (λ (l : List Past). get_elem? l h.0) more ∙ at_longer es (past_of (left_view r) ∷ []) h.0 (past_of (left_view x)) h.1) in
      let Fine : Left K G → Type 0 = λ x. Came x es' × (get_elem? ys' x.version ≡ some (length (left_view x).seen)) × ((j : ℕ) (q : Left K G) → get_elem? left' j ≡ some q → q.version ≢ x.version) in
      let it : Fine r = (
        (length es, ap (λ (l : List Past). get_elem? l (length es)) more ∙ at_last es (past_of (left_view r)) (length es) refl),
        ap
            (λ (l : List ℕ). get_elem? l r.version) put ∙ at_here ys r.version r.seen inside ∙ ap some (sym seen),
        others,
      ) in
      record {
        seats = fewer n z left left' r is b.seats;
        wide = ap length put ∙ length-set ys r.version r.seen ∙ b.wide;
        each = λ i x f. ⊎_elim (λ (h : get_elem? left i ≡ some x). ⊎_elim (λ q. inl q)
            (λ (q : (i ≡ m) × (r ≡ x)). inr (subst Fine q.1 it)) (at_end left' r x i (sym (ap (λ (l : List (Left K G)). get_elem? l i) is) ∙ h)))
            (λ h. inr (let f' : Fine x = (longer x h.0, ap (λ (l : List ℕ). get_elem? l x.version) put ∙ at_there ys r.version x.version r.seen (λ e. h.2 m r here (sym e)) ∙ h.1, λ j q g. h.2 j q (old j q g)) in f')) (b.each i x f);
      }

  pub all_back : (n : ℕ) (z : TableId) (all left : List (Left K G)) (xs ys : List ℕ) (es : List Past) → length left ≡ 0 → Back n z all left xs ys es → Counted all es xs ys
  all_back n z all left xs ys es none b = record {
    wide = b.wide;
    each = λ i r f. ⊎_elim (λ (h : get_elem? left i ≡ some r). let l = at_below left i r h in absurd (omega arith))
        (λ (h : Came r es × (get_elem? ys r.version ≡ some (length (left_view r).seen)) × ((j : ℕ) (q : Left K G) → get_elem? left j ≡ some q
        → q.version ≢ r.version)). let p : Came r es × (get_elem? ys r.version ≡ some (length (left_view r).seen)) = (h.0, h.1) in p) (b.each i r f);
  }
