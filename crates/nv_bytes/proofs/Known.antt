-- What tables and maps of names know.
use Rattle.std.proofs.Common.{◌≡◌, ℕ, ◌+◌, ◌<◌, ◌≤◌, length, drop, get_or, Bool, true, false, cond, List, [], ◌∷◌, Option, Some, None, is_some, bytes_eq, refl, sym, ap, ◌∙◌}
use Rattle.std.specs.Option.{option_or}
use Rattle.std.specs.Ordering.{is_eq, nat_cmp}
use Rattle.std.specs.Cmp.Lexicographic.{slice_cmp}
use Rattle.std.specs.Map.{lookup}
use Rattle.std.proofs.lemmas.List.{at_drop_more, at_drop_all}
use Rattle.std.proofs.lemmas.Map.Text.{is_eq-slice_cmp}
use Rattle.std.proofs.lemmas.Slice.Eq.{bytes_eq-Decides}
use denote.Ref.{Bor}
use Rattle.nv_bytes.specs.Names.{defined, knowing, named}

-- a look-up finds the first definition
pub lookup-named : {D : Type 0} (entries : List (Bor (List ℕ) × D)) (name : List ℕ) →
    lookup (λ key. is_eq (slice_cmp nat_cmp name key.now)) entries ≡ defined (named entries) name
unfolding defined
lookup-named [] name = refl
lookup-named (e ∷ entries) name = rw (is_eq-slice_cmp name e.0.now, lookup-named entries name) refl

or-none : {D : Type 0} (x : Option D) → x ≡ option_or x None
or-none None = refl
or-none (Some d) = refl

or-some : {D : Type 0} (x y : Option D) → is_some x ≡ true → x ≡ option_or x y
or-some None y e = cc
or-some (Some d) y e = refl

equal : (a b : List ℕ) → bytes_eq a b ≡ true → a ≡ b
equal a b e = (bytes_eq-Decides a b).0 e

-- a name that is known stays as it is
pub known-kept : {D : Type 0} (names : List (List ℕ × D)) (name : List ℕ) (d : D) → is_some (defined names name) ≡ true → (other : List ℕ) → defined names other ≡ knowing names name d other
known-kept {D = D} names name d some other = step (bytes_eq other name) refl where
  step : (same : Bool) → bytes_eq other name ≡ same → defined names other ≡ option_or (defined names other) (cond same (Some d) None)
  step true e = or-some (defined names other) (Some d) (ap (λ n. is_some (defined names n)) (equal other name e) ∙ some)
  step false e = or-none (defined names other)

-- a name that isn't known gets its definition
pub known-added : {D : Type 0} (names now : List (List ℕ × D)) (name : List ℕ) (d : D) → defined names name ≡ None
    → ((other : List ℕ) → defined now other ≡ cond (bytes_eq name other) (Some d) (defined names other)) → (other : List ℕ) → defined now other ≡ knowing names name d other
known-added {D = D} names now name d absent is other = is other ∙ step (bytes_eq name other) (bytes_eq other name) refl refl where
  step : (x y : Bool) → bytes_eq name other ≡ x → bytes_eq other name ≡ y → cond x (Some d) (defined names other) ≡ option_or (defined names other) (cond y (Some d) None)
  step true true e f = let none : defined names other ≡ None = ap (defined names) (sym (equal name other e)) ∙ absent in rw none refl
  step true false e f = let same = (bytes_eq-Decides other name).1 (sym (equal name other e)) in cc
  step false true e f = let same = (bytes_eq-Decides name other).1 (sym (equal other name f)) in cc
  step false false e f = or-none (defined names other)

pub none-from_test : {D : Type 0} (x : Option D) → is_some x ≡ false → x ≡ None
none-from_test None e = refl
none-from_test (Some d) e = cc

-- what an insertion into a map adds
pub known-inserted : {D : Type 0} (old new : List (Bor (List ℕ) × D)) (names : List (List ℕ × D)) (name : List ℕ) (d : D) → named old ≡ names
    → is_some (lookup (λ key. is_eq (slice_cmp nat_cmp name key.now)) old) ≡ false
    → ((q : Bor (List ℕ)) → lookup (λ key. is_eq (slice_cmp nat_cmp q.now key.now)) new ≡ cond (is_eq (slice_cmp nat_cmp name q.now)) (Some d) (lookup (λ key. is_eq (slice_cmp nat_cmp q.now key.now)) old))
    → (other : List ℕ) → defined (named new) other ≡ knowing names name d other
known-inserted {D = D} old new names name d view absent updates other =
    known-added names (named new) name d
    (ap (λ ds. defined ds name) (sym view) ∙ sym (lookup-named old name) ∙ none-from_test _ absent)
    (λ o. sym (lookup-named new o) ∙ updates (record { ref_ptr = (0, 0); now = o })
    ∙ ap (λ t. cond t (Some d) (lookup (λ key. is_eq (slice_cmp nat_cmp o key.now)) old)) (is_eq-slice_cmp name o)
    ∙ ap (λ found. cond (bytes_eq name o) (Some d) found) (lookup-named old o ∙ ap (λ ds. defined ds o) view))
    other

-- the entry at a place of a table, else those after it
pub defined-at : {D : Type 0} (table : List (Bor (List ℕ) × D)) (word : List ℕ) (i : ℕ) (entry : Bor (List ℕ) × D) → i < length table → entry ≡ get_or table i entry
    → defined (named (drop i table)) word ≡ cond (bytes_eq word entry.0.now) (Some entry.1) (defined (named (drop (i + 1) table)) word)
unfolding defined
defined-at {D = D} table word i entry h e =
    at_drop_more (λ rest. defined (named rest) word) table i entry h
    ∙ ap (λ (x : Bor (List ℕ) × D). cond (bytes_eq word x.0.now) (Some x.1) (defined (named (drop (i + 1) table)) word)) (sym e)

pub defined-past : {D : Type 0} (table : List (Bor (List ℕ) × D)) (word : List ℕ) (i : ℕ) → length table ≤ i → defined (named (drop i table)) word ≡ None
unfolding defined
defined-past table word i h = at_drop_all (λ rest. defined (named rest) word) table i h
