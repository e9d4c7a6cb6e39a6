-- Which items are there: after one more, after one is let go, and where none was.
use Rattle.std.proofs.Common.{◌≡◌, ◌∙◌, sym, ap, subst, refl, ℕ, zero, suc, ◌+◌, ◌-◌, ◌<◌, ◌≤◌, List, [], ◌∷◌, ◌++◌, length, get_or, Ok, Err, ⊎_elim, nat_cmp, arith}
use Rattle.std.specs.Prelude.{remove, AllPairs}
use Rattle.std.specs.List.Sorted.{IsBinarySearchResult}
use Rattle.std.proofs.lemmas.Bool.{cases_lt}
use Rattle.std.proofs.lemmas.List.{get_or_append_left, get_or_push, length_push, same_lists}
use Rattle.std.proofs.lemmas.List.Edits.{length-remove, get_or-remove_below, get_or-remove_above}
use Rattle.std.proofs.lemmas.List.Elements.{All-push}
use Rattle.std.proofs.lemmas.List.Sorted.{searched}
use Rattle.std.proofs.lemmas.List.Quantifiers.{all_pairs_push, all_pairs_remove}
use Rattle.nv_calls.specs.Tables.{Ascends, Keeps}

pub ascends-push : (count : ℕ) (numbers : List ℕ) → Ascends count numbers → Ascends (count + 1) (numbers ++ count ∷ [])
ascends-push count numbers a = record {
  ordered = all_pairs_push (λ n m. n < m) numbers count a.ordered a.inside;
  inside = All-push (λ n. n < count + 1) numbers count (λ k d h. let few = a.inside k d h in omega (arith, few)) (omega arith);
}

pub ascends-remove : (count : ℕ) (numbers : List ℕ) (place : ℕ) → place < length numbers → Ascends count numbers → Ascends count (remove numbers place)
ascends-remove count numbers place here a = record {
  ordered = all_pairs_remove (λ n m. n < m) numbers place here a.ordered;
  inside = λ k d h. let fewer = length-remove numbers place here in ⊎_elim
      (λ (below : k < place). subst (λ n. n < count) (sym (get_or-remove_below numbers place d k below here)) (a.inside k d (omega (arith, below, here))))
      (λ (above : place ≤ k). subst (λ n. n < count) (sym (get_or-remove_above numbers place d k above here)) (a.inside (k + 1) d (omega (arith, h, fewer))))
      (cases_lt k place);
}

-- so many places further on, a number is so much greater at least
spread : (numbers : List ℕ) → AllPairs (λ n m. n < m) numbers → (k p : ℕ) → p + k < length numbers → get_or numbers p 0 + k ≤ get_or numbers (p + k) 0
spread numbers ordered zero p h = let same = ap (λ n. get_or numbers n 0) (let e : p + 0 ≡ p = omega arith in e) in omega (arith, same)
spread numbers ordered (suc k) p h =
    let less = spread numbers ordered k p (omega (arith, h)) in
    let more = ordered (p + k) (p + suc k) 0 (omega arith) h in
    omega (arith, less, more)

-- where as many are there as came, each is at the place of its number
pub number-is : (count : ℕ) (numbers : List ℕ) → Ascends count numbers → length numbers ≡ count → (p : ℕ) → p < length numbers → get_or numbers p 0 ≡ p
number-is count numbers a all p h =
    let start : 0 + p ≡ p = omega arith in
    let low = spread numbers a.ordered p 0 (omega (arith, h, start)) in
    let here = ap (λ n. get_or numbers n 0) start in
    let last = length numbers - 1 - p in
    let high = spread numbers a.ordered last p (omega (arith, h)) in
    let few = a.inside (p + last) 0 (omega (arith, h)) in
    omega (arith, low, here, high, few, all, h)

module _ {T : Type 0} (items : List T) (numbers : List ℕ) (kept : List T) where
  pub keeps-push : (one : T) → Ascends (length items) numbers → Keeps items numbers kept → Keeps (items ++ one ∷ []) (numbers ++ length items ∷ []) (kept ++ one ∷ [])
  keeps-push one a k = record {
    as_many = let i = length_push kept one in let j = length_push numbers (length items) in let same = k.as_many in omega (arith, i, j, same);
    each = λ p x h. let long = length_push numbers (length items) in ⊎_elim
        (λ (below : p < length numbers).
        get_or_append_left kept (one ∷ []) x p (let same = k.as_many in omega (arith, below, same)) ∙ k.each p x below
        ∙ sym (get_or_append_left items (one ∷ []) x (get_or numbers p 0) (a.inside p 0 below))
        ∙ ap (λ n. get_or (items ++ one ∷ []) n x) (sym (get_or_append_left numbers (length items ∷ []) 0 p below)))
        (λ (over : length numbers ≤ p).
        get_or_push kept one x p (let same = k.as_many in omega (arith, over, same, h, long)) ∙ sym (get_or_push items one x (length items) refl)
        ∙ ap (λ n. get_or (items ++ one ∷ []) n x) (sym (get_or_push numbers (length items) 0 p (omega (arith, over, h, long)))))
        (cases_lt p (length numbers));
  }

  pub keeps-remove : (place : ℕ) → place < length numbers → Keeps items numbers kept → Keeps items (remove numbers place) (remove kept place)
  keeps-remove place here k =
      let within : place < length kept = (let same = k.as_many in omega (arith, here, same)) in
      let fewer = length-remove numbers place here in
      record {
        as_many = let fewer' = length-remove kept place within in let same = k.as_many in omega (arith, fewer, fewer', same);
        each = λ p x h. ⊎_elim
            (λ (below : p < place).
            get_or-remove_below kept place x p below within ∙ k.each p x (omega (arith, below, here))
            ∙ ap (λ n. get_or items n x) (sym (get_or-remove_below numbers place 0 p below here)))
            (λ (above : place ≤ p).
            get_or-remove_above kept place x p above within ∙ k.each (p + 1) x (omega (arith, h, fewer))
            ∙ ap (λ n. get_or items n x) (sym (get_or-remove_above numbers place 0 p above here)))
            (cases_lt p place);
      }

  pub keeps-all : Ascends (length items) numbers → Keeps items numbers kept → length numbers ≡ length items → kept ≡ items
  keeps-all a k all = same_lists kept items (k.as_many ∙ all) (λ p x h. let inside : p < length numbers = (let same = k.as_many in omega (arith, h, same)) in
      k.each p x inside ∙ ap (λ n. get_or items n x) (number-is (length items) numbers a all p inside))

-- ascending numbers as a binary search asks for them
no-less : (count : ℕ) (numbers : List ℕ) → Ascends count numbers → (j k : ℕ) → j ≤ k → k < length numbers → get_or numbers j 0 ≤ get_or numbers k 0
no-less count numbers a j k less inside = ⊎_elim
    (λ (below : j < k). let l = a.ordered j k 0 below inside in omega (arith, l))
    (λ (over : k ≤ j). let same : j ≡ k = omega (arith, over, less) in let e = ap (λ n. get_or numbers n 0) same in omega (arith, e))
    (cases_lt j k)

-- where a binary search finds a number, it is; and a number that it doesn't find is none of them
pub found : (count : ℕ) (numbers : List ℕ) (number i : ℕ) → Ascends count numbers → IsBinarySearchResult (λ y. nat_cmp y number) numbers (Ok i) → get_or numbers i 0 ≡ number
found count numbers number i a is = (searched numbers number (Ok i) is (no-less count numbers a)).1

pub not-found : (count : ℕ) (numbers : List ℕ) (number i : ℕ) → Ascends count numbers → IsBinarySearchResult (λ y. nat_cmp y number) numbers (Err i) → (p : ℕ) → p < length numbers → get_or numbers p 0 ≡ number → ⊥
not-found count numbers number i a is p h same =
    let parts = searched numbers number (Err i) is (no-less count numbers a) in ⊎_elim
    (λ (below : p < i). let l = parts.1 p below in omega (arith, l, same))
    (λ (over : i ≤ p). let l = parts.2 p over h in omega (arith, l, same))
    (cases_lt p i)
