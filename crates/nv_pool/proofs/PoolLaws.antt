-- A pool that is one payload further.
use Rattle.std.proofs.Common.{◌≡◌, ℕ, ◌+◌, ◌-◌, ◌%◌, ◌<◌, ◌≤◌, ◌⊎◌, inl, inr, ⊎_elim, lt_of_not-le, List, [], ◌∷◌, ◌++◌, length, get_or, set, sym, ap, ◌∙◌, subst, arith, mod-lt, length-append, get_or-set_other, get_or-set_same}
use mathlib.Core.Logic.{dite}
use native.Mathlib.Decide.{ℕ_discrete, dec_le}
use Rattle.std.proofs.Math.Nat.{mod-add-mod, add-mod_left, mod-eq_of_lt}
use Rattle.atomic_table.proofs.Lists.{one_turn}
use Rattle.nv_pool.specs.Chunks.{AllUpTo, chunks_in, chunks_of_first}
use Rattle.std.proofs.lemmas.List.{set_past}
use Rattle.nv_pool.proofs.ChunkLaws.{chunks_before_push, chunks_before_all}

-- the chunks before each of the last `places` of these payloads
abbrev pub Starts : ℕ → List ℕ → List ℕ → Type 0
Starts places starts sizes = (i : ℕ) → i < length sizes → length sizes ≤ i + places → get_or starts (i % places) 0 ≡ chunks_of_first sizes i

pub starts_push : (places : ℕ) (starts sizes : List ℕ) (b : ℕ) → 0 < places → length starts ≡ places → Starts places starts sizes → Starts places (set starts (length sizes % places) (chunks_in sizes)) (sizes ++ b ∷ [])
starts_push places starts sizes b pos wide h i below near =
    let long : length (sizes ++ b ∷ []) ≡ length sizes + 1 = length-append sizes (b ∷ []) in
    let at : ℕ = length sizes % places in
    let inside : at < places = mod-lt (length sizes) pos in
    dite (ℕ_discrete i (length sizes))
    (λ e. ap (λ (k : ℕ). get_or (set starts at (chunks_in sizes)) (k % places) 0) e ∙ get_or-set_same starts at (chunks_in sizes) 0 (omega arith)
    ∙ sym (chunks_before_all sizes) ∙ ap (chunks_of_first sizes) (sym e) ∙ sym (chunks_before_push sizes b i (omega arith)))
    (λ ne. let less : i < length sizes = omega arith in
    get_or-set_other starts at (i % places) (chunks_in sizes) 0 (λ q. ne (one_turn i (length sizes) places (omega arith) (omega arith) q))
    ∙ h i less (omega arith) ∙ sym (chunks_before_push sizes b i (omega arith)))

-- what is after by less than two turns, within its turn
one_or_two : (m n : ℕ) → m < n + n → (m % n ≡ m) ⊎ (m % n + n ≡ m)
one_or_two m n l = dite (dec_le n m)
    (λ le. inr (let d : m ≡ n + (m - n) = omega arith in let w : m - n < n = omega arith in
    let e : m % n ≡ m - n = ap (λ (k : ℕ). k % n) d ∙ (add-mod_left n (m - n) ∙ mod-eq_of_lt w) in omega arith))
    (λ gt. inl (mod-eq_of_lt (lt_of_not-le gt)))

-- the place that is k places back from that of number e + k
pub back_is : (e k n r : ℕ) → k ≤ n → r < n → (r + k ≡ (e + k) % n) ⊎ (r + k ≡ (e + k) % n + n) → r ≡ e % n
back_is e k n r near below d =
    let q : ℕ = e % n in
    let l : q < n = mod-lt e (let p : 0 < n = omega arith in p) in
    let s : (q + k) % n ≡ (e + k) % n = mod-add-mod e n k in
    ⊎_elim (λ (a : (q + k) % n ≡ q + k). ⊎_elim (λ (b : r + k ≡ (e + k) % n). omega arith) (λ (b : r + k ≡ (e + k) % n + n). omega arith) d)
    (λ (a : (q + k) % n + n ≡ q + k). ⊎_elim (λ (b : r + k ≡ (e + k) % n). omega arith) (λ (b : r + k ≡ (e + k) % n + n). omega arith) d)
    (one_or_two (q + k) n (omega arith))

pub turned : (a b n : ℕ) → (a % n + b) % n ≡ (a + b) % n
turned a b n = mod-add-mod a n b

-- a list of numbers up to one, in which that one is put
pub all_set : (most more : ℕ) (xs : List ℕ) (at : ℕ) → most ≤ more → AllUpTo most xs → AllUpTo more (set xs at most)
all_set most more xs at le all i = dite (ℕ_discrete i at)
    (λ e. dite (dec_le (length xs) at)
    (λ past. subst (λ (z : List ℕ). get_or z i 0 ≤ more) (sym (set_past xs at most past)) (let a = all i in omega arith))
    (λ gt. subst (λ (z : ℕ). z ≤ more) (sym (ap (λ (k : ℕ). get_or (set xs at most) k 0) e ∙ get_or-set_same xs at most 0 (lt_of_not-le gt))) le))
    (λ ne. subst (λ (z : ℕ). z ≤ more) (sym (get_or-set_other xs at i most 0 ne)) (let a = all i in omega arith))
