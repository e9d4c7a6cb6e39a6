-- The strings of arguments, one after another.
use Rattle.std.proofs.Common.{◌≡◌, ℕ, suc, zero, ◌+◌, ◌*◌, ◌<◌, ◌≤◌, List, [], ◌∷◌, ◌++◌, length, length-append, get_or, drop, refl, sym, ap, ◌∙◌, arith, append_assoc}
use Rattle.std.specs.Prelude.{map}
use Rattle.nv_memory.specs.Bytes.{put, little_bytes}
use Rattle.nv_memory.proofs.BytesLaws.{put_append}
use Rattle.std.proofs.Common.{Vec, Global, Some, None, nat_le, vec_len, cond}
use Rattle.std.proofs.lemmas.Bool.Decides.{nat_tests}
use Rattle.std.proofs.lemmas.Grind.{common_steps}
use Rattle.std.proofs.Common.{replicate}
use Rattle.nv_guest.specs.Block.{strings, addresses, words, stack_words, all_arguments}
use Rattle.nv_guest.specs.Load.{texts_of}

-- the strings from place i on are string i and the others
pub next_string : {X : Type 0} (f : X → List ℕ) (xs : List X) (i : ℕ) (d : X) → i < length xs → strings (drop i (map f xs)) ≡ (f (get_or xs i d) ++ 0 ∷ []) ++ strings (drop (i + 1) (map f xs))
next_string f [] i d h = absurd (omega arith)
next_string f (x ∷ xs) zero d h = refl
next_string f (x ∷ xs) (suc i) d h = let e : suc i + 1 ≡ suc (i + 1) = omega arith in rw e (next_string f xs i d (omega arith))

-- where the place of string i is known, so is the place after it
pub place_after : {X : Type 0} (f : X → List ℕ) (xs : List X) (i : ℕ) (x : X) (start at : ℕ) → i < length xs → x ≡ get_or xs i x
    → at + length (strings (drop i (map f xs))) ≡ start + length (strings (map f xs))
    → at + (length (f x) + 1) + length (strings (drop (i + 1) (map f xs))) ≡ start + length (strings (map f xs))
place_after {X} f xs i x start at lt is h =
    let n : strings (drop i (map f xs)) ≡ (f x ++ 0 ∷ []) ++ strings (drop (i + 1) (map f xs)) =
    next_string f xs i x lt ∙ ap (λ (y : X). (f y ++ 0 ∷ []) ++ strings (drop (i + 1) (map f xs))) (sym is) in
    omega (arith, h, ap length n, length-append {A = ℕ})

-- what is left to write after string i
pub written_after : {X : Type 0} (f : X → List ℕ) (xs : List X) (i : ℕ) (x : X) (bytes : List ℕ) (at : ℕ) → i < length xs → x ≡ get_or xs i x
    → put bytes at (strings (drop i (map f xs))) ≡ put (put bytes at (f x ++ 0 ∷ [])) (at + (length (f x) + 1)) (strings (drop (i + 1) (map f xs)))
written_after {X} f xs i x bytes at lt is =
    let n : strings (drop i (map f xs)) ≡ (f x ++ 0 ∷ []) ++ strings (drop (i + 1) (map f xs)) =
    next_string f xs i x lt ∙ ap (λ (y : X). (f y ++ 0 ∷ []) ++ strings (drop (i + 1) (map f xs))) (sym is) in
    let k : at + length (f x ++ 0 ∷ []) ≡ at + (length (f x) + 1) = omega (arith, length-append {A = ℕ}) in
    ap (λ (ys : List ℕ). put bytes at ys) n ∙ put_append bytes at (f x ++ 0 ∷ []) _ ∙ ap (λ (m : ℕ). put (put bytes at (f x ++ 0 ∷ [])) m (strings (drop (i + 1) (map f xs)))) k

-- no size is given where the strings are larger than the stack
pub too_large : (n : ℕ) → 65536 < n → None ≡ cond (nat_le n 65536) (Some n) None
too_large n h = grind (arith, nat_tests)

pub length-items : (v : Vec ℕ Global) → length v.items ≡ vec_len v
length-items v = grind (arith, common_steps, v.ok)

-- as place_after, of arguments
pub size_after : (xs : List (Vec ℕ Global)) (i : ℕ) (x : Vec ℕ Global) (n start at : ℕ) → i < length xs → x ≡ get_or xs i x → n ≡ length x.items
    → at + length (strings (drop i (texts_of xs))) ≡ start + length (strings (texts_of xs))
    → at + (n + 1) + length (strings (drop (i + 1) (texts_of xs))) ≡ start + length (strings (texts_of xs))
size_after xs i x n start at lt is size h =
    ap (λ (k : ℕ). at + (k + 1) + length (strings (drop (i + 1) (texts_of xs)))) size ∙ place_after (λ (v : Vec ℕ Global). v.items) xs i x start at lt is h

pub next_address : {X : Type 0} (f : X → List ℕ) (xs : List X) (i : ℕ) (d : X) (a : ℕ) → i < length xs
    → addresses a (drop i (map f xs)) ≡ a ∷ addresses (a + length (f (get_or xs i d)) + 1) (drop (i + 1) (map f xs))
next_address f [] i d a h = absurd (omega arith)
next_address f (x ∷ xs) zero d a h = refl
next_address f (x ∷ xs) (suc i) d a h = let e : suc i + 1 ≡ suc (i + 1) = omega arith in rw e (next_address f xs i d a (omega arith))

-- what is left to write after the address of string i
pub addresses_after : (xs : List (Vec ℕ Global)) (i : ℕ) (x : Vec ℕ Global) (n : ℕ) (bytes : List ℕ) (at a : ℕ) → i < length xs → x ≡ get_or xs i x → n ≡ length x.items
    → put bytes at (words (addresses a (drop i (texts_of xs)))) ≡ put (put bytes at (little_bytes 4 a)) (at + 4) (words (addresses (a + (n + 1)) (drop (i + 1) (texts_of xs))))
addresses_after xs i x n bytes at a lt is size =
    let f = λ (v : Vec ℕ Global). v.items in
    let same : a + length (f (get_or xs i x)) + 1 ≡ a + (n + 1) = omega (arith, ap (λ (v : Vec ℕ Global). length v.items) is, size) in
    let e : addresses a (drop i (texts_of xs)) ≡ a ∷ addresses (a + (n + 1)) (drop (i + 1) (texts_of xs)) =
    next_address f xs i x a lt ∙ ap (λ (k : ℕ). a ∷ addresses k (drop (i + 1) (texts_of xs))) same in
    ap (λ (ns : List ℕ). put bytes at (words ns)) e ∙ put_append bytes at (little_bytes 4 a) (words (addresses (a + (n + 1)) (drop (i + 1) (texts_of xs))))

-- bytes that are written in four parts, one after another
pub four_parts : (bytes : List ℕ) (p q r s : ℕ) (a b c d : List ℕ) → q ≡ p + length a → r ≡ q + length b → s ≡ r + length c
    → put (put (put (put bytes p a) q b) r c) s d ≡ put bytes p (a ++ (b ++ (c ++ d)))
four_parts bytes p q r s a b c d e f g =
    rw (g, f, e) (
    sym (put_append (put (put bytes p a) (p + length a) b) (p + length a + length b) c d)
    ∙ sym (put_append (put bytes p a) (p + length a) b (c ++ d))
    ∙ sym (put_append bytes p a (b ++ (c ++ d))))

-- words that are written after others
pub words-append : (ms ns : List ℕ) → words (ms ++ ns) ≡ words ms ++ words ns
words-append [] ns = refl
words-append (m ∷ ms) ns = ap (λ (bs : List ℕ). little_bytes 4 m ++ bs) (words-append ms ns) ∙ sym (append_assoc (little_bytes 4 m) (words ms) (words ns))

pub length-words : (ns : List ℕ) → length (words ns) ≡ 4 * length ns
length-words [] = refl
length-words (n ∷ ns) = let h : length (words ns) ≡ 4 * length ns = length-words ns in let e : length (little_bytes 4 n ++ words ns) ≡ 4 + length (words ns) = length-append (little_bytes 4 n) (words ns) in omega arith

pub length-addresses : (a : ℕ) (ts : List (List ℕ)) → length (addresses a ts) ≡ length ts
length-addresses a [] = refl
length-addresses a (t ∷ ts) = let h : length (addresses (a + length t + 1) ts) ≡ length ts = length-addresses (a + length t + 1) ts in omega arith

-- each string has at least its 0 byte
pub length-strings : (ts : List (List ℕ)) → length ts ≤ length (strings ts)
length-strings [] = omega arith
length-strings (t ∷ ts) = let h : length ts ≤ length (strings ts) = length-strings ts in omega (arith, length-append (t ++ 0 ∷ []) (strings ts), length-append t (0 ∷ []))

-- the words of the block in four parts
pub stack_parts : (k start : ℕ) (ts : List (List ℕ)) → length ts ≡ k
    → little_bytes 4 (k + 1) ++ (little_bytes 4 start ++ (words (addresses (start + 6) ts) ++ replicate 16 0)) ≡ words (stack_words start (all_arguments ts))
stack_parts k start ts e =
    let zeros : List ℕ = 0 ∷ 0 ∷ 0 ∷ 0 ∷ [] in
    let count : k + 1 ≡ suc (length ts) = omega arith in
    let next : start + 6 ≡ start + 5 + 1 = omega arith in
    ap (λ (n : ℕ). little_bytes 4 n ++ (little_bytes 4 start ++ (words (addresses (start + 6) ts) ++ replicate 16 0))) count
    ∙ ap (λ (w : List ℕ). little_bytes 4 (suc (length ts)) ++ (little_bytes 4 start ++ w)) (sym (words-append (addresses (start + 6) ts) zeros))
    ∙ ap (λ (a : ℕ). little_bytes 4 (suc (length ts)) ++ (little_bytes 4 start ++ words (addresses a ts ++ zeros))) next
