-- A word and what a space parts from it; a text and the newline that ends it.
use Rattle.std.proofs.Common.{◌≡◌, ℕ, ◌+◌, ◌-◌, ◌<◌, ◌==◌, not, Bool, true, false, cond, codes, append_assoc, List, [], ◌∷◌, ◌++◌, Some, length, take, drop, get_or, refl, sym, ap, ◌∙◌, arith}
use Rattle.std.specs.List.{All, list_all, prefix_len}
use Rattle.std.proofs.lemmas.Bool.{and_parts}
use Rattle.std.proofs.lemmas.Bool.Decides.{nat_tests}
use Rattle.std.proofs.lemmas.List.{take_all, take_more}
use Rattle.std.proofs.lemmas.List.Elements.{All-head, All-tail, All-nil, All-cons}
use Rattle.nv_bytes.specs.Fields.{is_not_space, without_first, first_word, rest_of}
use Rattle.nv_bytes.specs.Numbers.{hex_of}
use Rattle.std.proofs.Common.{Fits, w8}
use Rattle.nv_script.specs.Arrivals.{AreBytes}
use Rattle.nv_script.specs.Writing.{is_printable, front, is_line, input_text}

abbrev pub Lacks : ℕ → ℕ → Type 0
Lacks byte c = (c == byte) ≡ false

word-length : (word rest : List ℕ) → All (Lacks 32) word → prefix_len is_not_space (word ++ 32 ∷ rest) ≡ length word
word-length [] rest h = refl
word-length (b ∷ bs) rest h =
    let later : 1 + prefix_len is_not_space (bs ++ 32 ∷ rest) ≡ length (b ∷ bs) = ap (λ n. 1 + n) (word-length bs rest (All-tail (Lacks 32) b bs h)) ∙ omega arith in
    rw (All-head (Lacks 32) b bs h) later

take-word : (word rest : List ℕ) → take (length word) (word ++ rest) ≡ word
take-word [] rest = refl
take-word (b ∷ bs) rest = ap (λ t. b ∷ t) (take-word bs rest)

drop-word : (word rest : List ℕ) → drop (length word) (word ++ rest) ≡ rest
drop-word [] rest = refl
drop-word (b ∷ bs) rest = drop-word bs rest

pub word-first : (word rest : List ℕ) → All (Lacks 32) word → first_word (word ++ 32 ∷ rest) ≡ word
word-first word rest h = ap (λ n. take n (word ++ 32 ∷ rest)) (word-length word rest h) ∙ take-word word (32 ∷ rest)

pub word-rest : (word rest : List ℕ) → All (Lacks 32) word → rest_of (word ++ 32 ∷ rest) ≡ Some rest
word-rest word rest h = ap (λ n. without_first (drop n (word ++ 32 ∷ rest))) (word-length word rest h) ∙ ap without_first (drop-word word (32 ∷ rest))

no-test : (x : Bool) → not x ≡ true → x ≡ false
no-test true e = cc
no-test false e = refl

-- a word that is known
pub plain : (word : List ℕ) → list_all (λ c. not (c == 10)) word ≡ true → All (Lacks 10) word
plain [] e = All-nil (Lacks 10)
plain (b ∷ bs) e =
    let parts = and_parts (not (b == 10)) (list_all (λ c. not (c == 10)) bs) e in
    All-cons (Lacks 10) b bs (no-test (b == 10) parts.0) (plain bs parts.1)

-- ---- a printable text and its newline

pub line-none : (bytes : List ℕ) → length bytes < 1 → false ≡ is_line bytes
unfolding is_line
line-none [] none = refl
line-none (b ∷ bs) none = absurd (omega arith)

whole-some : (bytes : List ℕ) → 0 < length bytes → (get_or bytes (length bytes - 1) 0 == 10) ≡ true → front bytes ++ 10 ∷ [] ≡ bytes
whole-some bytes some last =
    let ten : get_or bytes (length bytes - 1) 0 ≡ 10 = grind (arith, nat_tests) in
    ap (λ (x : ℕ). front bytes ++ x ∷ []) (sym ten) ∙ sym (take_more bytes (length bytes - 1) 0 (omega arith)) ∙ take_all (length bytes - 1 + 1) bytes (omega arith)

-- the text and a newline are the bytes
pub line-whole : (bytes : List ℕ) → is_line bytes ≡ true → front bytes ++ 10 ∷ [] ≡ bytes
unfolding is_line
line-whole [] e = cc
line-whole (b ∷ bs) e = whole-some (b ∷ bs) (omega arith) (and_parts (get_or (b ∷ bs) (length (b ∷ bs) - 1) 0 == 10) (list_all is_printable (front (b ∷ bs))) e).0

printable-lacks : (text : List ℕ) → list_all is_printable text ≡ true → All (Lacks 10) text
printable-lacks [] h = All-nil (Lacks 10)
printable-lacks (b ∷ bs) h =
    let parts = and_parts (is_printable b) (list_all is_printable bs) h in
    let first = parts.0 in
    let no : (b == 10) ≡ false = grind (arith, nat_tests) in
    All-cons (Lacks 10) b bs no (printable-lacks bs parts.1)

pub front-lacks : (bytes : List ℕ) → is_line bytes ≡ true → All (Lacks 10) (front bytes)
unfolding is_line
front-lacks bytes e = printable-lacks (front bytes) (and_parts (get_or bytes (length bytes - 1) 0 == 10) (list_all is_printable (front bytes)) e).1

-- a text that is written as it stands
pub input-line : (before bytes items : List ℕ) → is_line bytes ≡ true → items ≡ (before ++ codes "line ") ++ bytes → items ≡ before ++ (input_text bytes ++ 10 ∷ [])
input-line before bytes items e written =
    let text : input_text bytes ≡ codes "line " ++ front bytes = ap (λ x. cond x (codes "line " ++ front bytes) (codes "input " ++ hex_of bytes)) e in
    let whole : codes "line " ++ bytes ≡ (codes "line " ++ front bytes) ++ 10 ∷ [] = ap (λ b. codes "line " ++ b) (sym (line-whole bytes e)) in
    written ∙ append_assoc before (codes "line ") bytes ∙ ap (λ t. before ++ t) whole ∙ ap (λ t. before ++ (t ++ 10 ∷ [])) (sym text)

pub are_bytes : (bytes : List ℕ) → ((i : ℕ) → Fits w8 (get_or bytes i 0)) → AreBytes bytes
are_bytes bytes fit i = (fit i).fits
