-- Lists of events by their spellings.
use Rattle.std.proofs.Common.{◌≡◌, ap, refl, ℕ, suc, List, [], ◌∷◌, ◌++◌, map, length, Some}
use Rattle.std.specs.Prelude.{slice_get}
use Rattle.nv_calls.specs.Calls.{Entry}
use Rattle.nv_calls.specs.Logs.{InRange, IsLawful}
use Rattle.nv_words.specs.Spelling.{spell}
use Rattle.nv_words.proofs.SpellLaws.{spell_one}

abbrev AreInRange : List Entry → Type 0
AreInRange log = (i : ℕ) (e : Entry) → slice_get log i ≡ Some e → InRange e

pub ranges : (log : List Entry) → IsLawful log → AreInRange log
ranges log law i e h = (law i e h).range

abbrev head_or : List ℕ → List (List ℕ) → List ℕ
head_or d [] = d
head_or d (x ∷ xs) = x

abbrev tail : List (List ℕ) → List (List ℕ)
tail [] = []
tail (x ∷ xs) = xs

-- lists in range that are spelt alike are one
same_by : (a b : List Entry) → AreInRange a → AreInRange b → map spell a ≡ map spell b → a ≡ b
same_by [] [] h k e = refl
same_by [] (y ∷ ys) h k e = cc
same_by (x ∷ xs) [] h k e = cc
same_by (x ∷ xs) (y ∷ ys) h k e =
    let head : x ≡ y = spell_one x y (h 0 x refl) (k 0 y refl) (ap (head_or []) e) in
    let rest : xs ≡ ys = same_by xs ys (λ i z q. h (suc i) z q) (λ i z q. k (suc i) z q) (ap tail e) in
    λ i. head i ∷ rest i

pub same_spelt : (a b : List Entry) → IsLawful a → IsLawful b → map spell a ≡ map spell b → a ≡ b
same_spelt a b h k e = same_by a b (ranges a h) (ranges b k) e

-- the last of a spelt list
pub record Parted (h : List Entry) (seen : List (List ℕ)) (words : List ℕ) : Type 0 where
  pub prefix : List Entry
  pub last : Entry
  pub all : h ≡ prefix ++ last ∷ []
  pub seen_is : map spell prefix ≡ seen
  pub words_are : spell last ≡ words

pub parted : (h : List Entry) (seen : List (List ℕ)) (words : List ℕ) → map spell h ≡ seen ++ words ∷ [] → Parted h seen words
parted [] [] words e = cc
parted [] (s ∷ seen) words e = cc
parted (x ∷ []) [] words e = record { prefix = []; last = x; all = refl; seen_is = refl; words_are = ap (head_or []) e }
parted (x ∷ y ∷ h) [] words e = let q = ap tail e in cc
parted (x ∷ h) (s ∷ seen) words e =
    let r = parted h seen words (ap tail e) in
    record {
      prefix = x ∷ r.prefix;
      last = r.last;
      all = ap (λ z. x ∷ z) r.all;
      seen_is = (let head : spell x ≡ s = ap (head_or []) e in λ i. head i ∷ r.seen_is i);
      words_are = r.words_are;
    }

pub long_as : (log : List Entry) → length (map spell log) ≡ length log
long_as [] = refl
long_as (e ∷ log) = ap suc (long_as log)
