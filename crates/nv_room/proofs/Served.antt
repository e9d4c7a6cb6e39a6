-- What the kernel's history tells of an event that is served and not published.
use Rattle.std.proofs.Common.{refl, suc, take, get_or, lt_of_not-le, Some, ◌≡◌, ℕ, ◌+◌, ◌<◌, ◌≤◌, List, [], ◌∷◌, ◌++◌, map, length, sym, ap, ◌∙◌, subst, arith, length-append}
use Rattle.std.specs.Prelude.{slice_get}
use Rattle.std.proofs.lemmas.List.{length-map, take_all, take_more}
use Rattle.std.proofs.lemmas.Option.{same_Some, slice_get_within, get_or_from_slice_get}
use Rattle.std.proofs.Math.ListN.{get_or-eq_default}
use mathlib.Core.Logic.{dite}
use native.Mathlib.Decide.{dec_le}
use mathlib.Core.Option.{some, some-injective}
use lib.ListN.{get_elem?}
use Rattle.atomic_table.proofs.Lists.{at_map, at_last}
use Rattle.nv_calls.specs.Calls.{Entry}
use Rattle.nv_calls.specs.Logs.{IsLawful}
use Rattle.nv_calls.proofs.LogLaws.{lawful_range, lawful_few, slice_some}
use Rattle.nv_words.specs.Spelling.{spell, IsWhole, low, pair, flag_bit}
use Rattle.nv_room.proofs.StampLaws.{number_word}
use Rattle.nv_words.specs.Begins.{BeginsEvent}
use Rattle.nv_words.proofs.SpellLaws.{spell_whole, shorter}
use Rattle.nv_room.specs.Caches.{HasNext, AreOf}
use Rattle.nv_room.specs.Placement.{Log}
use Rattle.nv_room.proofs.Lists.{there, at_get}

pub served_whole : (h : List Entry) (xs : Log) (ws : List ℕ) → IsLawful h → map spell h ≡ xs ++ ws ∷ [] → IsWhole ws × (length ws ≤ 518)
served_whole h xs ws law is = let n : ℕ = length xs in let long : length h ≡ n + 1 = sym (length-map h spell) ∙ ap length is ∙ length-append xs (ws ∷ []) in let y = there h n (omega arith) in
    let at : some (spell y.0) ≡ some ws = sym (at_map spell h n y.0 y.1) ∙ ap (λ (z : Log). get_elem? z n) is ∙ at_last xs ws n (λ _. n) in
    subst (λ (z : List ℕ). IsWhole z × (length z ≤ 518)) (some-injective (spell y.0) ws at) (spell_whole y.0 (lawful_range h n y.0 law y.1))

pub served_few : (h : List Entry) (xs : Log) (ws : List ℕ) → IsLawful h → map spell h ≡ xs ++ ws ∷ [] → length xs < 500000000
served_few h xs ws law is = let long : length h ≡ length xs + 1 = sym (length-map h spell) ∙ ap length is ∙ length-append xs (ws ∷ []) in let few = lawful_few h law in omega arith

take_one : (xs : Log) (ws : List ℕ) → take (suc (length xs)) (xs ++ ws ∷ []) ≡ xs ++ ws ∷ []
take_one [] ws = refl
take_one (x ∷ xs) ws = ap (λ (z : Log). x ∷ z) (take_one xs ws)

pub served_all : (xs : Log) (ws : List ℕ) (n : ℕ) → length xs ≡ n → take (n + 1) (xs ++ ws ∷ []) ≡ xs ++ ws ∷ []
served_all xs ws n h = let k : suc (length xs) ≡ n + 1 = omega arith in subst (λ (m : ℕ). take m (xs ++ ws ∷ []) ≡ xs ++ ws ∷ []) k (take_one xs ws)

-- with no event due there are no words of one
pub no_words : (h : List Entry) (n : ℕ) → length h ≡ n → get_or (map spell h) n [] ≡ []
no_words h n long = get_or-eq_default (map spell h) [] (omega (arith, length-map h spell))

are_none : (n : ℕ) → AreOf n []
are_none n = record { few = omega arith; number_is = λ x e. cc }

-- where no event is due
pub none_due : (h : List Entry) (n : ℕ) → length h ≡ n → AreOf n (get_or (map spell h) n [])
none_due h n long = subst (AreOf n) (sym (no_words h n long)) (are_none n)

-- the words of an event of a lawful history, where there is this event
pub due_words_are : (h : List Entry) (n : ℕ) → IsLawful h → AreOf n (get_or (map spell h) n [])
due_words_are h n law = dite (dec_le (length h) n)
    (λ le. subst (AreOf n) (sym (get_or-eq_default (map spell h) [] (let l = length-map h spell in let q : length (map spell h) ≤ n = omega arith in q))) (are_none n))
    (λ gt. let y = there h n (lt_of_not-le gt) in let e : Entry = y.0 in let may = law n e (slice_some h n e y.1) in let w = number_word e may.range in
    subst (AreOf n) (sym (at_get (map spell h) n (spell e) [] (at_map spell h n e y.1))) record {
      few = (spell_whole e (lawful_range h n e law y.1)).1;
      number_is = λ x at. ap low (same_Some x (pair e.stamp (flag_bit e.call.bad)) (sym at ∙ slice_some (spell e) 1 (pair e.stamp (flag_bit e.call.bad)) w.0)) ∙ w.1 ∙ may.stamp;
    })

-- the word i is one of at most so many
pub word_near : (ws : List ℕ) (i x : ℕ) → slice_get ws i ≡ Some x → length ws ≤ 518 → i < 518
word_near ws i x at few = let l = slice_get_within ws i x at in omega arith

-- one more word of the event is written
pub one_more : (wrote ws : List ℕ) (n i x : ℕ) → wrote ≡ take n ws → n ≡ i → slice_get ws i ≡ Some x → wrote ++ x ∷ [] ≡ take (i + 1) ws
one_more wrote ws n i x is same at = (λ k. is k ++ sym (get_or_from_slice_get ws i x 0 at) k ∷ []) ∙ ap (λ (z : ℕ). take z ws ++ get_or ws i 0 ∷ []) same ∙ sym (take_more ws i 0 (slice_get_within ws i x at))

-- words that begin an event and aren't whole leave a place for one more
pub begun_next : (words : List ℕ) → BeginsEvent words → HasNext words
begun_next words b part = let s = spell_whole b.0 b.1 in let l = shorter words (spell b.0) b.2 s.0 part in let m = s.1 in omega arith

-- with no event due, the history is the seen list
pub whole_history : (h : List Entry) (n : ℕ) (xs : Log) → take n (map spell h) ≡ xs → length h ≡ n → map spell h ≡ xs
whole_history h n xs is long = sym (take_all n (map spell h) (omega (arith, length-map h spell))) ∙ is

pub same_head : {A : Type 0} (a b : A) (xs ys : List (ℕ × A)) → (0, a) ∷ xs ≡ (0, b) ∷ ys → a ≡ b
same_head {A} a b xs ys e = ap (λ (z : ℕ × A). z.1) (some-injective {A = ℕ × A} (0, a) (0, b) (ap (λ (l : List (ℕ × A)). get_elem? l 0) e))
