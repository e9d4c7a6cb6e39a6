-- The programs of a number stand in the order of the versions.
use Rattle.std.proofs.Common.{◌≡◌, ℕ, zero, suc, ◌<◌, List, [], ◌∷◌, ◌++◌, Some, inl, inr, length, refl, ap, ◌∙◌, length-append, arith}
use Rattle.std.specs.Prelude.{slice_get, option_map}
use Rattle.std.proofs.lemmas.Bool.{cases_lt}
use Rattle.std.proofs.lemmas.List.{length-map}
use Rattle.std.proofs.lemmas.Option.{slice_get-map}
use Rattle.nv_gen.specs.Made.{Numbers, numbers_of, course, courses_to}
use Rattle.nv_gen.specs.Programs.{program, programs}
use Rattle.nv_gen.specs.Versions.{program_at}

at-end : {A : Type 0} (xs : List A) (x : A) → slice_get (xs ++ x ∷ []) (length xs) ≡ Some x
at-end [] x = refl
at-end (y ∷ xs) x = at-end xs x

at-prefix : {A : Type 0} (xs ys : List A) (i : ℕ) → i < length xs → slice_get (xs ++ ys) i ≡ slice_get xs i
at-prefix [] ys i small = absurd (omega arith)
at-prefix (x ∷ xs) ys zero small = refl
at-prefix (x ∷ xs) ys (suc i) small = at-prefix xs ys i (omega arith)

length-courses : (k : Numbers) (count : ℕ) → length (courses_to k count) ≡ count
unfolding courses_to
length-courses k zero = refl
length-courses k (suc count) = let h = length-courses k count in let e = length-append (courses_to k count) (course k count ∷ []) in omega arith

course-listed : (k : Numbers) (count i : ℕ) → i < count → slice_get (courses_to k count) i ≡ Some (course k i)
unfolding courses_to
course-listed k zero i small = absurd (omega arith)
course-listed k (suc count) i small =
    let long = length-courses k count in
    elim (cases_lt i count) [
      | inl before ↦ at-prefix (courses_to k count) (course k count ∷ []) i (omega arith) ∙ course-listed k count i before
      | inr last ↦
          let here : i ≡ length (courses_to k count) = omega arith in
          let same : count ≡ i = omega arith in
          ap (slice_get (courses_to k count ++ course k count ∷ [])) here ∙ at-end (courses_to k count) (course k count) ∙ ap (λ j. Some (course k j)) same
    ]

pub programs_listed : (n version : ℕ) → version < (numbers_of n).versions → slice_get (programs n) version ≡ Some (program_at n version)
programs_listed n version inside =
    slice_get-map (program (numbers_of n)) (courses_to (numbers_of n) (numbers_of n).versions) version
    ∙ ap (option_map (program (numbers_of n))) (course-listed (numbers_of n) (numbers_of n).versions version inside)

pub programs_counted : (n : ℕ) → length (programs n) ≡ (numbers_of n).versions
programs_counted n = length-map (courses_to (numbers_of n) (numbers_of n).versions) (program (numbers_of n)) ∙ length-courses (numbers_of n) (numbers_of n).versions
