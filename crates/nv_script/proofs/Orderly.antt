-- What may come after one another, in two parts, and one by one.
use Rattle.std.proofs.Common.{◌≡◌, ℕ, true, List, [], ◌∷◌, ◌++◌, Result, Ok, Err, refl, ap, ◌∙◌}
use Rattle.std.specs.List.{list_all}
use Rattle.std.proofs.lemmas.Bool.{and_from}
use Rattle.nv_script.specs.declared.arrival.ArrivalCause.{ArrivalCause}
use Rattle.nv_script.specs.Arrivals.{Arrival, is_arrival}
use Rattle.nv_script.specs.Order.{Came, nothing_came, admitted, onward, after, are_orderly, are_arrivals}

-- what has come with the second part, after the first
pub after-append : (xs ys : List Arrival) (came : Came) → after (xs ++ ys) came ≡ onward (after xs came) (λ c. after ys c)
unfolding after
after-append [] ys came = refl
after-append (a ∷ xs) ys came = step (admitted a came) (λ c. after-append xs ys c) where
  step : (r : Result Came ArrivalCause) → ((c : Came) → after (xs ++ ys) c ≡ onward (after xs c) (λ d. after ys d))
      → onward r (λ c. after (xs ++ ys) c) ≡ onward (onward r (λ c. after xs c)) (λ c. after ys c)
  step (Ok next) later = later next
  step (Err c) later = refl

pub after-none : (came : Came) → after [] came ≡ Ok came
unfolding after
after-none came = refl

-- the first of them, and the others after it
pub after-first : (a : Arrival) (rest : List Arrival) (came : Came) → after (a ∷ rest) came ≡ onward (admitted a came) (λ c. after rest c)
unfolding after
after-first a rest came = refl

pub after-one : (a : Arrival) (came : Came) → after (a ∷ []) came ≡ admitted a came
unfolding after
after-one a came = step (admitted a came) where
  step : (r : Result Came ArrivalCause) → onward r (λ c. Ok c) ≡ r
  step (Ok next) = refl
  step (Err c) = refl

-- one more that may come
pub after-more : (xs : List Arrival) (a : Arrival) (start came next : Came) → after xs start ≡ Ok came → admitted a came ≡ Ok next → after (xs ++ a ∷ []) start ≡ Ok next
after-more xs a start came next so_far more = after-append xs (a ∷ []) start ∙ ap (λ r. onward r (λ c. after (a ∷ []) c)) so_far ∙ after-one a came ∙ more

-- within their limits, and each in its order
pub are_arrivals-from : (most : ℕ) (arrivals : List Arrival) (came : Came) → list_all is_arrival arrivals ≡ true → after arrivals (nothing_came most) ≡ Ok came → are_arrivals most arrivals ≡ true
unfolding are_arrivals
are_arrivals-from most arrivals came sound e = and_from (list_all is_arrival arrivals) (are_orderly most arrivals) sound (rw e refl)
