-- An arrival that a line says is within its limits.
use Rattle.std.proofs.Common.{◌≡◌, ℕ, ◌+◌, ◌<◌, ◌^◌, ◌==◌, Bool, true, false, cond, nat_lt, nat_le, List, ◌++◌, Option, Some, None, Result, Ok, Err, IfOk, codes, bytes_eq, length, refl, sym, ap, ◌∙◌, arith, length-append}
use Rattle.std.proofs.lemmas.Bool.{and_from}
use Rattle.std.proofs.lemmas.Bool.Decides.{nat_tests}
use Rattle.nv_bytes.specs.Fields.{first_word, rest_of}
use Rattle.nv_bytes.specs.Numbers.{number_of, unhexed}
use Rattle.nv_script.specs.declared.arrival.ArrivalCause.{ArrivalCause}
use Rattle.nv_script.specs.declared.arrival.ArrivalCause.TheVariants as cause
use Rattle.nv_script.specs.declared.word.Word.{Word}
use Rattle.nv_script.specs.declared.word.Word.TheVariants as word
use Rattle.nv_script.specs.Arrivals.{Arrival, Input, InputEnd, ClientsEnd, Connect, Time, is_sized, is_port, is_nanos, is_arrival}
use Rattle.nv_script.specs.Reading.{word_of, sized, bytes_of, line_arrival, input_with, connect_with, data_with, data_parts, end_with, end_of, time_with, time_parts, arrival_by, arrival_with, arrival_of}
use Rattle.std.specs.declared.alloc.AllocError.{AllocError}
use Rattle.nv_script.specs.declared.arrival.Arrival as came
use Rattle.nv_script.specs.ArrivalViews.{view, result_view}
use Rattle.nv_script.proofs.Digits.{number_of-fits}

-- whether an arrival that was read is within its limits
abbrev sound : Result Arrival ArrivalCause → Bool
sound (Ok a) = is_arrival a
sound (Err c) = true

abbrev sound_bytes : Result (List ℕ) ArrivalCause → Bool
sound_bytes (Ok bytes) = is_sized bytes
sound_bytes (Err c) = true

line-sound : (text : List ℕ) → sound (line_arrival text) ≡ true
unfolding is_arrival
line-sound text = step (nat_lt (length text) 2000) refl where
  step : (x : Bool) → nat_lt (length text) 2000 ≡ x → sound (cond x (Ok (Input (text ++ codes "\n"))) (Err cause.Long)) ≡ true
  step true few =
      let long = length-append text (codes "\n") in
      let below : length text < 2000 = grind (arith, nat_tests) in
      let count : length (text ++ codes "\n") ≡ length text + 1 = long in
      let low : nat_lt 0 (length (text ++ codes "\n")) ≡ true = rw count (grind (arith, nat_tests)) in
      let high : nat_le (length (text ++ codes "\n")) 2000 ≡ true = rw count (grind (arith, nat_tests)) in
      and_from _ _ low high
  step false few = refl

sized-sound : (bytes : List ℕ) → sound_bytes (sized bytes) ≡ true
sized-sound bytes = step (length bytes == 0) (nat_le (length bytes) 2000) refl refl where
  step : (x y : Bool) → (length bytes == 0) ≡ x → nat_le (length bytes) 2000 ≡ y → sound_bytes (cond x (Err cause.Shape) (cond y (Ok bytes) (Err cause.Long))) ≡ true
  step true y e f = refl
  step false true e f = let low : nat_lt 0 (length bytes) ≡ true = grind (arith, nat_tests) in and_from _ _ low f
  step false false e f = refl

bytes-sound : (found : Option (List ℕ)) → sound_bytes (bytes_of found) ≡ true
bytes-sound None = refl
bytes-sound (Some bytes) = sized-sound bytes

input-sound : (r : Result (List ℕ) ArrivalCause) → sound_bytes r ≡ true → sound (input_with r) ≡ true
unfolding is_arrival
input-sound (Ok bytes) h = h
input-sound (Err c) h = refl

connect-sound : (found : Option ℕ) → sound (connect_with found) ≡ true
unfolding is_arrival
connect-sound None = refl
connect-sound (Some port) = step (is_port port) refl where
  step : (x : Bool) → is_port port ≡ x → sound (cond x (Ok (Connect port)) (Err cause.Range)) ≡ true
  step true e = e
  step false e = refl

data-sound : (found : Option ℕ) (r : Result (List ℕ) ArrivalCause) → ((n : ℕ) → found ≡ Some n → nat_lt n (2 ^ 32) ≡ true) → sound_bytes r ≡ true → sound (data_with found r) ≡ true
unfolding is_arrival
data-sound None r fits h = refl
data-sound (Some n) (Err c) fits h = refl
data-sound (Some n) (Ok bytes) fits h = and_from _ _ (fits n refl) h

parts-sound : (client : List ℕ) (rest : Option (List ℕ)) → sound (data_parts client rest) ≡ true
parts-sound client None = refl
parts-sound client (Some hex) = data-sound (number_of client) (bytes_of (unhexed hex)) (number_of-fits client) (bytes-sound (unhexed hex))

end_with-sound : (found : Option ℕ) → ((n : ℕ) → found ≡ Some n → nat_lt n (2 ^ 32) ≡ true) → sound (end_with found) ≡ true
unfolding is_arrival
end_with-sound None fits = refl
end_with-sound (Some n) fits = fits n refl

end-sound : (text : List ℕ) → sound (end_of text) ≡ true
unfolding is_arrival
end-sound text = step (bytes_eq text (codes "input")) (bytes_eq text (codes "clients")) where
  step : (x y : Bool) → sound (cond x (Ok InputEnd) (cond y (Ok ClientsEnd) (end_with (number_of text)))) ≡ true
  step true y = refl
  step false true = refl
  step false false = end_with-sound (number_of text) (number_of-fits text)

time-sound : (found more : Option ℕ) → ((n : ℕ) → found ≡ Some n → nat_lt n (2 ^ 32) ≡ true) → sound (time_with found more) ≡ true
unfolding is_arrival
time-sound None more fits = refl
time-sound (Some seconds) None fits = refl
time-sound (Some seconds) (Some nanos) fits = step (is_nanos nanos) refl where
  step : (x : Bool) → is_nanos nanos ≡ x → sound (cond x (Ok (Time seconds nanos)) (Err cause.Range)) ≡ true
  step true e = and_from _ _ (fits seconds refl) e
  step false e = refl

told-sound : (seconds : List ℕ) (rest : Option (List ℕ)) → sound (time_parts seconds rest) ≡ true
told-sound seconds None = refl
told-sound seconds (Some nanos) = time-sound (number_of seconds) (number_of nanos) (number_of-fits seconds)

by-sound : (w : Word) (rest : List ℕ) → sound (arrival_by w rest) ≡ true
by-sound word.Line rest = line-sound rest
by-sound word.Input rest = input-sound (bytes_of (unhexed rest)) (bytes-sound (unhexed rest))
by-sound word.Connect rest = connect-sound (number_of rest)
by-sound word.Data rest = parts-sound (first_word rest) (rest_of rest)
by-sound word.End rest = end-sound rest
by-sound word.Time rest = told-sound (first_word rest) (rest_of rest)

with-sound : (w : Option Word) (rest : Option (List ℕ)) → sound (arrival_with w rest) ≡ true
with-sound None rest = refl
with-sound (Some w) None = refl
with-sound (Some w) (Some rest) = by-sound w rest

pub arrival_of-sound : (line : List ℕ) (a : Arrival) → arrival_of line ≡ Ok a → is_arrival a ≡ true
unfolding arrival_of
arrival_of-sound line a e = sym (ap sound e) ∙ with-sound (word_of (first_word line)) (rest_of line)

one-sound : (r : Result came.Arrival ArrivalCause) (line : List ℕ) → result_view r ≡ arrival_of line → IfOk r (λ a. is_arrival (view a) ≡ true)
one-sound (Ok a) line e = arrival_of-sound line (view a) (sym e)
one-sound (Err c) line e = tt

pub read-sound : (r : Result (Result came.Arrival ArrivalCause) AllocError) (line : List ℕ) → IfOk r (λ read. result_view read ≡ arrival_of line) → IfOk r (λ read. IfOk read (λ a. is_arrival (view a) ≡ true))
read-sound (Ok read) line e = one-sound read line e
read-sound (Err e) line h = tt
