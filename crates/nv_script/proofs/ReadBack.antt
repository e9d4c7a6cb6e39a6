-- The line of an arrival is read back as that arrival.
use Rattle.std.proofs.Common.{◌≡◌, ℕ, ◌-◌, ◌<◌, ◌≤◌, ◌^◌, ◌==◌, Bool, true, false, cond, nat_lt, nat_le, List, ◌∷◌, ◌++◌, Some, None, Ok, codes, bytes_eq, length, refl, sym, ap, ◌∙◌, arith, lit<}
use Rattle.std.specs.List.{All}
use Rattle.std.proofs.lemmas.Bool.{and_parts}
use Rattle.std.proofs.lemmas.Bool.Decides.{nat_tests}
use Rattle.std.proofs.lemmas.List.{length-take}
use Rattle.std.proofs.lemmas.List.Elements.{All-append}
use Rattle.std.proofs.lemmas.Slice.Eq.{bytes_eq-Decides}
use Rattle.nv_bytes.specs.Fields.{first_word, rest_of}
use Rattle.nv_bytes.specs.Names.{defined}
use Rattle.nv_bytes.specs.Numbers.{number_of, unhexed, decimal_of, hex_of}
use Rattle.nv_script.specs.Arrivals.{Arrival, Input, InputEnd, ClientsEnd, Connect, Data, End, Time, is_sized, is_port, is_nanos, is_arrival, AreBytes, BringsBytes}
use Rattle.nv_script.specs.Reading.{words, is_word, sized, bytes_of, line_arrival, input_with, connect_with, data_with, data_parts, data_in, end_with, end_of, time_with, time_parts, time_in, arrival_of}
use Rattle.nv_script.specs.Writing.{front, is_line, input_text, line_text}
use Rattle.nv_script.proofs.Digits.{decimal-lacks, number_of-decimal}
use Rattle.nv_script.proofs.Hex.{unhexed-hex, hex-lacks}
use Rattle.nv_script.proofs.Texts.{Lacks, plain, word-first, word-rest, line-whole, front-lacks}

-- ---- a line by its word

of-line : (rest : List ℕ) → arrival_of (codes "line " ++ rest) ≡ line_arrival rest
unfolding arrival_of words defined
of-line rest = refl

of-input : (rest : List ℕ) → arrival_of (codes "input " ++ rest) ≡ input_with (bytes_of (unhexed rest))
unfolding arrival_of words defined
of-input rest = refl

of-connect : (rest : List ℕ) → arrival_of (codes "connect " ++ rest) ≡ connect_with (number_of rest)
unfolding arrival_of words defined
of-connect rest = refl

of-data : (rest : List ℕ) → arrival_of (codes "data " ++ rest) ≡ data_in rest
unfolding arrival_of words defined
of-data rest = refl

of-end : (rest : List ℕ) → arrival_of (codes "end " ++ rest) ≡ end_of rest
unfolding arrival_of words defined
of-end rest = refl

of-time : (rest : List ℕ) → arrival_of (codes "time " ++ rest) ≡ time_in rest
unfolding arrival_of words defined
of-time rest = refl

-- ---- each arrival

sized-ok : (bytes : List ℕ) → is_sized bytes ≡ true → sized bytes ≡ Ok bytes
sized-ok bytes h =
    let parts = and_parts (nat_lt 0 (length bytes)) (nat_le (length bytes) 2000) h in
    let some = parts.0 in
    let no : (length bytes == 0) ≡ false = grind (arith, nat_tests) in
    rw (no, parts.1) refl

bytes-back : (bytes : List ℕ) → is_sized bytes ≡ true → AreBytes bytes → bytes_of (unhexed (hex_of bytes)) ≡ Ok bytes
bytes-back bytes h are = ap bytes_of (unhexed-hex bytes are) ∙ sized-ok bytes h

line-back : (bytes : List ℕ) → is_sized bytes ≡ true → is_line bytes ≡ true → line_arrival (front bytes) ≡ Ok (Input bytes)
line-back bytes h e =
    let parts = and_parts (nat_lt 0 (length bytes)) (nat_le (length bytes) 2000) h in
    let some : 0 < length bytes = grind (arith, nat_tests) in
    let few : length bytes ≤ 2000 = grind (arith, nat_tests) in
    let long = length-take (length bytes - 1) bytes in
    let below : length (front bytes) < 2000 = omega (arith, long, some, few) in
    let fits : nat_lt (length (front bytes)) 2000 ≡ true = grind (arith, nat_tests) in
    rw fits (ap (λ b. Ok (Input b)) (line-whole bytes e))

input-back : (bytes : List ℕ) → is_sized bytes ≡ true → AreBytes bytes → arrival_of (input_text bytes) ≡ Ok (Input bytes)
input-back bytes h are = step (is_line bytes) refl where
  step : (x : Bool) → is_line bytes ≡ x → arrival_of (cond x (codes "line " ++ front bytes) (codes "input " ++ hex_of bytes)) ≡ Ok (Input bytes)
  step true e = of-line (front bytes) ∙ line-back bytes h e
  step false e = of-input (hex_of bytes) ∙ ap input_with (bytes-back bytes h are)

data-back : (n : ℕ) (bytes : List ℕ) → n < 2 ^ 32 → is_sized bytes ≡ true → AreBytes bytes → data_in (decimal_of n ++ 32 ∷ hex_of bytes) ≡ Ok (Data n bytes)
data-back n bytes small h are =
    let lacks = decimal-lacks 32 n (lit< tt) small in
    ap (λ w. data_parts w (rest_of (decimal_of n ++ 32 ∷ hex_of bytes))) (word-first (decimal_of n) (hex_of bytes) lacks)
    ∙ ap (data_parts (decimal_of n)) (word-rest (decimal_of n) (hex_of bytes) lacks)
    ∙ ap (λ c. data_with c (bytes_of (unhexed (hex_of bytes)))) (number_of-decimal n small)
    ∙ ap (data_with (Some n)) (bytes-back bytes h are)

no-number : (text : List ℕ) → number_of text ≡ None → (n : ℕ) → n < 2 ^ 32 → bytes_eq (decimal_of n) text ≡ false
no-number text none n small = step (bytes_eq (decimal_of n) text) refl where
  step : (x : Bool) → bytes_eq (decimal_of n) text ≡ x → x ≡ false
  step true e =
      let same : decimal_of n ≡ text = (bytes_eq-Decides (decimal_of n) text).0 e in
      let odd : Some n ≡ None = sym (number_of-decimal n small) ∙ ap number_of same ∙ none in
      cc
  step false e = refl

word-input : number_of (codes "input") ≡ None
unfolding number_of
word-input = refl

word-clients : number_of (codes "clients") ≡ None
unfolding number_of
word-clients = refl

end-back : (n : ℕ) → n < 2 ^ 32 → end_of (decimal_of n) ≡ Ok (End n)
end-back n small = rw (no-number (codes "input") word-input n small, no-number (codes "clients") word-clients n small) (ap end_with (number_of-decimal n small))

connect-back : (port : ℕ) → is_port port ≡ true → connect_with (number_of (decimal_of port)) ≡ Ok (Connect port)
connect-back port h =
    let small : port < 2 ^ 32 = grind (arith, nat_tests) in
    ap connect_with (number_of-decimal port small) ∙ rw h refl

time-back : (seconds nanos : ℕ) → seconds < 2 ^ 32 → is_nanos nanos ≡ true → time_in (decimal_of seconds ++ 32 ∷ decimal_of nanos) ≡ Ok (Time seconds nanos)
time-back seconds nanos small h =
    let lacks = decimal-lacks 32 seconds (lit< tt) small in
    let few : nanos < 2 ^ 32 = grind (arith, nat_tests) in
    ap (λ w. time_parts w (rest_of (decimal_of seconds ++ 32 ∷ decimal_of nanos))) (word-first (decimal_of seconds) (decimal_of nanos) lacks)
    ∙ ap (time_parts (decimal_of seconds)) (word-rest (decimal_of seconds) (decimal_of nanos) lacks)
    ∙ ap (λ c. time_with c (number_of (decimal_of nanos))) (number_of-decimal seconds small)
    ∙ ap (time_with (Some seconds)) (number_of-decimal nanos few) ∙ rw h refl

pub read_back : (a : Arrival) → is_arrival a ≡ true → BringsBytes a → arrival_of (line_text a) ≡ Ok a
unfolding is_arrival line_text
read_back (Input bytes) h are = input-back bytes h are
read_back InputEnd h are = of-end (codes "input")
read_back ClientsEnd h are = of-end (codes "clients")
read_back (Connect port) h are = of-connect (decimal_of port) ∙ connect-back port h
read_back (Data n bytes) h are =
    let parts = and_parts (nat_lt n (2 ^ 32)) (is_sized bytes) h in
    let first = parts.0 in
    let small : n < 2 ^ 32 = grind (arith, nat_tests) in
    of-data (decimal_of n ++ 32 ∷ hex_of bytes) ∙ data-back n bytes small parts.1 are
read_back (End n) h are =
    let small : n < 2 ^ 32 = grind (arith, nat_tests) in
    of-end (decimal_of n) ∙ end-back n small
read_back (Time seconds nanos) h are =
    let parts = and_parts (nat_lt seconds (2 ^ 32)) (is_nanos nanos) h in
    let first = parts.0 in
    let small : seconds < 2 ^ 32 = grind (arith, nat_tests) in
    of-time (decimal_of seconds ++ 32 ∷ decimal_of nanos) ∙ time-back seconds nanos small parts.1

-- ---- what a line doesn't have

text-lacks : (text rest : List ℕ) → All (Lacks 10) text → All (Lacks 10) rest → All (Lacks 10) (text ++ rest)
text-lacks text rest a b = All-append (Lacks 10) text rest a b

input-lacks : (bytes : List ℕ) → AreBytes bytes → All (Lacks 10) (input_text bytes)
input-lacks bytes are = step (is_line bytes) refl where
  step : (x : Bool) → is_line bytes ≡ x → All (Lacks 10) (cond x (codes "line " ++ front bytes) (codes "input " ++ hex_of bytes))
  step true e = text-lacks (codes "line ") (front bytes) (plain (codes "line ") refl) (front-lacks bytes e)
  step false e = text-lacks (codes "input ") (hex_of bytes) (plain (codes "input ") refl) (hex-lacks bytes are)

-- a line has no newline
pub line_text-lacks : (a : Arrival) → is_arrival a ≡ true → BringsBytes a → All (Lacks 10) (line_text a)
unfolding is_arrival line_text
line_text-lacks (Input bytes) h are = input-lacks bytes are
line_text-lacks InputEnd h are = plain (codes "end input") refl
line_text-lacks ClientsEnd h are = plain (codes "end clients") refl
line_text-lacks (Connect port) h are =
    let small : port < 2 ^ 32 = grind (arith, nat_tests) in
    text-lacks (codes "connect ") (decimal_of port) (plain (codes "connect ") refl) (decimal-lacks 10 port (lit< tt) small)
line_text-lacks (Data n bytes) h are =
    let parts = and_parts (nat_lt n (2 ^ 32)) (is_sized bytes) h in
    let first = parts.0 in
    let small : n < 2 ^ 32 = grind (arith, nat_tests) in
    text-lacks (codes "data ") (decimal_of n ++ (codes " " ++ hex_of bytes)) (plain (codes "data ") refl)
    (text-lacks (decimal_of n) (codes " " ++ hex_of bytes) (decimal-lacks 10 n (lit< tt) small)
    (text-lacks (codes " ") (hex_of bytes) (plain (codes " ") refl) (hex-lacks bytes are)))
line_text-lacks (End n) h are =
    let small : n < 2 ^ 32 = grind (arith, nat_tests) in
    text-lacks (codes "end ") (decimal_of n) (plain (codes "end ") refl) (decimal-lacks 10 n (lit< tt) small)
line_text-lacks (Time seconds nanos) h are =
    let parts = and_parts (nat_lt seconds (2 ^ 32)) (is_nanos nanos) h in
    let first = parts.0 in
    let second = parts.1 in
    let small : seconds < 2 ^ 32 = grind (arith, nat_tests) in
    let few : nanos < 2 ^ 32 = grind (arith, nat_tests) in
    text-lacks (codes "time ") (decimal_of seconds ++ (codes " " ++ decimal_of nanos)) (plain (codes "time ") refl)
    (text-lacks (decimal_of seconds) (codes " " ++ decimal_of nanos) (decimal-lacks 10 seconds (lit< tt) small)
    (text-lacks (codes " ") (decimal_of nanos) (plain (codes " ") refl) (decimal-lacks 10 nanos (lit< tt) few)))

-- a line begins with a word of an arrival's
input-begins : (bytes : List ℕ) → is_word (first_word (input_text bytes)) ≡ true
unfolding words defined
input-begins bytes = step (is_line bytes) where
  step : (x : Bool) → is_word (first_word (cond x (codes "line " ++ front bytes) (codes "input " ++ hex_of bytes))) ≡ true
  step true = refl
  step false = refl

pub line_text-begins : (a : Arrival) → is_word (first_word (line_text a)) ≡ true
unfolding line_text words defined
line_text-begins (Input bytes) = input-begins bytes
line_text-begins InputEnd = refl
line_text-begins ClientsEnd = refl
line_text-begins (Connect port) = refl
line_text-begins (Data n bytes) = refl
line_text-begins (End n) = refl
line_text-begins (Time seconds nanos) = refl
