-- How many bytes a call that a guest can make hands in, and how many readv asks for.
use Rattle.std.proofs.Common.{◌≡◌, ◌≤◌, ℕ, ◌+◌, ◌*◌, Bool, true, false, ◌==◌, ◌||◌, not, cond, nat_le, nat_lt, min, ◌/◌, ◌^◌, List, length, refl, subst, arith}
use Rattle.std.specs.Prelude.{slice_index}
use Rattle.std.proofs.lemmas.Bool.{and_parts}
use Rattle.std.proofs.lemmas.Bool.Decides.{nat_tests}
use Rattle.nv_calls.specs.declared.numbers.Syscall.{Syscall}
use Rattle.nv_calls.specs.declared.numbers.Syscall.TheVariants.{Unlinkat, Openat, Write, Writev, Bind, ClockNanosleep, Pselect6, Ppoll}
use Rattle.nv_calls.specs.Answers.{polled_count, selected_count, set_bytes}
use Rattle.nv_calls.specs.Calls.{Request}
use Rattle.nv_calls.specs.Numbers.{syscall_of, has_range, hands_in, is_local}
use Rattle.nv_calls.specs.Shapes.{are_plain, kept_slots, most_of_vectors, is_capacity, is_path, is_timed, is_payload, is_shaped_as, is_shaped, IsShaped}

none : (c : Request) → (length c.payload == 0) ≡ true → length c.payload ≡ 0
none c h = grind (arith, nat_tests)

vectors_few : (c : Request) → most_of_vectors c ≤ 4096
vectors_few c = by c.bad (nat_le (slice_index c.args 2) 1024)
  where
    by : (a b : Bool) → cond a 0 (cond b 4096 0) ≤ 4096
    by true b = omega arith
    by false true = omega arith
    by false false = omega arith

path_few : (c : Request) → is_path c.payload ≡ true → length c.payload ≤ 4096
path_few c h = let p = (and_parts (nat_le (length c.payload) 256) _ h).0 in let few : length c.payload ≤ 256 = grind (arith, nat_tests) in omega arith

counted_few : (n : ℕ) (b : Bool) → nat_le n 408 ≡ b → cond b n 0 ≤ 408
counted_few n true e = grind (arith, nat_tests)
counted_few n false e = omega arith

pub polled_count-few : (n : ℕ) → polled_count n ≤ 408
polled_count-few n = counted_few n (nat_le n 408) refl

selected_few : (n : ℕ) (b : Bool) → cond b (min n 1024) 0 ≤ 1024
selected_few n true = omega arith
selected_few n false = omega arith

set_few : (n : ℕ) → n ≤ 1024 → (n + 31) / 32 * 4 ≤ 128
set_few n h = omega arith

pub set_bytes-few : (n : ℕ) → set_bytes (selected_count n) ≤ 128
set_bytes-few n = set_few (selected_count n) (selected_few n (nat_lt n (2 ^ 31)))

timed_by : (n k : ℕ) (a b : Bool) → (n == k) ≡ a → (n == k + 16) ≡ b → (a || b) ≡ true → n ≤ k + 16
timed_by n k true b e f h = let is : n ≡ k = grind (arith, nat_tests) in omega (arith, is)
timed_by n k false true e f h = let is : n ≡ k + 16 = grind (arith, nat_tests) in omega (arith, is)
timed_by n k false false e f h = cc

timed_few : (n : ℕ) (bytes : List ℕ) → is_timed n bytes ≡ true → length bytes ≤ n + 16
timed_few n bytes h = timed_by (length bytes) n (length bytes == n) (length bytes == n + 16) refl refl h

polled_few : (c : Request) → is_payload Ppoll c ≡ true → length c.payload ≤ 3280
polled_few c h =
    let k : ℕ = polled_count (slice_index c.args 1) in
    let few : k ≤ 408 = polled_count-few (slice_index c.args 1) in
    let timed : length c.payload ≤ 8 * k + 16 = timed_few (8 * k) c.payload h in
    omega (arith, few, timed)

selected_short : (c : Request) → is_payload Pselect6 c ≡ true → length c.payload ≤ 400
selected_short c h =
    let k : ℕ = set_bytes (selected_count (slice_index c.args 0)) in
    let few : k ≤ 128 = set_bytes-few (slice_index c.args 0) in
    let timed : length c.payload ≤ 3 * k + 16 = timed_few (3 * k) c.payload h in
    omega (arith, few, timed)

payload_few : (k : Syscall) (c : Request) → is_payload k c ≡ true → length c.payload ≤ 4096
payload_few Unlinkat c h = path_few c h
payload_few Openat c h = path_few c h
payload_few Write c h = grind (arith, nat_tests)
payload_few Writev c h = let v = vectors_few c in let few : length c.payload ≤ most_of_vectors c = grind (arith, nat_tests) in omega arith
payload_few Bind c h = grind (arith, nat_tests)
payload_few ClockNanosleep c h = let few = timed_few 0 c.payload h in omega (arith, few)
payload_few Pselect6 c h = let few = selected_short c h in omega (arith, few)
payload_few Ppoll c h = let few = polled_few c h in omega (arith, few)
payload_few _ c h = let z = none c h in omega arith

payload_empty : (k : Syscall) (c : Request) → hands_in k ≡ false → is_payload k c ≡ true → length c.payload ≡ 0
payload_empty Unlinkat c e h = cc
payload_empty Openat c e h = cc
payload_empty Write c e h = cc
payload_empty Writev c e h = cc
payload_empty Bind c e h = cc
payload_empty ClockNanosleep c e h = cc
payload_empty Pselect6 c e h = cc
payload_empty Ppoll c e h = cc
payload_empty _ c e h = none c h

few_by : (b : Bool) (k : Syscall) (c : Request) → cond b (length c.payload == 0) (is_payload k c) ≡ true → length c.payload ≤ 4096
few_by true k c h = let z = none c h in omega arith
few_by false k c h = payload_few k c h

empty_by : (b : Bool) (k : Syscall) (c : Request) → hands_in k ≡ false → cond b (length c.payload == 0) (is_payload k c) ≡ true → length c.payload ≡ 0
empty_by true k c e h = none c h
empty_by false k c e h = payload_empty k c e h

polled_by : (b : Bool) (k : Syscall) (c : Request) → k ≡ Ppoll → cond b (length c.payload == 0) (is_payload k c) ≡ true → length c.payload ≤ 3280
polled_by true k c e h = let z = none c h in omega (arith, z)
polled_by false k c e h = polled_few c (subst (λ (z : Syscall). is_payload z c ≡ true) e h)

selected_by : (b : Bool) (k : Syscall) (c : Request) → k ≡ Pselect6 → cond b (length c.payload == 0) (is_payload k c) ≡ true → length c.payload ≤ 400
selected_by true k c e h = let z = none c h in omega (arith, z)
selected_by false k c e h = selected_short c (subst (λ (z : Syscall). is_payload z c ≡ true) e h)

-- the parts of the test
pub record Shaped (k : Syscall) (c : Request) : Type 0 where
  pub plain : are_plain (kept_slots k) c.args ≡ true
  pub bad : (not c.bad || has_range k) ≡ true
  pub capacity : is_capacity k c ≡ true
  pub payload : cond c.bad (length c.payload == 0) (is_payload k c) ≡ true

pub shaped-parts : (c : Request) → IsShaped c → Shaped (syscall_of c.nr) c
unfolding is_shaped
shaped-parts c h =
    let k : Syscall = syscall_of c.nr in
    let s = and_parts (not (is_local c.nr)) (is_shaped_as k c) h in
    let a = and_parts (are_plain (kept_slots k) c.args) _ s.1 in
    let b = and_parts (not c.bad || has_range k) _ a.1 in
    let d = and_parts (is_capacity k c) _ b.1 in
    record { plain = a.0; bad = b.0; capacity = d.0; payload = d.1 }

pub shaped-few : (c : Request) → IsShaped c → length c.payload ≤ 4096
shaped-few c h = few_by c.bad (syscall_of c.nr) c (shaped-parts c h).payload

pub shaped-empty : (c : Request) → IsShaped c → hands_in (syscall_of c.nr) ≡ false → length c.payload ≡ 0
shaped-empty c h e = empty_by c.bad (syscall_of c.nr) c e (shaped-parts c h).payload

-- the list of ppoll, and its time
pub shaped-polled : (c : Request) → IsShaped c → syscall_of c.nr ≡ Ppoll → length c.payload ≤ 3280
shaped-polled c h e = polled_by c.bad (syscall_of c.nr) c e (shaped-parts c h).payload

-- the sets of pselect6, and its time
pub shaped-selected : (c : Request) → IsShaped c → syscall_of c.nr ≡ Pselect6 → length c.payload ≤ 400
shaped-selected c h e = selected_by c.bad (syscall_of c.nr) c e (shaped-parts c h).payload
