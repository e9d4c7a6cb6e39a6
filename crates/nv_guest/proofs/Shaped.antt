-- A call that the guest asks for has the form of a call.
use Rattle.std.proofs.Common.{◌≡◌, ℕ, zero, suc, ◌+◌, ◌-◌, ◌≤◌, Bool, true, false, not, ◌||◌, ◌==◌, nat_le, min, cond, List, [], ◌∷◌, ◌++◌, length, replicate, Option, Some, None, option_map, ◌⊎◌, inl, inr, ◌*◌, refl, ap, subst, ◌∙◌, arith, length-append}
use Rattle.std.specs.Prelude.{IfSome}
use Rattle.std.specs.List.{list_all}
use Rattle.std.proofs.lemmas.Bool.Decides.{nat_tests}
use Rattle.nv_calls.specs.declared.numbers.Syscall.{Syscall}
use Rattle.nv_calls.specs.declared.numbers.Syscall.TheVariants.{Getcwd, Unlinkat, Openat, Pipe2, Llseek, Read as ReadCall, Write as WriteCall, Readv, Writev, Bind, Uname, Getrandom, ClockGettime64, ClockNanosleep, Pselect6, Ppoll}
use Rattle.nv_calls.specs.Numbers.{syscall_of, is_local}
use Rattle.nv_calls.specs.Answers.{polled_count}
use Rattle.nv_calls.specs.Shapes.{is_path, is_timed, is_shaped_as, is_shaped, IsShaped}
use Rattle.nv_memory.specs.declared.region.Right.{Right}
use Rattle.nv_memory.specs.declared.region.Right.TheVariants.{Read, Write}
use Rattle.nv_memory.specs.Bytes.{bytes_at}
use Rattle.nv_memory.specs.Region.{holds}
use Rattle.nv_memory.specs.Image.{Image}
use Rattle.nv_machine.specs.Guest.{Machine}
use Rattle.nv_guest.specs.declared.vectors.Part.{Part}
use Rattle.nv_guest.specs.Paths.{byte_at, path_with, path_at}
use Rattle.nv_guest.specs.Vectors.{vector_at, prefix_of, usable_by, usable_at, parts_with, parts_at, capacity, joined_parts}
use Rattle.nv_guest.specs.Calls.{argument, call_number, out_of, vector_count, readable, timeout_in, both, set_size, set_in, sets_in, selected_bytes, polled_bytes, written_bytes, address_in, path_in, vectors_in, capacity_in, Handed, refused, with_payload, with_capacity, with_out, handed, call_by, call_at}

pub length-bytes_at : (bytes : List ℕ) (a n : ℕ) → length (bytes_at bytes a n) ≡ n
length-bytes_at bytes a zero = refl
length-bytes_at bytes a (suc n) = let h : length (bytes_at bytes (a + 1) n) ≡ n = length-bytes_at bytes (a + 1) n in omega arith

mapped : {A B : Type 0} (f : A → B) (Q : B → Type 0) (o : Option A) → IfSome o (λ x. Q (f x)) → IfSome (option_map f o) Q
mapped f Q None h = tt
mapped f Q (Some x) h = h

-- ---- paths

-- so many bytes at most, none of them 0
record IsPathBy (most : ℕ) (bytes : List ℕ) : Type 0 where
  few : length bytes ≤ most
  ended : list_all (λ b. not (b == 0)) bytes ≡ true

path-next : (b n : ℕ) (ends : Bool) (later : Option (List ℕ)) → (b == 0) ≡ ends → IfSome later (IsPathBy n)
    → IfSome (cond ends (Some []) (option_map (λ bs. b ∷ bs) later)) (IsPathBy (suc n))
path-next b n true later e h = record { few = omega arith; ended = refl }
path-next b n false None e h = tt
path-next b n false (Some bs) e h = record { few = omega (arith, h.few); ended = rw e h.ended }

path-step : (byte : Option ℕ) (n : ℕ) (later : Option (List ℕ)) → IfSome later (IsPathBy n) → IfSome (path_with byte later) (IsPathBy (suc n))
path-step None n later h = tt
path-step (Some b) n later h = path-next b n (b == 0) later refl h

path-fits : (most : ℕ) (memory : Image) (at : ℕ) → IfSome (path_at most memory at) (IsPathBy most)
unfolding path_at
path-fits zero memory at = record { few = omega arith; ended = refl }
path-fits (suc most) memory at = path-step (byte_at memory at) most (path_at most memory (at + 1)) (path-fits most memory (at + 1))

path-is : (bytes : List ℕ) → IsPathBy 256 bytes → is_path bytes ≡ true
path-is bytes h = let few : nat_le (length bytes) 256 ≡ true = (let f = h.few in grind (arith, nat_tests)) in rw (few, h.ended) refl

-- ---- vectors

prefix-few : (may : Bool) (most : ℕ) (part : Part) → IfSome (cond may (Some (prefix_of most part)) None) (λ p. p.size ≤ most)
prefix-few true most part = omega arith
prefix-few false most part = tt

usable-few : (memory : Image) (right : Right) (most : ℕ) (o : Option Part) → IfSome (usable_by memory right most o) (λ p. p.size ≤ most)
usable-few memory right most None = tt
usable-few memory right most (Some part) = prefix-few (holds memory.regions part.address (min part.size most) right) most part

parts-next : (part : Part) (most : ℕ) (later : Option (List Part)) → part.size ≤ most → IfSome later (λ ps. capacity ps ≤ most - part.size)
    → IfSome (option_map (λ ps. part ∷ ps) later) (λ ps. capacity ps ≤ most)
parts-next part most None few h = tt
parts-next part most (Some ps) few h = omega (arith, few, h)

parts-step : (o : Option Part) (most : ℕ) (later : ℕ → Option (List Part)) → IfSome o (λ p. p.size ≤ most)
    → ((size : ℕ) → IfSome (later size) (λ ps. capacity ps ≤ most - size)) → IfSome (parts_with o later) (λ ps. capacity ps ≤ most)
parts-step None most later few h = tt
parts-step (Some part) most later few h = parts-next part most (later part.size) few (h part.size)

parts-some : (left : Bool) (most : ℕ) (later : Option (List Part)) → IfSome later (λ ps. capacity ps ≤ most) → IfSome (cond left (Some []) later) (λ ps. capacity ps ≤ most)
parts-some true most later h = omega arith
parts-some false most later h = h

parts-few : (memory : Image) (right : Right) (count most at : ℕ) → IfSome (parts_at memory right count most at) (λ ps. capacity ps ≤ most)
unfolding parts_at
parts-few memory right zero most at = omega arith
parts-few memory right (suc count) most at =
    parts-some (most == 0) most (parts_with (usable_at memory right most at) (λ size. parts_at memory right count (most - size) (at + 8)))
    (parts-step (usable_at memory right most at) most (λ size. parts_at memory right count (most - size) (at + 8)) (usable-few memory right most (vector_at memory at))
    (λ size. parts-few memory right count (most - size) (at + 8)))

-- none, where there are too many vectors
counted : (memory : Image) (right : Right) (few : Bool) (count most at : ℕ) → IfSome (parts_at memory right (cond few count 0) most at) (λ ps. nat_le (capacity ps) (cond few most 0) ≡ true)
unfolding parts_at
counted memory right true count most at = tested (parts_at memory right count most at) (parts-few memory right count most at)
  where
    tested : (o : Option (List Part)) → IfSome o (λ ps. capacity ps ≤ most) → IfSome o (λ ps. nat_le (capacity ps) most ≡ true)
    tested None h = tt
    tested (Some ps) h = grind (arith, nat_tests)
counted memory right false count most at = refl

length-joined : (memory : Image) (parts : List Part) → length (joined_parts memory parts) ≡ capacity parts
length-joined memory [] = refl
length-joined memory (part ∷ parts) =
    length-append (bytes_at memory.bytes part.address part.size) (joined_parts memory parts)
    ∙ ap (λ n. n + length (joined_parts memory parts)) (length-bytes_at memory.bytes part.address part.size)
    ∙ ap (λ n. part.size + n) (length-joined memory parts)

gathered : (memory : Image) (o : Option (List Part)) (most : ℕ) → IfSome o (λ ps. nat_le (capacity ps) most ≡ true)
    → IfSome (option_map (joined_parts memory) o) (λ bytes. nat_le (length bytes) most ≡ true)
gathered memory None most h = tt
gathered memory (Some parts) most h = rw (length-joined memory parts) h

-- ---- by what a call hands over

by_out : (P : Handed → Type 0) (memory : Image) (o : Option Part) → P (with_payload (Some [])) → P refused → P (with_out memory o)
by_out P memory None nothing bad = nothing
by_out P memory (Some part) nothing bad = tested (holds memory.regions part.address part.size Write)
  where
    tested : (may : Bool) → P (cond may (with_payload (Some [])) refused)
    tested true = nothing
    tested false = bad

by_payload : (P : Handed → Type 0) (Q : List ℕ → Type 0) (o : Option (List ℕ)) → IfSome o Q → P refused → ((bytes : List ℕ) → Q bytes → P (with_payload (Some bytes))) → P (with_payload o)
by_payload P Q None h bad good = bad
by_payload P Q (Some bytes) h bad good = good bytes h

by_capacity : (P : Handed → Type 0) (Q : ℕ → Type 0) (o : Option ℕ) → IfSome o Q → P refused → ((capacity : ℕ) → Q capacity → P (with_capacity (Some capacity))) → P (with_capacity o)
by_capacity P Q None h bad good = bad
by_capacity P Q (Some capacity) h bad good = good capacity h

written_in : (bytes : List ℕ) (a n : ℕ) (may : Bool) → IfSome (cond may (Some (bytes_at bytes a n)) None) (λ xs. (length xs == n) ≡ true)
written_in bytes a n true = let h : length (bytes_at bytes a n) ≡ n = length-bytes_at bytes a n in grind (arith, nat_tests)
written_in bytes a n false = tt

-- ---- what is polled

read-long : (bytes : List ℕ) (a n : ℕ) (may : Bool) → IfSome (cond may (Some (bytes_at bytes a n)) None) (λ xs. length xs ≡ n)
read-long bytes a n true = length-bytes_at bytes a n
read-long bytes a n false = tt

timeout-long : (n : ℕ) (m : Machine) → IfSome (timeout_in n m) (λ xs. (length xs ≡ 0) ⊎ (length xs ≡ 16))
timeout-long n m = given (argument m n == 0)
  where
    read : (o : Option (List ℕ)) → IfSome o (λ xs. length xs ≡ 16) → IfSome o (λ xs. (length xs ≡ 0) ⊎ (length xs ≡ 16))
    read None h = tt
    read (Some xs) h = inr h

    given : (none : Bool) → IfSome (cond none (Some []) (readable m.memory (argument m n) 16)) (λ xs. (length xs ≡ 0) ⊎ (length xs ≡ 16))
    given true = inl refl
    given false = read (readable m.memory (argument m n) 16) (read-long m.memory.bytes (argument m n) 16 (holds m.memory.regions (argument m n) 16 Read))

long-enough : (n k : ℕ) → (n ≡ k) ⊎ (n ≡ k + 16) → ((n == k) || (n == k + 16)) ≡ true
long-enough n k (inl h) = let is : (n == k) ≡ true = grind (arith, nat_tests) in rw is refl
long-enough n k (inr h) = let is : (n == k + 16) ≡ true = grind (arith, nat_tests) in rw is (last (n == k))
  where
    last : (b : Bool) → (b || true) ≡ true
    last true = refl
    last false = refl

joined-long : (k : ℕ) (xs ys : List ℕ) → length xs ≡ k → (length ys ≡ 0) ⊎ (length ys ≡ 16) → (length (xs ++ ys) ≡ k) ⊎ (length (xs ++ ys) ≡ k + 16)
joined-long k xs ys h (inl none) = let n = length-append xs ys in inl (omega (arith, n, h, none))
joined-long k xs ys h (inr some) = let n = length-append xs ys in inr (omega (arith, n, h, some))

both-fit : (k : ℕ) (first second : Option (List ℕ)) → IfSome first (λ xs. length xs ≡ k) → IfSome second (λ ys. (length ys ≡ 0) ⊎ (length ys ≡ 16))
    → IfSome (both first second) (λ xs. is_timed k xs ≡ true)
both-fit k None second h g = tt
both-fit k (Some xs) None h g = tt
both-fit k (Some xs) (Some ys) h g = long-enough (length (xs ++ ys)) k (joined-long k xs ys h g)

polled-fit : (m : Machine) → IfSome (polled_bytes m) (λ xs. is_timed (8 * polled_count (argument m 1)) xs ≡ true)
polled-fit m =
    let n : ℕ = 8 * polled_count (argument m 1) in
    both-fit n (readable m.memory (argument m 0) n) (timeout_in 2 m)
    (read-long m.memory.bytes (argument m 0) n (holds m.memory.regions (argument m 0) n Read)) (timeout-long 2 m)

-- ---- what is selected

zeros-long : (n : ℕ) → length {A = ℕ} (replicate n 0) ≡ n
zeros-long zero = refl
zeros-long (suc n) = ap suc (zeros-long n)

set-long : (n : ℕ) (m : Machine) → IfSome (set_in n m) (λ xs. length xs ≡ set_size m)
set-long n m = given (argument m n == 0) (holds m.memory.regions (argument m n) (set_size m) Write)
  where
    given : (none may : Bool)
        → IfSome (cond none (Some (replicate (set_size m) 0)) (cond may (readable m.memory (argument m n) (set_size m)) None)) (λ xs. length xs ≡ set_size m)
    given true may = zeros-long (set_size m)
    given false true = read-long m.memory.bytes (argument m n) (set_size m) (holds m.memory.regions (argument m n) (set_size m) Read)
    given false false = tt

both-long : (j k : ℕ) (first second : Option (List ℕ)) → IfSome first (λ xs. length xs ≡ j) → IfSome second (λ ys. length ys ≡ k)
    → IfSome (both first second) (λ xs. length xs ≡ j + k)
both-long j k None second h g = tt
both-long j k (Some xs) None h g = tt
both-long j k (Some xs) (Some ys) h g = let n = length-append xs ys in omega (arith, n, h, g)

sets-long : (m : Machine) → IfSome (sets_in m) (λ xs. length xs ≡ 3 * set_size m)
sets-long m =
    let n : ℕ = set_size m in
    let three : n + n + n ≡ 3 * n = omega arith in
    subst (λ (k : ℕ). IfSome (sets_in m) (λ xs. length xs ≡ k)) three
    (both-long (n + n) n (both (set_in 1 m) (set_in 2 m)) (set_in 3 m) (both-long n n (set_in 1 m) (set_in 2 m) (set-long 1 m) (set-long 2 m)) (set-long 3 m))

selected-fit : (m : Machine) → IfSome (selected_bytes m) (λ xs. is_timed (3 * set_size m) xs ≡ true)
selected-fit m = both-fit (3 * set_size m) (sets_in m) (timeout_in 4 m) (sets-long m) (timeout-long 4 m)

by_right : (P : Handed → Type 0) (may : Bool) (h : Handed) → P h → P refused → P (cond may h refused)
by_right P true h good bad = good
by_right P false h good bad = bad

-- the call with what it hands over has the form
abbrev Fit : Syscall → Machine → ℕ → Handed → Type 0
Fit k m tid h = is_shaped_as k (call_by k m tid h) ≡ true

shaped-by : (k : Syscall) (m : Machine) (tid : ℕ) → Fit k m tid (handed k m)
shaped-by Unlinkat m tid = by_payload (Fit Unlinkat m tid) (IsPathBy 256) (path_in m) (path-fits 256 m.memory (argument m 1)) refl (λ bytes h. path-is bytes h)
shaped-by Openat m tid = by_payload (Fit Openat m tid) (IsPathBy 256) (path_in m) (path-fits 256 m.memory (argument m 1)) refl (λ bytes h. path-is bytes h)
shaped-by WriteCall m tid = by_payload (Fit WriteCall m tid) (λ xs. (length xs == min (argument m 2) 4096) ≡ true) (written_bytes m)
    (written_in m.memory.bytes (argument m 1) (min (argument m 2) 4096) (holds m.memory.regions (argument m 1) (min (argument m 2) 4096) Read)) refl (λ bytes h. h)
shaped-by Bind m tid = by_payload (Fit Bind m tid) (λ xs. (length xs == min (argument m 2) 16) ≡ true) (address_in m)
    (written_in m.memory.bytes (argument m 1) (min (argument m 2) 16) (holds m.memory.regions (argument m 1) (min (argument m 2) 16) Read)) refl (λ bytes h. h)
shaped-by Writev m tid = by_payload (Fit Writev m tid) (λ xs. nat_le (length xs) (cond (nat_le (argument m 2) 1024) 4096 0) ≡ true) (vectors_in m)
    (gathered m.memory (parts_at m.memory Read (vector_count m) 4096 (argument m 1)) (cond (nat_le (argument m 2) 1024) 4096 0) (counted m.memory Read (nat_le (argument m 2) 1024) (argument m 2) 4096 (argument m 1))) refl (λ bytes h. h)
shaped-by Readv m tid = by_capacity (Fit Readv m tid) (λ capacity. nat_le capacity (cond (nat_le (argument m 2) 1024) 4096 0) ≡ true) (capacity_in m)
    (mapped capacity (λ capacity. nat_le capacity (cond (nat_le (argument m 2) 1024) 4096 0) ≡ true) (parts_at m.memory Write (vector_count m) 4096 (argument m 1)) (counted m.memory Write (nat_le (argument m 2) 1024) (argument m 2) 4096 (argument m 1))) refl (λ capacity h. rw h refl)
shaped-by Getcwd m tid = by_out (Fit Getcwd m tid) m.memory (out_of Getcwd m) refl refl
shaped-by Pipe2 m tid = by_out (Fit Pipe2 m tid) m.memory (out_of Pipe2 m) refl refl
shaped-by Llseek m tid = by_out (Fit Llseek m tid) m.memory (out_of Llseek m) refl refl
shaped-by ReadCall m tid = by_out (Fit ReadCall m tid) m.memory (out_of ReadCall m) refl refl
shaped-by Uname m tid = by_out (Fit Uname m tid) m.memory (out_of Uname m) refl refl
shaped-by Getrandom m tid = by_out (Fit Getrandom m tid) m.memory (out_of Getrandom m) refl refl
shaped-by ClockGettime64 m tid = by_out (Fit ClockGettime64 m tid) m.memory (out_of ClockGettime64 m) refl refl
shaped-by ClockNanosleep m tid = by_payload (Fit ClockNanosleep m tid) (λ xs. length xs ≡ 16) (readable m.memory (argument m 2) 16)
    (read-long m.memory.bytes (argument m 2) 16 (holds m.memory.regions (argument m 2) 16 Read)) refl (λ bytes h. long-enough (length bytes) 0 (inr h))
shaped-by Pselect6 m tid = by_payload (Fit Pselect6 m tid) (λ xs. is_timed (3 * set_size m) xs ≡ true) (selected_bytes m) (selected-fit m) refl (λ bytes h. h)
shaped-by Ppoll m tid = by_right (Fit Ppoll m tid) (holds m.memory.regions (argument m 0) (8 * polled_count (argument m 1)) Write) (with_payload (polled_bytes m))
    (by_payload (Fit Ppoll m tid) (λ xs. is_timed (8 * polled_count (argument m 1)) xs ≡ true) (polled_bytes m) (polled-fit m) refl (λ bytes h. h)) refl
shaped-by _ m tid = refl

pub call_is_shaped : (m : Machine) (tid : ℕ) → is_local (call_number m) ≡ false → IsShaped (call_at m tid)
unfolding is_shaped call_at
call_is_shaped m tid logged = rw logged (shaped-by (syscall_of (call_number m)) m tid)
