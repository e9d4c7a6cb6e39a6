-- In how many places something is told: of the first and of the others, of the bytes of a set one after another, and where a byte selects nothing.
use Rattle.std.proofs.Common.{◌≡◌, ◌∙◌, sym, ap, refl, ℕ, zero, suc, ◌+◌, ◌-◌, ◌*◌, ◌/◌, ◌%◌, ◌^◌, ◌≤◌, Bool, true, false, not, ◌&&◌, ◌==◌, List, ◌∷◌, ◌++◌, length, slice_index, zero-add, length-append, arith}
use Rattle.std.specs.Prelude.{filter, nat_lt, bit_and, if◌then◌else◌}
use Rattle.std.specs.Int.Bits.{and_zero_l}
use Rattle.std.specs.List.{range_with_len}
use Rattle.std.proofs.lemmas.List.Elements.{filter-append}
use Rattle.nv_calls.specs.declared.numbers.Syscall.{Syscall}
use Rattle.nv_calls.specs.declared.numbers.Syscall.TheVariants as call
use Rattle.nv_calls.specs.Answers.{selected_count}
use Rattle.nv_calls.specs.Calls.{Request}
use Rattle.nv_calls.specs.Numbers.{syscall_of}
use Rattle.nv_fs.specs.Polls.{when}
use Rattle.nv_kernel.specs.Serving.{request_arg}
use Rattle.nv_arriving.specs.Selecting.{has_bit, set_bits, set_events, PASSED, selected_at}
use Rattle.nv_arriving.specs.declared.polled.Polled.{Polled}
use Rattle.nv_arriving.specs.Polling.{looked_as, looked_at, told_of, is_ready, ready_in, ready_bits, ready_byte}
use Rattle.nv_arriving.specs.Standings.{Standing}

pub range_append : (a n m : ℕ) → range_with_len a (n + m) ≡ range_with_len a n ++ range_with_len (a + n) m
range_append a zero m = ap (range_with_len a) (zero-add m) ∙ ap (λ (b : ℕ). range_with_len b m) (let e : a ≡ a + 0 = omega arith in e)
range_append a (suc n) m =
    let e : suc n + m ≡ suc (n + m) = omega arith in
    let f : a + 1 + n ≡ a + suc n = omega arith in
    ap (range_with_len a) e
    ∙ ap (λ (z : List ℕ). a ∷ z) (range_append (a + 1) n m ∙ ap (λ (b : ℕ). range_with_len (a + 1) n ++ range_with_len b m) f)

module _ (s : Standing) (c : Request) where
  ready_append : (xs ys : List ℕ) → ready_in s c (xs ++ ys) ≡ ready_in s c xs + ready_in s c ys
  ready_append xs ys = ap length (filter-append (is_ready s c) xs ys) ∙ length-append (filter (is_ready s c) xs) (filter (is_ready s c) ys)

  -- the bytes before one, and it
  pub ready_more : (at : ℕ) → ready_in s c (range_with_len 0 (8 * (at + 1))) ≡ ready_in s c (range_with_len 0 (8 * at)) + ready_in s c (range_with_len (8 * at) 8)
  ready_more at =
      let e : 8 * (at + 1) ≡ 8 * at + 8 = omega arith in
      ap (λ (n : ℕ). ready_in s c (range_with_len 0 n)) e
      ∙ ap (ready_in s c) (range_append 0 (8 * at) 8 ∙ ap (λ (b : ℕ). range_with_len 0 (8 * at) ++ range_with_len b 8) (zero-add (8 * at)))
      ∙ ready_append (range_with_len 0 (8 * at)) (range_with_len (8 * at) 8)

  -- the first place, and the others
  pub ready_first : (place left : ℕ) → (left ≡ 0 → ⊥)
      → ready_in s c (range_with_len place left) ≡ when (is_ready s c place) 1 + ready_in s c (range_with_len (place + 1) (left - 1))
  ready_first place zero h = absurd (h refl)
  ready_first place (suc n) h =
      let e : suc n - 1 ≡ n = omega arith in
      by (is_ready s c place) (filter (is_ready s c) (range_with_len (place + 1) n))
      ∙ ap (λ (m : ℕ). when (is_ready s c place) 1 + ready_in s c (range_with_len (place + 1) m)) (sym e) where
        by : (b : Bool) (xs : List ℕ) → length (if b then place ∷ xs else xs) ≡ when b 1 + length xs
        by true xs = omega arith
        by false xs = sym (zero-add (length xs))

  module _ (selects : syscall_of c.nr ≡ call.Pselect6) where
    -- a place of a byte that is 0
    idle : (at place : ℕ) → slice_index c.payload at ≡ 0 → place / 8 ≡ at → is_ready s c place ≡ false
    unfolding selected_at
    idle at place none here =
        let byte : slice_index c.payload (place / 8) ≡ 0 = ap (slice_index c.payload) here ∙ none in
        let bits : bit_and (slice_index c.payload (place / 8)) (2 ^ (place % 8)) ≡ 0
        = ap (λ (n : ℕ). bit_and n (2 ^ (place % 8))) byte ∙ and_zero_l (2 ^ (place % 8)) in
        let bit : has_bit c.payload place ≡ false = ap (λ (n : ℕ). not (n == 0)) bits in
        let fd : ℕ = place % set_bits c in
        let passed : looked_at c place ≡ PASSED
        = ap (λ (k : Syscall). looked_as k c place) selects
        ∙ ap (λ (b : Bool). if b && nat_lt fd (selected_count (request_arg c 0)) then record { fd = fd; events = set_events (place / set_bits c) } else PASSED) bit in
        ap (λ (p : Polled). not (told_of s p == 0)) passed

    none_bits : (at place n : ℕ) → slice_index c.payload at ≡ 0 → 8 * at ≤ place → place + n ≤ 8 * at + 8 → ready_bits s c place n ≡ 0
    none_bits at place zero none low high = refl
    none_bits at place (suc n) none low high =
        let first = idle at place none (let e : place / 8 ≡ at = omega (arith, low, high) in e) in
        let rest = none_bits at (place + 1) n none (omega (arith, low)) (omega (arith, high)) in
        ap (λ (b : Bool). when b 1 + 2 * ready_bits s c (place + 1) n) first ∙ omega (arith, rest)

    none_in : (at place n : ℕ) → slice_index c.payload at ≡ 0 → 8 * at ≤ place → place + n ≤ 8 * at + 8 → ready_in s c (range_with_len place n) ≡ 0
    none_in at place zero none low high = refl
    none_in at place (suc n) none low high =
        let first = idle at place none (let e : place / 8 ≡ at = omega (arith, low, high) in e) in
        let rest = none_in at (place + 1) n none (omega (arith, low)) (omega (arith, high)) in
        ap (λ (b : Bool). length (if b then place ∷ filter (is_ready s c) (range_with_len (place + 1) n) else filter (is_ready s c) (range_with_len (place + 1) n))) first ∙ rest

    pub none_byte : (at : ℕ) → slice_index c.payload at ≡ 0 → 0 ≡ ready_byte s c at
    none_byte at none = sym (none_bits at (8 * at) 8 none (omega arith) (omega arith))

    pub none_ready : (at : ℕ) → slice_index c.payload at ≡ 0 → 0 ≡ ready_in s c (range_with_len (8 * at) 8)
    none_ready at none = sym (none_in at (8 * at) 8 none (omega arith) (omega arith))
