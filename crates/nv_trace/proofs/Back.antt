-- An event's bytes are read back as the event, and are those of what is read.
use Rattle.std.proofs.Common.{◌≡◌, ℕ, zero, suc, ◌+◌, ◌*◌, ◌<◌, ◌≤◌, Bool, true, false, ◌==◌, nat_lt, List, [], ◌∷◌, ◌++◌, length, take, drop, get_or, Option, Some, None, cond, refl, sym, ap, subst, ◌∙◌, arith, rules, append_assoc, length-append, length-drop}
use Rattle.std.proofs.lemmas.List.{drop-drop, drop_at, take_at, length-take-le}
use Rattle.std.proofs.lemmas.Bool.{or_parts}
use Rattle.std.proofs.lemmas.Bool.Decides.{nat_tests}
use Rattle.std.proofs.lemmas.Int.{to_z-of_z, of_z-to_z}
use Rattle.std.proofs.Math.Facts.{Fits-of_z}
use Rattle.std.specs.Int.{cast_signed, cast_unsigned}
use borrow.Author.Gap.{read_sfits}
use mathlib.Core.Option.{some, some-injective, some-ne-none}
use lib.ListN.{get_elem?}
use mir.Syntax.{w32}
use Rattle.nv_bytes.specs.LittleEndian.{field_at}
use Rattle.nv_calls.specs.Calls.{Entry}
use Rattle.nv_calls.specs.Held.{AreBytes}
use Rattle.nv_calls.specs.Logs.{InRange}
use Rattle.nv_trace.specs.declared.fault.TraceFault.{TraceFault}
use Rattle.nv_trace.specs.Trace.{number_bytes, bit, arg, fields_of, event_bytes}
use Rattle.nv_trace.specs.Held.{bad_in, sent_in, came_in, size_in, request_in, response_in, entry_in}
use Rattle.nv_trace.specs.Faults.{event_fault}
use Rattle.nv_trace.proofs.Numbers.{length-numbers, field-numbers, words_at, numbers-words, field-below, below_drop, take_sum}

-- a list of numbers below a limit
below_at : (l : List ℕ) (n i : ℕ) → ((k x : ℕ) → get_elem? l k ≡ some x → x < n) → 0 < n → get_or l i 0 < n
below_at [] n i h p = p
below_at (x ∷ l) n zero h p = h 0 x refl
below_at (x ∷ l) n (suc i) h p = below_at l n i (λ k z f. h (suc k) z f) p

six : (l : List ℕ) → length l ≡ 6 → get_or l 0 0 ∷ get_or l 1 0 ∷ get_or l 2 0 ∷ get_or l 3 0 ∷ get_or l 4 0 ∷ get_or l 5 0 ∷ [] ≡ l
six [] n = absurd (omega arith)
six (a ∷ []) n = absurd (omega arith)
six (a ∷ b ∷ []) n = absurd (omega arith)
six (a ∷ b ∷ c ∷ []) n = absurd (omega arith)
six (a ∷ b ∷ c ∷ d ∷ []) n = absurd (omega arith)
six (a ∷ b ∷ c ∷ d ∷ e ∷ []) n = absurd (omega arith)
six (a ∷ b ∷ c ∷ d ∷ e ∷ f ∷ []) n = refl
six (a ∷ b ∷ c ∷ d ∷ e ∷ f ∷ g ∷ l) n = absurd (omega arith)

bit_back : (b : Bool) → (bit b == 1) ≡ b
bit_back false = refl
bit_back true = refl

bit_low : (b : Bool) → bit b ≤ 1
bit_low false = omega arith
bit_low true = omega arith

-- Written and read

module _ (e : Entry) (rest : List ℕ) (ok : InRange e) where
  -- its bytes with others behind them
  abbrev all : List ℕ
  all = event_bytes e ++ rest

  abbrev payloads : List ℕ
  payloads = e.call.payload ++ (e.reply.payload ++ rest)

  parted : all ≡ number_bytes (fields_of e) ++ payloads
  unfolding event_bytes
  parted = append_assoc (number_bytes (fields_of e)) (e.call.payload ++ e.reply.payload) rest ∙ ap (λ t. number_bytes (fields_of e) ++ t) (append_assoc e.call.payload e.reply.payload rest)

  arg_fits : (i : ℕ) → arg e i < 4294967296
  arg_fits i = below_at e.call.args 4294967296 i ok.args (omega arith)

  ret_fits : cast_unsigned w32 e.reply.ret < 4294967296
  ret_fits = let f = Fits-of_z ok.ret in search rules

  short_call : length e.call.payload < 4294967296
  short_call = let s = ok.short in omega arith

  short_reply : length e.reply.payload < 4294967296
  short_reply = let s = ok.short in omega arith

  bit_fits : bit e.call.bad < 4294967296
  bit_fits = let b = bit_low e.call.bad in omega arith

  field : (k : ℕ) → k < 12 → get_or (fields_of e) k 0 < 4294967296 → field_at 4 all (4 * k) ≡ get_or (fields_of e) k 0
  field k less fits = ap (λ t. field_at 4 t (4 * k)) parted ∙ field-numbers (fields_of e) payloads k less fits

  pub bad_back : bad_in all ≡ bit e.call.bad
  bad_back = field 8 (omega arith) bit_fits

  pub sent_back : sent_in all ≡ length e.call.payload
  sent_back = field 10 (omega arith) short_call

  pub came_back : came_in all ≡ length e.reply.payload
  came_back = field 11 (omega arith) short_reply

  behind_fields : drop 48 all ≡ payloads
  behind_fields = ap (drop 48) parted ∙ drop_at (number_bytes (fields_of e)) payloads 48 (length-numbers (fields_of e))

  behind_call : drop (48 + length e.call.payload) all ≡ e.reply.payload ++ rest
  behind_call = sym (drop-drop (length e.call.payload) 48 all) ∙ ap (drop (length e.call.payload)) behind_fields ∙ drop_at e.call.payload (e.reply.payload ++ rest) (length e.call.payload) refl

  call_back : request_in all ≡ e.call
  unfolding request_in
  call_back =
      let tid = field 0 (omega arith) ok.tid in
      let nr = field 1 (omega arith) ok.nr in
      let a = field 2 (omega arith) (arg_fits 0) in
      let b = field 3 (omega arith) (arg_fits 1) in
      let c = field 4 (omega arith) (arg_fits 2) in
      let d = field 5 (omega arith) (arg_fits 3) in
      let f = field 6 (omega arith) (arg_fits 4) in
      let g = field 7 (omega arith) (arg_fits 5) in
      let args = six e.call.args ok.six in
      let bad : (bad_in all == 1) ≡ e.call.bad = ap (λ n. n == 1) bad_back ∙ bit_back e.call.bad in
      let payload : take (sent_in all) (drop 48 all) ≡ e.call.payload = (λ i. take (sent_back i) (behind_fields i)) ∙ take_at e.call.payload (e.reply.payload ++ rest) (length e.call.payload) refl in
      let first : request_in all ≡ record e.call { args = arg e 0 ∷ arg e 1 ∷ arg e 2 ∷ arg e 3 ∷ arg e 4 ∷ arg e 5 ∷ [] } =
      λ i. record { tid = tid i; nr = nr i; args = a i ∷ b i ∷ c i ∷ d i ∷ f i ∷ g i ∷ []; bad = bad i; payload = payload i } in
      first ∙ (λ i. record e.call { args = args i })

  reply_back : response_in all ≡ e.reply
  unfolding response_in
  reply_back =
      let ret : cast_signed w32 (field_at 4 all 36) ≡ e.reply.ret = ap (cast_signed w32) (field 9 (omega arith) ret_fits) ∙ to_z-of_z w32 e.reply.ret ok.ret in
      let payload : take (came_in all) (drop (48 + sent_in all) all) ≡ e.reply.payload =
      (λ i. take (came_back i) (drop (48 + sent_back i) all)) ∙ ap (take (length e.reply.payload)) behind_call ∙ take_at e.reply.payload rest (length e.reply.payload) refl in
      λ i. record { ret = ret i; payload = payload i }

  pub entry_back : (place : ℕ) → e.stamp ≡ place → entry_in place all ≡ e
  entry_back place stamp = λ i. record { stamp = sym stamp i; call = call_back i; reply = reply_back i }

  size_is : size_in all ≡ 48 + (length e.call.payload + length e.reply.payload)
  size_is = λ i. 48 + (sent_back i + came_back i)

  length-event : length (event_bytes e) ≡ 48 + (length e.call.payload + length e.reply.payload)
  unfolding event_bytes
  length-event = omega (arith, length-append (number_bytes (fields_of e)) (e.call.payload ++ e.reply.payload), length-append e.call.payload e.reply.payload, length-numbers (fields_of e))

  pub event_behind : drop (size_in all) all ≡ rest
  event_behind = drop_at (event_bytes e) rest (size_in all) (length-event ∙ sym size_is)

  pub event_faultless : (place : ℕ) → event_fault place all ≡ None
  unfolding event_fault
  event_faultless place =
      let long = length-append (event_bytes e) rest in
      let len = length-event in
      let size = size_is in
      let bad = bad_back in
      let low = bit_low e.call.bad in
      let sent = sent_back in
      let came = came_back in
      let short = ok.short in
      let first : nat_lt (length all) 48 ≡ false = grind (arith, nat_tests) in
      let second : nat_lt 1 (bad_in all) ≡ false = grind (arith, nat_tests) in
      let third : nat_lt 4096 (sent_in all + came_in all) ≡ false = grind (arith, nat_tests) in
      let fourth : nat_lt (length all) (size_in all) ≡ false = grind (arith, nat_tests) in
      rw (first, second, third, fourth) refl

-- Read and written

-- an event in front whose fields and payload are there
pub record IsThere (bytes : List ℕ) : Type 0 where
  pub low : bad_in bytes ≤ 1
  pub few : sent_in bytes + came_in bytes ≤ 4096
  pub inside : size_in bytes ≤ length bytes

test_out : (b : Bool) (fault : TraceFault) (o : Option TraceFault) → cond b (Some fault) o ≡ None → (b ≡ false) × (o ≡ None)
test_out true fault o h = cc
test_out false fault o h = (refl, h)

there_by : (bytes : List ℕ) → nat_lt 1 (bad_in bytes) ≡ false → nat_lt 4096 (sent_in bytes + came_in bytes) ≡ false → nat_lt (length bytes) (size_in bytes) ≡ false → IsThere bytes
there_by bytes low few inside = record { low = grind (arith, nat_tests); few = grind (arith, nat_tests); inside = grind (arith, nat_tests) }

pub is_there : (place : ℕ) (bytes : List ℕ) → event_fault place bytes ≡ None → IsThere bytes
unfolding event_fault
is_there place bytes h =
    let first = test_out _ _ _ h in
    let second = test_out _ _ _ first.1 in
    let third = test_out _ _ _ second.1 in
    let both = or_parts _ _ second.0 in
    there_by bytes both.0 both.1 third.0

module _ (bytes : List ℕ) (below : (i : ℕ) → get_or bytes i 0 < 256) (is : IsThere bytes) where
  call_part : length (take (sent_in bytes) (drop 48 bytes)) ≡ sent_in bytes
  call_part = let inside = is.inside in length-take-le (sent_in bytes) (drop 48 bytes) (omega (arith, length-drop 48 bytes))

  reply_part : length (take (came_in bytes) (drop (48 + sent_in bytes) bytes)) ≡ came_in bytes
  reply_part = let inside = is.inside in length-take-le (came_in bytes) (drop (48 + sent_in bytes) bytes) (omega (arith, length-drop (48 + sent_in bytes) bytes))

  bit_of : (n : ℕ) → n ≤ 1 → bit (n == 1) ≡ n
  bit_of zero h = refl
  bit_of (suc zero) h = refl
  bit_of (suc (suc n)) h = absurd (omega arith)

  fields_there : (place : ℕ) → fields_of (entry_in place bytes) ≡ words_at 0 12 bytes
  unfolding request_in response_in
  fields_there place =
      let bad = bit_of (bad_in bytes) is.low in
      let ret : cast_unsigned w32 (cast_signed w32 (field_at 4 bytes 36)) ≡ field_at 4 bytes 36 = of_z-to_z w32 (field_at 4 bytes 36) (field-below 36 bytes below) in
      λ i. field_at 4 bytes 0 ∷ field_at 4 bytes 4 ∷ field_at 4 bytes 8 ∷ field_at 4 bytes 12 ∷ field_at 4 bytes 16 ∷ field_at 4 bytes 20 ∷ field_at 4 bytes 24
      ∷ field_at 4 bytes 28 ∷ bad i ∷ ret i ∷ call_part i ∷ reply_part i ∷ []

  parts_there : (place : ℕ) → (entry_in place bytes).call.payload ++ (entry_in place bytes).reply.payload ≡ take (sent_in bytes + came_in bytes) (drop 48 bytes)
  unfolding request_in response_in
  parts_there place = ap (λ t. take (sent_in bytes) (drop 48 bytes) ++ take (came_in bytes) t) (sym (drop-drop (sent_in bytes) 48 bytes)) ∙ sym (take_sum (sent_in bytes) (came_in bytes) (drop 48 bytes))

  -- the bytes of the event in front are those that it is read from
  pub event_whole : (place : ℕ) → event_bytes (entry_in place bytes) ≡ take (size_in bytes) bytes
  unfolding event_bytes
  event_whole place =
      let inside = is.inside in
      let words : number_bytes (words_at 0 12 bytes) ≡ take 48 bytes = numbers-words 12 0 bytes (omega arith) below in
      let fields : number_bytes (fields_of (entry_in place bytes)) ≡ take 48 bytes = ap number_bytes (fields_there place) ∙ words in
      let parts = parts_there place in
      (λ i. fields i ++ parts i) ∙ sym (take_sum 48 (sent_in bytes + came_in bytes) bytes)

  args_below : (i x : ℕ) → get_elem? (request_in bytes).args i ≡ some x → x < 4294967296
  unfolding request_in
  args_below zero x h = subst (λ n. n < 4294967296) (some-injective _ _ h) (field-below 8 bytes below)
  args_below (suc zero) x h = subst (λ n. n < 4294967296) (some-injective _ _ h) (field-below 12 bytes below)
  args_below (suc (suc zero)) x h = subst (λ n. n < 4294967296) (some-injective _ _ h) (field-below 16 bytes below)
  args_below (suc (suc (suc zero))) x h = subst (λ n. n < 4294967296) (some-injective _ _ h) (field-below 20 bytes below)
  args_below (suc (suc (suc (suc zero)))) x h = subst (λ n. n < 4294967296) (some-injective _ _ h) (field-below 24 bytes below)
  args_below (suc (suc (suc (suc (suc zero))))) x h = subst (λ n. n < 4294967296) (some-injective _ _ h) (field-below 28 bytes below)
  args_below (suc (suc (suc (suc (suc (suc i)))))) x h = absurd (some-ne-none x (sym h))

  pub entry_in_range : (place : ℕ) → place < 4294967296 → InRange (entry_in place bytes)
  unfolding request_in response_in
  entry_in_range place less =
      let few = is.few in
      let sent = call_part in
      let came = reply_part in
      record {
        stamp = less;
        tid = field-below 0 bytes below;
        nr = field-below 4 bytes below;
        six = refl;
        args = args_below;
        ret = read_sfits w32 (field_at 4 bytes 36);
        call_bytes = part_below (sent_in bytes) (drop 48 bytes) (below_drop 48 bytes below);
        reply_bytes = part_below (came_in bytes) (drop (48 + sent_in bytes) bytes) (below_drop (48 + sent_in bytes) bytes below);
        short = omega arith;
      }
    where
      part_below : (n : ℕ) (bs : List ℕ) → ((i : ℕ) → get_or bs i 0 < 256) → AreBytes (take n bs)
      part_below zero bs low i x h = absurd (some-ne-none x (sym h))
      part_below (suc n) [] low i x h = absurd (some-ne-none x (sym h))
      part_below (suc n) (b ∷ bs) low zero x h = subst (λ z. z < 256) (some-injective b x h) (low 0)
      part_below (suc n) (b ∷ bs) low (suc i) x h = part_below n bs (λ k. low (suc k)) i x h
