use Rattle.std.proofs.Common.{◌≡◌, ◌∙◌, ◌+◌, ◌*◌, ◌-◌, ◌/◌, ◌%◌, ◌<◌, ◌≤◌, ℕ, List, [], ◌∷◌, length, take, drop, slice_index, arith, ap, sym, length-drop}
use Rattle.std.specs.Prelude.{◌==◌}
use mir.Val.{of_z, to_z}
use mir.Syntax.{w32}
use Rattle.std.proofs.lemmas.Int.{of_z-to_z}
use Rattle.std.proofs.lemmas.List.{take-take, drop-take, take_rest}
use Rattle.std.specs.List.{flat_map}
use Rattle.byteorder.specs.Endian.{little_bytes}
use Rattle.nv_calls.specs.Held.{Held}
use Rattle.nv_words.specs.Spelling.{low, high}
use Rattle.nv_words.specs.Read.{event_of, sent_of, came_of, payload_of}
use Rattle.nv_words.proofs.decode.decode.Goals as goal

prefix : (n k : ℕ) (all bytes : List ℕ) → k ≤ n → take n all ≡ bytes → take k all ≡ take k bytes
prefix n k all bytes le is = sym (take-take k n all le) ∙ ap (take k) is

middle : (n i k : ℕ) (all bytes : List ℕ) → i + k ≤ n → take n all ≡ bytes → take k (drop i all) ≡ take k (drop i bytes)
middle n i k all bytes le is = sym (drop-take i k all) ∙ ap (drop i) (prefix n (i + k) all bytes le is) ∙ drop-take i k bytes

-- a part that begins at `a` and is `b` long
part : (a b : ℕ) (l : List ℕ) → take (a + b - a) (drop a l) ≡ take b (drop a l)
part a b l = let e : a + b - a ≡ b = omega arith in ap (λ (z : ℕ). take z (drop a l)) e

pub returns-clause-event : goal.returns-clause-event
unfolding event_of
returns-clause-event c =
    let words : List ℕ = c.args.words.now in
    let bytes : List ℕ = c.unpack.new.bytes in
    let size : ℕ = 8 * length (drop 6 words) in
    let long : length (drop 6 words) ≡ length words - 6 = length-drop 6 words in
    let rest : take (length words - 6) (drop 6 words) ≡ drop 6 words = take_rest words 6 in
    let unpacked : take size bytes ≡ payload_of words = (λ i. take (8 * length (sym rest i)) bytes) ∙ c.unpack.ensures.prefix ∙ ap (flat_map (little_bytes 8)) rest in
    let sizes : c.high-sizes.result ≡ high (slice_index words 5) = c.high-sizes.ensures in
    let sent : c.high-sizes.result % 65536 ≡ sent_of words = ap (λ (z : ℕ). z % 65536) sizes in
    let came : c.high-sizes.result / 65536 ≡ came_of words = ap (λ (z : ℕ). z / 65536) sizes in
    let fits : sent_of words + came_of words ≤ size = (let p = c.requires.payload in let w = c.requires.words in omega arith) in
    let first : c.set.new.self.bytes ≡ take (sent_of words) (payload_of words) =
    ap (λ (h : Held). h.bytes) c.set.ensures ∙ ap (λ (z : ℕ). take z bytes) sent ∙ prefix size (sent_of words) bytes (payload_of words) (omega arith) unpacked in
    let second : c.set-2.new.self.bytes ≡ take (came_of words) (drop (sent_of words) (payload_of words)) =
    ap (λ (h : Held). h.bytes) c.set-2.ensures ∙ part (c.high-sizes.result % 65536) (c.high-sizes.result / 65536) bytes
    ∙ (λ i. take (came i) (drop (sent i) bytes)) ∙ middle size (sent_of words) (came_of words) bytes (payload_of words) fits unpacked in
    let word : low (slice_index words 5) < 4294967296 = omega arith in
    let read : c.cast_signed-event.result ≡ to_z w32 (low (slice_index words 5)) = c.cast_signed-event.ensures ∙ ap (to_z w32) c.low-4.ensures in
    let ret : to_z w32 (of_z w32 c.cast_signed-event.result) ≡ to_z w32 (low (slice_index words 5)) = ap (λ z. to_z w32 (of_z w32 z)) read ∙ ap (to_z w32) (of_z-to_z w32 (low (slice_index words 5)) word) in
    let bad : (c.high-4.result == 1) ≡ (high (slice_index words 1) == 1) = ap (λ (z : ℕ). z == 1) c.high-4.ensures in
    λ i. record {
      stamp = c.low-event.ensures i;
      call = record {
        tid = c.low-event-2.ensures i;
        nr = c.high-event.ensures i;
        args = c.low.ensures i ∷ c.high.ensures i ∷ c.low-2.ensures i ∷ c.high-2.ensures i ∷ c.low-3.ensures i ∷ c.high-3.ensures i ∷ [];
        bad = bad i;
        payload = first i;
      };
      reply = record { ret = ret i; payload = second i };
    }
