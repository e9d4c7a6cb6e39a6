-- An event has one spelling, different events have different spellings, and none begins another.
use Rattle.std.proofs.Common.{◌≡◌, ℕ, zero, suc, ◌+◌, ◌*◌, ◌/◌, ◌%◌, ◌-◌, ◌<◌, ◌≤◌, Bool, true, false, List, [], ◌∷◌, ◌++◌, map, length, take, drop, get_or, subst, sym, ap, ◌∙◌, refl, arith, rules, lt_of_not-le, length-append}
use Rattle.std.specs.Prelude.{◌==◌}
use Rattle.std.specs.List.{range_with_len, flat_map}
use Rattle.std.specs.Int.{cast_signed}
use Rattle.std.proofs.lemmas.Int.{to_z-of_z}
use Rattle.std.proofs.lemmas.List.FromFn.{length-map-range_with_len, get_or-map-range_with_len}
use Rattle.std.proofs.lemmas.List.{append_assoc, take-append-drop}
use Rattle.std.proofs.Math.Seq.{take-append_seam, drop-append_seam}
use Rattle.std.proofs.lemmas.Nat.{le_bytes_8}
use mir.Val.{of_z}
use mir.Syntax.{w32}
use Rattle.std.proofs.Math.Facts.{Fits-of_z}
use mathlib.Core.Logic.{dite}
use native.Mathlib.Decide.{dec_le}
use mathlib.Core.Option.{some, some-injective, some-ne-none}
use lib.ListN.{get_elem?}
use Rattle.byteorder.specs.Endian.{little_from, little_bytes}
use Rattle.nv_calls.specs.Held.{AreBytes}
use Rattle.nv_calls.specs.Calls.{Entry}
use Rattle.nv_calls.specs.Logs.{InRange}
use Rattle.nv_words.specs.Spelling.{low, high, pair, flag_bit, packed, spell, payload_words, IsWhole}
use Rattle.nv_words.specs.Read.{sent_of, came_of, halves, event_of, IsEventRead}
use Rattle.nv_words.specs.Begins.{Prefix, BeginsEvent}

-- Packed bytes

packed_length : (bs : List ℕ) → length (packed bs) ≡ (length bs + 7) / 8
unfolding packed
packed_length bs = length-map-range_with_len (λ i. little_from (8 * i) 8 bs) 0 ((length bs + 7) / 8)

packed_at : (bs : List ℕ) (j : ℕ) → j < (length bs + 7) / 8 → get_or (packed bs) j 0 ≡ little_from (8 * j) 8 bs
unfolding packed
packed_at bs j l = get_or-map-range_with_len (λ i. little_from (8 * i) 8 bs) 0 ((length bs + 7) / 8) j j 0 l (omega arith)

-- n bytes from place k on, with 0 after the last
window : List ℕ → ℕ → ℕ → List ℕ
window bs k zero = []
window bs k (suc n) = get_or bs k 0 ∷ window bs (suc k) n

window_add : (bs : List ℕ) (k n m : ℕ) → window bs k (n + m) ≡ window bs k n ++ window bs (k + n) m
unfolding window
window_add bs k zero m = let same : 0 + m ≡ m = omega arith in let e : k ≡ k + 0 = omega arith in ap (window bs k) same ∙ ap (λ z. window bs z m) e
window_add bs k (suc n) m = let same : suc n + m ≡ suc (n + m) = omega arith in let e : suc k + n ≡ k + suc n = omega arith in ap (window bs k) same ∙ ap (λ z. get_or bs k 0 ∷ z) (window_add bs (suc k) n m ∙ ap (λ z. window bs (suc k) n ++ window bs z m) e)

window_below : (bs : List ℕ) (k n : ℕ) → ((i : ℕ) → get_or bs i 0 < 256) → (i : ℕ) → get_or (window bs k n) i 0 < 256
unfolding window
window_below bs k zero h i = omega arith
window_below bs k (suc n) h zero = h k
window_below bs k (suc n) h (suc i) = window_below bs (suc k) n h i

window_bytes : (bs : List ℕ) (k : ℕ) → ((i : ℕ) → get_or bs i 0 < 256) → little_bytes 8 (little_from k 8 bs) ≡ window bs k 8
unfolding window
window_bytes bs k h = le_bytes_8 (window bs k 8) (little_from k 8 bs) refl (window_below bs k 8 h) (omega arith)

unpacked : (bs : List ℕ) (a m : ℕ) → ((i : ℕ) → get_or bs i 0 < 256) → flat_map (little_bytes 8) (map (λ i. little_from (8 * i) 8 bs) (range_with_len a m)) ≡ window bs (8 * a) (8 * m)
unfolding window
unpacked bs a zero h = refl
unpacked bs a (suc m) h =
    let first = window_bytes bs (8 * a) h in
    let rest = unpacked bs (a + 1) m h in
    let on : 8 * (a + 1) ≡ 8 * a + 8 = omega arith in
    let all : 8 + 8 * m ≡ 8 * suc m = omega arith in
    (λ i. first i ++ rest i) ∙ ap (λ z. window bs (8 * a) 8 ++ window bs z (8 * m)) on ∙ sym (window_add bs (8 * a) 8 (8 * m)) ∙ ap (window bs (8 * a)) all

window_cons : (b : ℕ) (bs : List ℕ) (k n : ℕ) → window (b ∷ bs) (suc k) n ≡ window bs k n
unfolding window
window_cons b bs k zero = refl
window_cons b bs k (suc n) = ap (λ z. get_or bs k 0 ∷ z) (window_cons b bs (suc k) n)

window_whole : (bs : List ℕ) (n : ℕ) → length bs ≤ n → take (length bs) (window bs 0 n) ≡ bs
unfolding window
window_whole [] n h = refl
window_whole (b ∷ bs) zero h = absurd (omega arith)
window_whole (b ∷ bs) (suc n) h = ap (λ z. b ∷ z) (ap (take (length bs)) (window_cons b bs 0 n) ∙ window_whole bs n (omega arith))

-- the bytes are at the beginning of what their words give back
prefix_of_packed : (bs : List ℕ) → ((i : ℕ) → get_or bs i 0 < 256) → take (length bs) (flat_map (little_bytes 8) (packed bs)) ≡ bs
unfolding packed
prefix_of_packed bs h = ap (take (length bs)) (unpacked bs 0 ((length bs + 7) / 8) h) ∙ window_whole bs (8 * ((length bs + 7) / 8)) (omega arith)

-- Lengths

split_pair : (r q : ℕ) → r < 4294967296 → ((r + 4294967296 * q) % 4294967296 ≡ r) × ((r + 4294967296 * q) / 4294967296 ≡ q)
split_pair r q h = (omega arith, omega arith)

split_lengths : (a b : ℕ) → a + b ≤ 4096 → ((a + 65536 * b) % 65536 ≡ a) × ((a + 65536 * b) / 65536 ≡ b)
split_lengths a b h = (omega arith, omega arith)

ret_fits : (e : Entry) → InRange e → of_z w32 e.reply.ret < 4294967296
ret_fits e ok = let f = Fits-of_z ok.ret in search rules

payload_of : (r a b : ℕ) → r < 4294967296 → a + b ≤ 4096 → payload_words (pair r (a + 65536 * b)) ≡ (a + b + 7) / 8
unfolding payload_words
payload_of r a b h l =
    let both = split_lengths a b l in
    let is = (split_pair r (a + 65536 * b) h).1 in
    λ i. (((ap (λ (z : ℕ). z % 65536) is ∙ both.0) i) + ((ap (λ (z : ℕ). z / 65536) is ∙ both.1) i) + 7) / 8

pub spell_length : (e : Entry) → length (spell e) ≡ 6 + (length e.call.payload + length e.reply.payload + 7) / 8
unfolding spell
spell_length e =
    let p : length (packed (e.call.payload ++ e.reply.payload)) ≡ (length e.call.payload + length e.reply.payload + 7) / 8 = packed_length (e.call.payload ++ e.reply.payload) ∙ ap (λ (z : ℕ). (z + 7) / 8) (length-append e.call.payload e.reply.payload) in
    omega arith

-- a spelling is whole, and has 6 to 518 words
pub spell_whole : (e : Entry) → InRange e → IsWhole (spell e) × (length (spell e) ≤ 518)
unfolding spell
spell_whole e ok =
    let a : ℕ = length e.call.payload in
    let b : ℕ = length e.reply.payload in
    let l : a + b ≤ 4096 = ok.short in
    let long = spell_length e in
    let words = payload_of (of_z w32 e.reply.ret) a b (ret_fits e ok) l in
    ((omega arith, long ∙ ap (λ (z : ℕ). 6 + z) (sym words)), omega arith)

after_six : (e : Entry) (j : ℕ) → get_or (spell e) (suc (suc (suc (suc (suc (suc j)))))) 0 ≡ get_or (packed (e.call.payload ++ e.reply.payload)) j 0
unfolding spell
after_six e j = refl

-- the payload's words
pub spell_late : (e : Entry) (i : ℕ) → 6 ≤ i → i < length (spell e) → get_or (spell e) i 0 ≡ little_from (8 * (i - 6)) 8 (e.call.payload ++ e.reply.payload)
spell_late e i le lt =
    let j : ℕ = i - 6 in
    let is : suc (suc (suc (suc (suc (suc j))))) ≡ i = omega arith in
    let bs : List ℕ = e.call.payload ++ e.reply.payload in
    let both = length-append e.call.payload e.reply.payload in
    let long = spell_length e in
    let l : j < (length bs + 7) / 8 = subst (λ (z : ℕ). j < (z + 7) / 8) (sym both) (omega arith) in
    ap (λ (z : ℕ). get_or (spell e) z 0) (sym is) ∙ after_six e j ∙ packed_at bs j l

-- Read back

bytes_below : (a b : List ℕ) → AreBytes a → AreBytes b → (i : ℕ) → get_or (a ++ b) i 0 < 256
bytes_below [] [] ha hb i = omega arith
bytes_below [] (y ∷ ys) ha hb zero = hb 0 y refl
bytes_below [] (y ∷ ys) ha hb (suc i) = bytes_below [] ys ha (λ k x f. hb (suc k) x f) i
bytes_below (x ∷ xs) b ha hb zero = ha 0 x refl
bytes_below (x ∷ xs) b ha hb (suc i) = bytes_below xs b (λ k z f. ha (suc k) z f) hb i

-- two lists one after the other are found in what begins with them
two_parts : (a b all : List ℕ) → take (length (a ++ b)) all ≡ a ++ b → (take (length a) all ≡ a) × (take (length b) (drop (length a) all) ≡ b)
two_parts a b all h =
    let rest : List ℕ = drop (length (a ++ b)) all in
    let is : all ≡ a ++ (b ++ rest) = sym (take-append-drop (length (a ++ b)) all) ∙ ap (λ z. z ++ rest) h ∙ append_assoc a b rest in
    (ap (take (length a)) is ∙ take-append_seam a (b ++ rest), ap (λ z. take (length b) (drop (length a) z)) is ∙ ap (take (length b)) (drop-append_seam a (b ++ rest)) ∙ take-append_seam b rest)

six_args : (l : List ℕ) → length l ≡ 6 → ((i x : ℕ) → get_elem? l i ≡ some x → x < 4294967296)
    → halves (pair (get_or l 0 0) (get_or l 1 0)) (halves (pair (get_or l 2 0) (get_or l 3 0)) (halves (pair (get_or l 4 0) (get_or l 5 0)) [])) ≡ l
six_args [] n h = absurd (omega arith)
six_args (a ∷ []) n h = absurd (omega arith)
six_args (a ∷ b ∷ []) n h = absurd (omega arith)
six_args (a ∷ b ∷ c ∷ []) n h = absurd (omega arith)
six_args (a ∷ b ∷ c ∷ d ∷ []) n h = absurd (omega arith)
six_args (a ∷ b ∷ c ∷ d ∷ e ∷ []) n h = absurd (omega arith)
six_args (a ∷ b ∷ c ∷ d ∷ e ∷ f ∷ []) n h =
    let x = split_pair a b (h 0 a refl) in
    let y = split_pair c d (h 2 c refl) in
    let z = split_pair e f (h 4 e refl) in
    λ i. x.0 i ∷ x.1 i ∷ y.0 i ∷ y.1 i ∷ z.0 i ∷ z.1 i ∷ []
six_args (a ∷ b ∷ c ∷ d ∷ e ∷ f ∷ g ∷ l) n h = absurd (omega arith)

bit_back : (b : Bool) → (flag_bit b == 1) ≡ b
bit_back false = refl
bit_back true = refl

sizes_of_spell : (e : Entry) → InRange e → (sent_of (spell e) ≡ length e.call.payload) × (came_of (spell e) ≡ length e.reply.payload)
unfolding spell
sizes_of_spell e ok =
    let fifth = (split_pair (of_z w32 e.reply.ret) (length e.call.payload + 65536 * length e.reply.payload) (ret_fits e ok)).1 in
    let sizes = split_lengths (length e.call.payload) (length e.reply.payload) ok.short in
    (ap (λ (z : ℕ). z % 65536) fifth ∙ sizes.0, ap (λ (z : ℕ). z / 65536) fifth ∙ sizes.1)

-- the event is read back from its spelling
pub event_of_spell : (e : Entry) → InRange e → event_of (spell e) ≡ e
unfolding spell event_of
event_of_spell e ok =
    let a : List ℕ = e.call.payload in
    let b : List ℕ = e.reply.payload in
    let all : List ℕ = flat_map (little_bytes 8) (packed (a ++ b)) in
    let parts = two_parts a b all (prefix_of_packed (a ++ b) (bytes_below a b ok.call_bytes ok.reply_bytes)) in
    let first = split_pair e.call.tid e.call.nr ok.tid in
    let second = split_pair e.stamp (flag_bit e.call.bad) ok.stamp in
    let fifth = split_pair (of_z w32 e.reply.ret) (length a + 65536 * length b) (ret_fits e ok) in
    let sizes = sizes_of_spell e ok in
    let args = six_args e.call.args ok.six ok.args in
    let bad : (high (pair e.stamp (flag_bit e.call.bad)) == 1) ≡ e.call.bad = ap (λ (z : ℕ). z == 1) second.1 ∙ bit_back e.call.bad in
    let ret : cast_signed w32 (low (pair (of_z w32 e.reply.ret) (length a + 65536 * length b))) ≡ e.reply.ret = ap (cast_signed w32) fifth.0 ∙ to_z-of_z w32 e.reply.ret ok.ret in
    let left : take (sent_of (spell e)) all ≡ a = ap (λ (z : ℕ). take z all) sizes.0 ∙ parts.0 in
    let right : take (came_of (spell e)) (drop (sent_of (spell e)) all) ≡ b = (λ i. take (sizes.1 i) (drop (sizes.0 i) all)) ∙ parts.1 in
    λ i. record { stamp = second.0 i; call = record { tid = first.0 i; nr = first.1 i; args = args i; bad = bad i; payload = left i }; reply = record { ret = ret i; payload = right i } }

-- different events have different spellings
pub spell_one : (e f : Entry) → InRange e → InRange f → spell e ≡ spell f → e ≡ f
spell_one e f oke okf h = sym (event_of_spell e oke) ∙ ap event_of h ∙ event_of_spell f okf

-- Prefixes

pub prefix_length : {A : Type 0} (xs ys : List A) → Prefix xs ys → length xs ≤ length ys
prefix_length [] ys h = omega arith
prefix_length (x ∷ xs) [] h = absurd (some-ne-none x (sym (h 0 x refl)))
prefix_length (x ∷ xs) (y ∷ ys) h = let b = prefix_length xs ys (λ i z f. h (suc i) z f) in omega arith

-- a prefix of the same length is the list
pub prefix_same : {A : Type 0} (xs ys : List A) → length xs ≡ length ys → Prefix xs ys → xs ≡ ys
prefix_same [] [] e h = refl
prefix_same [] (y ∷ ys) e h = absurd (omega arith)
prefix_same (x ∷ xs) [] e h = absurd (omega arith)
prefix_same (x ∷ xs) (y ∷ ys) e h =
    let a : y ≡ x = some-injective y x (h 0 x refl) in
    let b : xs ≡ ys = prefix_same xs ys (omega arith) (λ i z f. h (suc i) z f) in
    λ k. sym a k ∷ b k

prefix_get : (xs ys : List ℕ) (i : ℕ) → Prefix xs ys → i < length xs → get_or xs i 0 ≡ get_or ys i 0
prefix_get [] ys i h l = absurd (omega arith)
prefix_get (x ∷ xs) [] i h l = absurd (some-ne-none x (sym (h 0 x refl)))
prefix_get (x ∷ xs) (y ∷ ys) zero h l = sym (some-injective y x (h 0 x refl))
prefix_get (x ∷ xs) (y ∷ ys) (suc i) h l = prefix_get xs ys i (λ k z f. h (suc k) z f) (omega arith)

-- whole words that begin whole words are those
pub whole_same : (words all : List ℕ) → Prefix words all → IsWhole words → IsWhole all → words ≡ all
whole_same words all p w u =
    let fifth = prefix_get words all 5 p (omega arith) in
    prefix_same words all (w.1 ∙ ap (λ (z : ℕ). 6 + payload_words z) fifth ∙ sym u.1) p

-- words that aren't whole are fewer than the whole words that they begin
pub shorter : (words all : List ℕ) → Prefix words all → IsWhole all → ¬ IsWhole words → length words < length all
shorter words all p u part = dite (dec_le (length all) (length words))
    (λ le. let ge = prefix_length words all p in let same : length words ≡ length all = omega arith in absurd (part (subst IsWhole (sym (prefix_same words all same p)) u)))
    (λ not. lt_of_not-le not)

-- whole words that begin a spelling are that spelling
pub whole_is : (words : List ℕ) (e : Entry) → InRange e → IsWhole words → Prefix words (spell e) → words ≡ spell e
whole_is words e ok w p = whole_same words (spell e) p w (spell_whole e ok).0

-- no spelling begins another event's
pub spell_alone : (e f : Entry) → InRange e → InRange f → Prefix (spell e) (spell f) → e ≡ f
spell_alone e f oke okf p = spell_one e f oke okf (whole_is (spell e) f okf (spell_whole e oke).0 p)

-- the lengths that whole words tell are those of the payload's words
pub sizes_fit : (words : List ℕ) → IsWhole words → BeginsEvent words → (sent_of words + came_of words ≤ 4096) × (sent_of words + came_of words + 48 ≤ 8 * length words)
sizes_fit words w b =
    let e : Entry = b.0 in
    let is = whole_is words e b.1 w b.2 in
    let sizes = sizes_of_spell e b.1 in
    let sent : sent_of words ≡ length e.call.payload = ap sent_of is ∙ sizes.0 in
    let came : came_of words ≡ length e.reply.payload = ap came_of is ∙ sizes.1 in
    let long : length words ≡ 6 + (length e.call.payload + length e.reply.payload + 7) / 8 = ap (λ (z : List ℕ). length z) is ∙ spell_length e in
    let short = b.1.short in
    (omega arith, omega arith)

-- whole words that begin a spelling are read back
pub read_whole : (words : List ℕ) → IsWhole words → BeginsEvent words → IsEventRead (event_of words) words
read_whole words w b =
    let e : Entry = b.0 in
    let is = whole_is words e b.1 w b.2 in
    let same : e ≡ event_of words = sym (event_of_spell e b.1) ∙ ap event_of (sym is) in
    subst (λ (f : Entry). IsEventRead f words) same (record { spelt = sym is; range = b.1 })
