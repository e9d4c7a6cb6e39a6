-- Bytes as hexadecimal digits: what reads them back, and what bytes they don't have.
use Rattle.std.proofs.Common.{◌≡◌, ℕ, ◌+◌, ◌-◌, ◌*◌, ◌/◌, ◌%◌, ◌<◌, ◌==◌, suc, true, false, List, [], ◌∷◌, ◌++◌, Option, Some, None, option_map, length, take, drop, get_or, refl, sym, ap, ◌∙◌, arith, flat_map}
use Rattle.std.specs.List.{All}
use Rattle.std.specs.Char.{is_ascii_hexdigit, digit_value}
use Rattle.std.specs.Fmt.{digit_glyph}
use Rattle.std.proofs.lemmas.Bool.Decides.{nat_tests}
use Rattle.std.proofs.lemmas.List.{take_all, take_more, flat_map_more}
use Rattle.std.proofs.lemmas.List.Elements.{All-nil, All-cons}
use Rattle.nv_bytes.specs.Numbers.{unhexed, pair_of, hex_pair_of, hex_of}
use Rattle.nv_bytes.proofs.Pairs.{pair-step, rest-ends}
use Rattle.nv_script.specs.Arrivals.{AreBytes}

glyph-is : (v : ℕ) → v < 16 → is_ascii_hexdigit (digit_glyph false v) ≡ true
glyph-is v small = grind (arith, nat_tests)

glyph-value : (v : ℕ) → v < 16 → digit_value (digit_glyph false v) ≡ v
glyph-value v small = grind (arith, nat_tests)

glyph-lacks : (v : ℕ) → v < 16 → (digit_glyph false v == 10) ≡ false
glyph-lacks v small = grind (arith, nat_tests)

pair-back : (b : ℕ) → b < 256 → pair_of (digit_glyph false (b / 16)) (digit_glyph false (b % 16)) ≡ Some b
pair-back b small =
    let high : b / 16 < 16 = omega arith in
    let low : b % 16 < 16 = omega arith in
    let whole : 16 * (b / 16) + b % 16 ≡ b = omega arith in
    rw (glyph-is (b / 16) high, glyph-is (b % 16) low, glyph-value (b / 16) high, glyph-value (b % 16) low) (ap Some whole)

option-same : (x : Option (List ℕ)) → option_map (λ more. [] ++ more) x ≡ x
option-same None = refl
option-same (Some bytes) = refl

-- what was written of bytes is read as these bytes
pub unhexed-hex : (bytes : List ℕ) → AreBytes bytes → unhexed (hex_of bytes) ≡ Some bytes
unhexed-hex [] h = sym (option-same (unhexed [])) ∙ rest-ends [] [] (omega arith)
unhexed-hex (b ∷ bs) h =
    let high : ℕ = digit_glyph false (b / 16) in
    let low : ℕ = digit_glyph false (b % 16) in
    let tail : hex_of bs ≡ take (length (high ∷ low ∷ hex_of bs) - 2) (drop 2 (high ∷ low ∷ hex_of bs)) = sym (take_all (length (high ∷ low ∷ hex_of bs) - 2) (hex_of bs) (omega arith)) in
    sym (option-same (unhexed (high ∷ low ∷ hex_of bs))) ∙ sym (pair-step [] (high ∷ low ∷ hex_of bs) (hex_of bs) b (omega arith) tail (pair-back b (h 0)))
    ∙ ap (option_map (λ more. b ∷ more)) (unhexed-hex bs (λ i. h (suc i)))

-- they have no newline
pub hex-lacks : (bytes : List ℕ) → AreBytes bytes → All (λ c. (c == 10) ≡ false) (hex_of bytes)
hex-lacks [] h = All-nil (λ c. (c == 10) ≡ false)
hex-lacks (b ∷ bs) h =
    let small = h 0 in
    All-cons (λ c. (c == 10) ≡ false) (digit_glyph false (b / 16)) (digit_glyph false (b % 16) ∷ hex_of bs) (glyph-lacks (b / 16) (omega arith))
    (All-cons (λ c. (c == 10) ≡ false) (digit_glyph false (b % 16)) (hex_of bs) (glyph-lacks (b % 16) (omega arith)) (hex-lacks bs (λ i. h (suc i))))

-- the loop's step: one more byte is written
pub hex_more : (before bytes : List ℕ) (i d : ℕ) → i < length bytes → (before ++ hex_of (take i bytes)) ++ hex_pair_of (get_or bytes i d) ≡ before ++ hex_of (take (i + 1) bytes)
hex_more before bytes i d inside =
    flat_map_more hex_pair_of before (take i bytes) (get_or bytes i d) ∙ ap (λ taken. before ++ flat_map hex_pair_of taken) (sym (take_more bytes i d inside))
