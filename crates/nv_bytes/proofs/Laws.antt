-- Laws of lines and fields.
use Rattle.std.proofs.Common.{◌≡◌, ℕ, ◌<◌, ◌==◌, false, List, [], ◌∷◌, ◌++◌, length, refl, ap, arith}
use Rattle.std.specs.List.{All, onto_first}
use Rattle.std.proofs.lemmas.List.Elements.{All-head, All-tail}
use Rattle.std.proofs.lemmas.List.Splits.{length-slice_split}
use Rattle.nv_bytes.specs.Lines.{lines}
use Rattle.nv_bytes.specs.Fields.{is_space, fields}

-- a text has a field
pub fields-some : (text : List ℕ) → 0 < length (fields text)
unfolding fields
fields-some text = omega (arith, length-slice_split is_space text)

-- a line that a newline ends
pub lines-line : (line rest : List ℕ) → All (λ b. (b == 10) ≡ false) line → lines (line ++ 10 ∷ rest) ≡ line ∷ lines rest
unfolding lines
lines-line [] rest plain = refl
lines-line (b ∷ bs) rest plain =
    rw (All-head (λ c. (c == 10) ≡ false) b bs plain) (ap (onto_first b) (lines-line bs rest (All-tail (λ c. (c == 10) ≡ false) b bs plain)))
