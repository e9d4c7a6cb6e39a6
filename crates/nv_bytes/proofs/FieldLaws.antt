-- Laws of fields.
use Rattle.std.proofs.Common.{◌≡◌, ℕ, ◌+◌, ◌^◌, ◌<◌, List, ◌++◌, length, drop, sym, ap, refl, ◌∙◌}
use Rattle.std.proofs.lemmas.List.{drop-drop, drop_at}
use Rattle.byteorder.specs.Endian.{little_number, little_bytes}
use Rattle.byteorder.specs.Numbers.{little_number-reads_back}
use Rattle.nv_bytes.specs.LittleEndian.{field_at}

-- a field after other bytes
pub field_at-append : (n : ℕ) (before bytes : List ℕ) (place : ℕ) → field_at n (before ++ bytes) (length before + place) ≡ field_at n bytes place
unfolding field_at
field_at-append n before bytes place =
    ap (little_number n) (sym (drop-drop place (length before) (before ++ bytes)) ∙ ap (drop place) (drop_at before bytes (length before) refl))

-- a field reads back what was written there
pub field_at-little_bytes : (n value : ℕ) (rest : List ℕ) → value < 256 ^ n → field_at n (little_bytes n value ++ rest) 0 ≡ value
unfolding field_at
field_at-little_bytes n value rest fits = little_number-reads_back n value rest fits
