-- Where the code begins, as the regions are gone through.
use Rattle.std.proofs.Common.{◌≡◌, true, false, ℕ, suc, zero, ◌+◌, ◌<◌, ◌≤◌, List, [], ◌∷◌, drop, length, get_or, refl, add-one, drop-cons, arith, ◌∙◌}
use Rattle.std.specs.Prelude.{if◌then◌else◌}
use Rattle.nv_memory.specs.declared.region.Region.{Region}
use Rattle.nv_memory.specs.Code.{has_code, code_start}

code_next : (rs : List Region) (i : ℕ) (d : Region) → i < length rs → code_start (drop i rs) ≡ (if has_code (get_or rs i d) then (get_or rs i d).start else code_start (drop (i + 1) rs))
code_next rs i d h = rw (add-one, drop-cons rs i d) refl

pub code_here : (rs : List Region) (i : ℕ) (d : Region) → i < length rs → has_code (get_or rs i d) ≡ true → code_start (drop i rs) ≡ (get_or rs i d).start
code_here rs i d h t = code_next rs i d h ∙ rw t refl

pub code_past : (rs : List Region) (i : ℕ) (d : Region) → i < length rs → has_code (get_or rs i d) ≡ false → code_start (drop i rs) ≡ code_start (drop (i + 1) rs)
code_past rs i d h f = code_next rs i d h ∙ rw f refl

pub code_ends : (rs : List Region) (i : ℕ) → length rs ≤ i → code_start (drop i rs) ≡ 0
code_ends [] zero h = refl
code_ends [] (suc i) h = refl
code_ends (r ∷ rs) zero h = absurd (omega arith)
code_ends (r ∷ rs) (suc i) h = code_ends rs i (omega (arith, h))
