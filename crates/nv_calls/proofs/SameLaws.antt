-- The test of sameness decides equality.
use Rattle.std.proofs.Common.{◌≡◌, ◌∙◌, ap, refl, ℕ, Bool, true, false, List, arith, IsTrue, ◌↔◌}
use Rattle.std.specs.Prelude.{◌==◌, ◌&&◌}
use Rattle.std.specs.Str.{bytes_eq}
use Rattle.std.specs.Bool.{beq}
use Rattle.std.proofs.lemmas.Slice.Eq.{bytes_eq-Decides}
use Rattle.std.proofs.lemmas.Bool.Decides.{nat_tests}
use Rattle.nv_calls.specs.Calls.{Request, is_same}

all_true : (a b c d e : Bool) → (a && b && c && d && e) ≡ true → (a ≡ true) × (b ≡ true) × (c ≡ true) × (d ≡ true) × (e ≡ true)
all_true true true true true true h = (refl, refl, refl, refl, refl)
all_true true true true true false h = cc
all_true true true true false e h = cc
all_true true true false d e h = cc
all_true true false c d e h = cc
all_true false b c d e h = cc

bool_same : (a b : Bool) → beq a b ≡ true → a ≡ b
bool_same true true h = refl
bool_same true false h = cc
bool_same false true h = cc
bool_same false false h = refl

bool_self : (a : Bool) → beq a a ≡ true
bool_self true = refl
bool_self false = refl

num_same : (a b : ℕ) → (a == b) ≡ true → a ≡ b
num_same a b h = grind (arith, nat_tests)

num_self : (a : ℕ) → (a == a) ≡ true
num_self a = grind (arith, nat_tests)

bytes_same : (a b : List ℕ) → bytes_eq a b ≡ true → a ≡ b
bytes_same a b h = (bytes_eq-Decides a b).0 h

bytes_self : (a : List ℕ) → bytes_eq a a ≡ true
bytes_self a = (bytes_eq-Decides a a).1 refl

pub same_is : (c d : Request) → is_same c d ≡ true → c ≡ d
unfolding is_same
same_is c d h =
    let f = all_true _ _ _ _ _ h in
    let e0 : c.tid ≡ d.tid = num_same _ _ f.0 in
    let e1 : c.nr ≡ d.nr = num_same _ _ f.1 in
    let e2 : c.args ≡ d.args = bytes_same _ _ f.2 in
    let e3 : c.bad ≡ d.bad = bool_same _ _ f.3 in
    let e4 : c.payload ≡ d.payload = bytes_same _ _ f.4 in
    λ i. record { tid = e0 i; nr = e1 i; args = e2 i; bad = e3 i; payload = e4 i }

pub same_self : (c : Request) → is_same c c ≡ true
unfolding is_same
same_self c = simp (num_self, bytes_self, bool_self) refl

none_true : (b : Bool) → (b ≡ true → ⊥) → b ≡ false
none_true true f = absurd (f refl)
none_true false f = refl

-- what a test that says whether they are equal says
pub same_by : (c d : Request) (b : Bool) → (IsTrue b ↔ (c ≡ d)) → is_same c d ≡ b
same_by c d true f = ap (λ x. is_same x d) (f.0 refl) ∙ same_self d
same_by c d false f = none_true (is_same c d) (λ h. let z : false ≡ true = f.1 (same_is c d h) in cc)
