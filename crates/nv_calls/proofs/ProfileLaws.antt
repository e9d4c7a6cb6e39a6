-- A call of a number that isn't in the table has the form of a call.
use Rattle.std.proofs.Common.{◌≡◌, ℕ, Bool, true, false, not, ◌&&◌, ◌||◌, ◌==◌, cond, [], ◌∷◌, refl, sym, subst, arith}
use Rattle.std.proofs.lemmas.Bool.Decides.{nat_tests}
use Rattle.nv_calls.specs.Calls.{Request}
use Rattle.nv_calls.specs.Numbers.{syscall_of, is_local, is_later}
use Rattle.nv_calls.specs.Profiles.{bare, in_profile}
use Rattle.nv_calls.specs.Shapes.{is_shaped, IsShaped}

abbrev of_number : ℕ → ℕ → Request
of_number tid nr = record { tid = tid; nr = nr; args = 0 ∷ 0 ∷ 0 ∷ 0 ∷ 0 ∷ 0 ∷ []; bad = false; payload = [] }

fcntl : (tid : ℕ) → is_shaped (of_number tid 25) ≡ true
unfolding is_shaped is_local syscall_of
fcntl tid = refl

sleep : (tid : ℕ) → is_shaped (of_number tid 407) ≡ true
unfolding is_shaped is_local syscall_of
sleep tid = refl

selects : (tid : ℕ) → is_shaped (of_number tid 413) ≡ true
unfolding is_shaped is_local syscall_of
selects tid = refl

poll : (tid : ℕ) → is_shaped (of_number tid 414) ≡ true
unfolding is_shaped is_local syscall_of
poll tid = refl

number_by : (tid nr : ℕ) (x y z w : Bool) → (nr == 25) ≡ x → (nr == 407) ≡ y → (nr == 413) ≡ z → (nr == 414) ≡ w → (x || y || z || w) ≡ true
    → is_shaped (of_number tid nr) ≡ true
number_by tid nr true y z w e f g h k = let is : nr ≡ 25 = grind (arith, nat_tests) in subst (λ (n : ℕ). is_shaped (of_number tid n) ≡ true) (sym is) (fcntl tid)
number_by tid nr false true z w e f g h k = let is : nr ≡ 407 = grind (arith, nat_tests) in subst (λ (n : ℕ). is_shaped (of_number tid n) ≡ true) (sym is) (sleep tid)
number_by tid nr false false true w e f g h k = let is : nr ≡ 413 = grind (arith, nat_tests) in subst (λ (n : ℕ). is_shaped (of_number tid n) ≡ true) (sym is) (selects tid)
number_by tid nr false false false true e f g h k = let is : nr ≡ 414 = grind (arith, nat_tests) in subst (λ (n : ℕ). is_shaped (of_number tid n) ≡ true) (sym is) (poll tid)
number_by tid nr false false false false e f g h k = cc

bare-shaped : (c : Request) → is_later c.nr ≡ true → IsShaped (bare c)
unfolding is_later
bare-shaped c h = number_by c.tid c.nr (c.nr == 25) (c.nr == 407) (c.nr == 413) (c.nr == 414) refl refl refl refl h

profile_by : (polls later : Bool) (c : Request) → is_later c.nr ≡ later → IsShaped c → IsShaped (cond (not polls && later) (bare c) c)
profile_by true later c e h = h
profile_by false true c e h = bare-shaped c e
profile_by false false c e h = h

pub in_profile-shaped : (polls : Bool) (c : Request) → IsShaped c → IsShaped (in_profile polls c)
in_profile-shaped polls c h = profile_by polls (is_later c.nr) c refl h

tid_by : (bare_one : Bool) (c : Request) → (cond bare_one (bare c) c).tid ≡ c.tid
tid_by true c = refl
tid_by false c = refl

pub in_profile-tid : (polls : Bool) (c : Request) → (in_profile polls c).tid ≡ c.tid
in_profile-tid polls c = tid_by (not polls && is_later c.nr) c
