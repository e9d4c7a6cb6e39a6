-- How many bytes calls hand out at most.
use Rattle.std.proofs.Common.{◌≡◌, sym, subst, refl, ℕ, pos, ◌+◌, ◌≤◌, Bool, true, false, cond, nat_lt, min, List, [], ◌∷◌, length, arith}
use Rattle.std.specs.Prelude.{slice_index}
use Rattle.std.proofs.lemmas.Bool.Decides.{nat_tests}
use Rattle.nv_calls.specs.declared.numbers.Syscall.{Syscall}
use Rattle.nv_calls.specs.Answer.{Answer}
use Rattle.nv_calls.specs.Calls.{Request}
use Rattle.nv_calls.specs.Constants.{result_alone, directory, names}
use Rattle.nv_calls.specs.Errors.{ERANGE}
use Rattle.nv_calls.specs.declared.numbers.Syscall.TheVariants.{Unlinkat, Openat, Write, Writev, Bind, ClockNanosleep, Pselect6, Ppoll}
use Rattle.nv_calls.specs.Numbers.{syscall_of, hands_in}
use Rattle.nv_calls.specs.Shapes.{IsShaped}
use Rattle.nv_calls.proofs.ShapeLaws.{polled_count-few, set_bytes-few, shaped-few, shaped-empty, shaped-selected, shaped-polled}
use Rattle.nv_calls.specs.Answers.{most_out_by}
use Rattle.nv_kernel.specs.Reserved.{most_out}
use Rattle.nv_kernel.specs.Serving.{State}

pub few_as : (k l : Syscall) (args : List ℕ) (n : ℕ) → k ≡ l → n ≤ most_out_by l args → n ≤ most_out_by k args
few_as k l args n h p = subst (λ (z : Syscall). n ≤ most_out_by z args) (sym h) p

pub few_by : (b : Bool) (x y : Answer State) (n : ℕ) → length x.payload ≤ n → length y.payload ≤ n → length (cond b x y).payload ≤ n
few_by true x y n p q = p
few_by false x y n p q = q

pub directory_few : (size : ℕ) → length (directory size).payload ≤ min size 2
directory_few size = by (nat_lt size 2) refl
  where
    by : (b : Bool) → nat_lt size 2 ≡ b → length (cond b (result_alone ERANGE) (record { ret = pos 2; payload = 47 ∷ 0 ∷ [] })).payload ≤ min size 2
    by true h = omega arith
    by false h = let big : 2 ≤ size = grind (arith, nat_tests) in omega arith

pub names_are : length names ≡ 390
unfolding names
names_are = refl

together_as : (k : Syscall) (c : Request) → (hands_in k ≡ false → length c.payload ≡ 0) → (k ≡ Pselect6 → length c.payload ≤ 400) → (k ≡ Ppoll → length c.payload ≤ 3280)
    → length c.payload ≤ 4096 → length c.payload + most_out_by k c.args ≤ 4096
together_as Unlinkat c h r q p = omega arith
together_as Openat c h r q p = omega arith
together_as Write c h r q p = omega arith
together_as Writev c h r q p = omega arith
together_as Bind c h r q p = omega arith
together_as ClockNanosleep c h r q p = omega arith
together_as Pselect6 c h r q p =
    let few = set_bytes-few (slice_index c.args 0) in
    let bytes = r refl in
    omega (arith, few, bytes)
together_as Ppoll c h r q p =
    let few = polled_count-few (slice_index c.args 1) in
    let bytes = q refl in
    omega (arith, few, bytes)
together_as _ c h r q p = let z = h refl in omega arith

-- what a call hands in and out together
pub together_few : (c : Request) → IsShaped c → length c.payload + most_out c ≤ 4096
together_few c h = together_as (syscall_of c.nr) c (shaped-empty c h) (shaped-selected c h) (shaped-polled c h) (shaped-few c h)
