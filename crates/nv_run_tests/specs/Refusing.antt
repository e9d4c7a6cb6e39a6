use Rattle.std.specs.Prelude.{ℕ, Bool, List, ◌+◌, ◌-◌, ◌^◌, ◌==◌, min}
use Rattle.std.specs.List.{list_any}
use Rattle.nv_run_tests.specs.declared.refusing.RefusingKernel.{RefusingKernel}

-- the kernel below, the numbers of the reservations that it is refused, and how many were asked for
abbrev pub inner_of : {K : Type 0} → RefusingKernel K → K
inner_of k = k.inner

abbrev pub refused_of : {K : Type 0} → RefusingKernel K → List ℕ
refused_of k = k.refused.items

abbrev pub asked_of : {K : Type 0} → RefusingKernel K → ℕ
asked_of k = k.asked

-- a reservation's number is one of these
abbrev pub is_refused : List ℕ → ℕ → Bool
is_refused refused n = list_any (λ number. number == n) refused

-- one more was asked for; the greatest number of 64 bits stays
abbrev pub one_more : ℕ → ℕ
one_more asked = min (asked + 1) (2 ^ 64 - 1)
