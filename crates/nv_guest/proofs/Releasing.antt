-- Reservations end, thread by thread.
use Rattle.std.proofs.Common.{◌≡◌, ◌∙◌, ap, refl, ℕ, zero, suc, ◌+◌, ◌<◌, ◌≤◌, List, [], ◌∷◌, None, length, get_or, set, arith}
use Rattle.nv_machine.specs.Registers.{Registers}
use Rattle.nv_guest.specs.Threads.{tids, unreserved, unreserved_each}
use Rattle.nv_guest.specs.declared.guest.Thread.{Thread}

-- the reservations of the first n threads have ended
abbrev pub unreserved_first : ℕ → List Thread → List Thread
unreserved_first zero ts = ts
unreserved_first (suc n) [] = []
unreserved_first (suc n) (t ∷ ts) = unreserved t ∷ unreserved_first n ts

one_more : (n : ℕ) (ts : List Thread) (d : Thread) → n < length ts
    → set (unreserved_first n ts) n (unreserved (get_or (unreserved_first n ts) n d)) ≡ unreserved_first (suc n) ts
one_more n [] d h = absurd (omega arith)
one_more zero (t ∷ ts) d h = refl
one_more (suc n) (t ∷ ts) d h = ap (λ rest. unreserved t ∷ rest) (one_more n ts d (omega arith))

-- the next thread is written
pub one_written : (n : ℕ) (ts now : List Thread) (d : Thread) (r : Registers) → n < length ts → now ≡ unreserved_first n ts
    → r ≡ record (get_or now n d).regs { reserved = None } → set now n (record { tid = (get_or now n d).tid; regs = r }) ≡ unreserved_first (n + 1) ts
one_written n ts now d r h e f =
    let next : suc n ≡ n + 1 = omega arith in
    ap (λ (x : Registers). set now n (record { tid = (get_or now n d).tid; regs = x })) f
    ∙ (ap (λ (xs : List Thread). set xs n (unreserved (get_or xs n d))) e
    ∙ (one_more n ts d h ∙ ap (λ k. unreserved_first k ts) next))

pub all_first : (n : ℕ) (ts : List Thread) → length ts ≤ n → unreserved_first n ts ≡ unreserved_each ts
all_first zero [] h = refl
all_first zero (t ∷ ts) h = absurd (omega arith)
all_first (suc n) [] h = refl
all_first (suc n) (t ∷ ts) h = ap (λ rest. unreserved t ∷ rest) (all_first n ts (omega arith))

pub tids_released : (ts : List Thread) → tids (unreserved_each ts) ≡ tids ts
tids_released [] = refl
tids_released (t ∷ ts) = ap (λ rest. t.tid ∷ rest) (tids_released ts)
