-- Instructions one after another.
use Rattle.std.proofs.Common.{◌≡◌, ◌≢◌, ◌∙◌, ap, refl, ℕ, suc, ◌+◌, ◌-◌, ◌<◌, arith}
use Rattle.nv_machine.specs.declared.outcome.FaultKind.{FaultKind}
use Rattle.nv_machine.specs.declared.outcome.Stepped.TheVariants.{On, Call, Fault}
use Rattle.nv_machine.specs.declared.outcome.Stepped.{Stepped}
use Rattle.nv_machine.specs.Guest.{Machine, StepResult, guest_step}
use Rattle.nv_guest.specs.Threads.{run, MachineRan, more, unless_stopped}

run_here : (most count : ℕ) (m : Machine) → count < most → run (most - count) m ≡ unless_stopped (run (most - (count + 1))) (guest_step m)
unfolding run
run_here most count m h =
    let n : most - count ≡ suc (most - (count + 1)) = omega arith in
    rw n refl

twice : (n : ℕ) (r : MachineRan) → more n (more 1 r) ≡ more (n + 1) r
twice n r = let e : n + (1 + r.0) ≡ (n + 1) + r.0 = omega arith in ap (λ k. (k, r.1, r.2)) e

pub run_more : (most count : ℕ) (m after : Machine) → count < most → guest_step m ≡ (On, after)
    → more count (run (most - count) m) ≡ more (count + 1) (run (most - (count + 1)) after)
run_more most count m after h e = ap (more count) (run_here most count m h ∙ ap (unless_stopped (run (most - (count + 1)))) e) ∙ twice count (run (most - (count + 1)) after)

pub run_calls : (most count : ℕ) (m after : Machine) → count < most → guest_step m ≡ (Call, after) → more count (run (most - count) m) ≡ (count + 1, Call, after)
run_calls most count m after h e = ap (more count) (run_here most count m h ∙ ap (unless_stopped (run (most - (count + 1)))) e)

pub run_faults : (most count : ℕ) (m after : Machine) (kind : FaultKind) → count < most → guest_step m ≡ (Fault kind, after)
    → more count (run (most - count) m) ≡ (count + 1, Fault kind, after)
run_faults most count m after kind h e = ap (more count) (run_here most count m h ∙ ap (unless_stopped (run (most - (count + 1)))) e)

pub run_stops : (most count : ℕ) (m after : Machine) (s : Stepped) → count < most → s ≢ On → guest_step m ≡ (s, after) → more count (run (most - count) m) ≡ (count + 1, s, after)
run_stops most count m after On h n e = absurd (n refl)
run_stops most count m after Call h n e = run_calls most count m after h e
run_stops most count m after (Fault kind) h n e = run_faults most count m after kind h e

pub run_ends : (most count n : ℕ) (m : Machine) → most - count ≡ 0 → count + 0 ≡ n → more count (run (most - count) m) ≡ (n, On, m)
unfolding run
run_ends most count n m h e = rw (h, e) refl

one_by : (o : StepResult) (r : MachineRan) → r ≡ unless_stopped (run 0) o → (r.1, r.2) ≡ o
unfolding run
one_by (On, x) r h = ap (λ (q : MachineRan). (q.1, q.2)) h
one_by (Call, x) r h = ap (λ (q : MachineRan). (q.1, q.2)) h
one_by (Fault kind, x) r h = ap (λ (q : MachineRan). (q.1, q.2)) h

-- one instruction
pub run_one : (m after : Machine) (n : ℕ) (s : Stepped) → (n, s, after) ≡ run 1 m → (s, after) ≡ guest_step m
unfolding run
run_one m after n s h = one_by (guest_step m) (n, s, after) h
