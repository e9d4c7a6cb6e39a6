-- The instructions of a turn, run at once.
use Rattle.std.proofs.Common.{◌≡◌, ◌∙◌, sym, ap, subst, refl, ℕ, zero, suc, ◌+◌, ◌-◌, ◌<◌, ◌≤◌, Bool, true, false, ◌==◌, ◌&&◌, not, List, Option, None, arith}
use Rattle.std.specs.Prelude.{Contains}
use Rattle.std.proofs.lemmas.Bool.Decides.{nat_tests}
use Rattle.nv_machine.specs.Registers.{Registers}
use Rattle.nv_machine.specs.Guest.{Machine, guest_step}
use Rattle.nv_machine.specs.declared.outcome.Stepped.{Stepped}
use Rattle.nv_machine.specs.declared.outcome.Stepped.TheVariants.{On, Call, Fault as Faults}
use Rattle.nv_guest.specs.Threads.{Threaded, MachineRan, run, more, unless_stopped, with_regs, with_machine, machine_at}
use Rattle.nv_guest.specs.Threads as guests
use Rattle.nv_guest.proofs.ThreadLaws.{tids_stay, regs_written, regs_twice}
use Rattle.nv_threads.specs.Threads.{Proc, task_tids, state_at, is_asking, is_running, machine, ran, ended_by, turn_stepped, one_run, instruction, wanted, can_move, is_on, turn_step}
use Rattle.nv_threads.specs.inner.Process.{are_apart}
use Rattle.nv_threads.specs.Going.{Goes, moved_on, burst}
use Rattle.nv_threads.specs.declared.turns.Came.{Came}
use Rattle.nv_threads.specs.declared.turns.Want.{Want}
use Rattle.nv_threads.specs.declared.turns.Want.TheVariants.{Any, Only}
use Rattle.nv_threads.proofs.Steps.{goes_on_by, goes_further, goes, step_runs}

-- the turn's thread can run so many instructions
pub record CanRun (w : Want) (n : ℕ) (p : Proc) : Type 0 where
  pub not_asked : is_asking (state_at p.tasks (wanted w p)) ≡ false
  pub moves : can_move w p ≡ true
  pub runs : is_running (state_at p.tasks p.turn) ≡ true
  pub slice : n ≤ p.slice
  pub left : n ≤ p.left
  pub apart : are_apart (task_tids p.tasks) ≡ true
  pub lives : Contains (guests.tids p.guest.threads) p.turn

and_both : (a b : Bool) → (a && b) ≡ true → (a ≡ true) × (b ≡ true)
and_both true b h = (refl, h)
and_both false b h = cc

pub on_runs : (p : Proc) → is_on p ≡ true → is_running (state_at p.tasks p.turn) ≡ true
on_runs p h = (and_both (is_running (state_at p.tasks p.turn)) (not (p.slice == 0)) h).0

not_zero_by : (n : ℕ) (b : Bool) → (n == 0) ≡ b → not b ≡ true → 0 < n
not_zero_by n true e h = cc
not_zero_by n false e h = grind (arith, nat_tests)

pub on_some : (p : Proc) → is_on p ≡ true → 0 < p.slice
on_some p h = not_zero_by p.slice (p.slice == 0) refl (and_both (is_running (state_at p.tasks p.turn)) (not (p.slice == 0)) h).1

on_is : (w : Want) (n : ℕ) (p : Proc) → CanRun w (suc n) p → is_on p ≡ true
on_is w n p c = let z : (p.slice == 0) ≡ false = (let s = c.slice in grind (arith, nat_tests)) in rw (c.runs, z) refl

step_is : (w : Want) (n : ℕ) (p : Proc) → CanRun w (suc n) p → turn_step w p ≡ instruction p
step_is w n p c = step_runs w p c.not_asked c.moves (on_is w n p c) (let l = c.left in omega arith)

same_wanted : (w : Want) (p q : Proc) → q.turn ≡ p.turn → wanted w q ≡ wanted w p
same_wanted Any p q h = h
same_wanted (Only t) p q h = refl

next_can : (w : Want) (n : ℕ) (p : Proc) (m : Machine) → CanRun w (suc n) p → CanRun w n (ran (one_run p) m)
next_can w n p m c =
    let s = c.slice in
    let l = c.left in
    record {
      not_asked = ap (λ k. is_asking (state_at p.tasks k)) (same_wanted w p (ran (one_run p) m) refl) ∙ c.not_asked;
      moves = c.moves;
      runs = c.runs;
      slice = omega arith;
      left = omega arith;
      apart = c.apart;
      lives = subst (λ (ts : List ℕ). Contains ts p.turn) (sym (tids_stay p.guest.threads p.turn m.regs)) c.lives;
    }

-- the machine of the turn's thread after an instruction
machine_is : (p : Proc) (m : Machine) → Contains (guests.tids p.guest.threads) p.turn → machine (ran (one_run p) m) ≡ m
machine_is p m c = ap (λ (r : Registers). record { regs = r; memory = m.memory }) (regs_written p.guest.threads p.turn m.regs c)

moved_twice : (p : Proc) (m : Machine) (r : MachineRan) → moved_on r (ran (one_run p) m) ≡ moved_on (more 1 r) p
moved_twice p m r =
    let s : (p.slice - 1) - r.0 ≡ p.slice - (1 + r.0) = omega arith in
    let l : (p.left - 1) - r.0 ≡ p.left - (1 + r.0) = omega arith in
    ap (λ ts. record p { guest = record { threads = ts; memory = r.2.memory }; slice = (p.slice - 1) - r.0; left = (p.left - 1) - r.0 }) (regs_twice p.guest.threads p.turn m.regs r.2.regs)
    ∙ (ap (λ n. record p { guest = with_machine p.guest p.turn r.2; slice = n; left = (p.left - 1) - r.0 }) s
    ∙ ap (λ n. record p { guest = with_machine p.guest p.turn r.2; slice = p.slice - (1 + r.0); left = n }) l)

further : (n : ℕ) (p : Proc) (m : Machine) → Contains (guests.tids p.guest.threads) p.turn → burst n (ran (one_run p) m) ≡ ended_by (run n m).1 (moved_on (more 1 (run n m)) p)
further n p m c =
    ap (λ (x : Machine). ended_by (run n x).1 (moved_on (run n x) (ran (one_run p) m))) (machine_is p m c)
    ∙ ap (ended_by (run n m).1) (moved_twice p m (run n m))

run_none : (m : Machine) → run 0 m ≡ (0, On, m)
unfolding run
run_none m = refl

goes_by : (w : Want) (n : ℕ) (p : Proc) (s : Stepped) (m : Machine) → guest_step (machine p) ≡ (s, m) → CanRun w (suc n) p
    → ((q : Proc) → CanRun w n q → 0 < n → Goes w q (burst n q).0 (burst n q).1)
    → Goes w p (ended_by (unless_stopped (run n) (s, m)).1 (moved_on (unless_stopped (run n) (s, m)) p)).0 (ended_by (unless_stopped (run n) (s, m)).1 (moved_on (unless_stopped (run n) (s, m)) p)).1
goes_by w n p Call m e c go = goes w p (ended_by Call (ran (one_run p) m)) c.apart (step_is w n p c ∙ ap (λ (r : Stepped × Machine). turn_stepped r (one_run p)) e)
goes_by w n p (Faults kind) m e c go = goes w p (ended_by (Faults kind) (ran (one_run p) m)) c.apart (step_is w n p c ∙ ap (λ (r : Stepped × Machine). turn_stepped r (one_run p)) e)
goes_by w zero p On m e c go =
    let q : Proc = ran (one_run p) m in
    let first : Goes w p None q = goes_on_by w p q c.apart (step_is w 0 p c ∙ ap (λ (r : Stepped × Machine). turn_stepped r (one_run p)) e) in
    subst (λ (r : MachineRan). Goes w p (ended_by r.1 (moved_on (more 1 r) p)).0 (ended_by r.1 (moved_on (more 1 r) p)).1) (sym (run_none m)) first
goes_by w (suc n) p On m e c go =
    let q : Proc = ran (one_run p) m in
    let first : Goes w p None q = goes_on_by w p q c.apart (step_is w (suc n) p c ∙ ap (λ (r : Stepped × Machine). turn_stepped r (one_run p)) e) in
    let rest = go q (next_can w (suc n) p m c) (omega arith) in
    let all = goes_further w p q (burst (suc n) q).1 (burst (suc n) q).0 first rest in
    subst (λ (r : Option Came × Proc). Goes w p r.0 r.1) (further (suc n) p m c.lives) all

run_next : (n : ℕ) (m : Machine) → run (suc n) m ≡ unless_stopped (run n) (guest_step m)
unfolding run
run_next n m = refl

pub burst_goes : (w : Want) (n : ℕ) (p : Proc) → CanRun w n p → 0 < n → Goes w p (burst n p).0 (burst n p).1
burst_goes w zero p c h = absurd (omega arith)
burst_goes w (suc n) p c h =
    subst (λ (r : MachineRan). Goes w p (ended_by r.1 (moved_on r p)).0 (ended_by r.1 (moved_on r p)).1) (sym (run_next n (machine p)))
    (goes_by w n p (guest_step (machine p)).0 (guest_step (machine p)).1 refl c (burst_goes w n))
