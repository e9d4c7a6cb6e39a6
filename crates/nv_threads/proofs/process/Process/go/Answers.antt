use Rattle.std.proofs.Common.{◌≡◌, ◌∙◌, ◌-◌, ◌<◌, sym, ap, subst, ℕ, true, min, map, Option, None, arith}
use Rattle.std.specs.Prelude.{Contains}
use Rattle.nv_calls.specs.Calls.{request}
use Rattle.nv_guest.specs.Threads as guests
use Rattle.nv_machine.specs.declared.outcome.FaultKind.TheVariants.{Budget}
use Rattle.nv_threads.specs.inner.Process.{are_apart}
use Rattle.nv_threads.specs.inner.Tasks.{can_move_by}
use Rattle.nv_threads.specs.Threads.{Proc, task_tids, state_at, is_asking, is_on, wanted, can_move, machine}
use Rattle.nv_threads.specs.Going.{Goes}
use Rattle.nv_threads.specs.declared.turns.Came.{Came}
use Rattle.nv_threads.specs.declared.turns.Came.TheVariants.{Asked, Fault}
use Rattle.nv_threads.proofs.Bursts.{burst_goes, on_runs, on_some}
use Rattle.nv_threads.proofs.Keeping.{guest_lives, running_lives}
use Rattle.nv_threads.proofs.Steps.{goes_on_by, comes_by, step_asked, step_stuck, step_passes, step_budget}
use Rattle.nv_threads.proofs.Tabling.{moves_of}
use Rattle.nv_threads.proofs.process.Process.go.Goals as goal

pub returns-then-is_asking : goal.returns-then-is_asking
returns-then-is_asking c =
    let p : Proc = c.args.self.now in
    let w = c.args.want in
    let asks : is_asking (state_at p.tasks (wanted w p)) ≡ c.is_asking.result = ap (λ (n : ℕ). is_asking (state_at p.tasks n)) (sym c.wanted-wanted.ensures) ∙ sym c.is_asking.ensures in
    comes_by w p p (Asked (wanted w p)) (step_asked w p (asks ∙ c.if-is_asking.true)) ∙ ap (λ (n : ℕ). (Asked n, p)) (sym c.wanted-wanted.ensures)

pub returns-then-not-can_move : goal.returns-then-not-can_move
returns-then-not-can_move c =
    let p : Proc = c.args.self.now in
    let w = c.args.want in
    let asks : is_asking (state_at p.tasks (wanted w p)) ≡ c.is_asking.result = ap (λ (n : ℕ). is_asking (state_at p.tasks n)) (sym c.wanted-wanted.ensures) ∙ sym c.is_asking.ensures in
    let moves : can_move w p ≡ c.can_move.result = ap (λ (q : Proc). can_move w q) (sym c.self.view_is)
    ∙ (moves_of w c.self.inside.tasks.items (map request c.self.inside.calls.items) ∙ (ap (can_move_by w) (sym c.deref.ensures.0) ∙ sym c.can_move.ensures)) in
    comes_by w p c.stop.new.self c.stop.result (step_stuck w p (asks ∙ c.if-is_asking.false) (moves ∙ c.if-not-can_move.true) ∙ c.stop.ensures)

pub returns-then-not-is_on : goal.returns-then-not-is_on
returns-then-not-is_on c =
    let p : Proc = c.args.self.now in
    let w = c.args.want in
    let asks : is_asking (state_at p.tasks (wanted w p)) ≡ c.is_asking.result = ap (λ (n : ℕ). is_asking (state_at p.tasks n)) (sym c.wanted-wanted.ensures) ∙ sym c.is_asking.ensures in
    let moves : can_move w p ≡ c.can_move.result = ap (λ (q : Proc). can_move w q) (sym c.self.view_is)
    ∙ (moves_of w c.self.inside.tasks.items (map request c.self.inside.calls.items) ∙ (ap (can_move_by w) (sym c.deref.ensures.0) ∙ sym c.can_move.ensures)) in
    let on : is_on p ≡ c.is_on.result = sym c.is_on.ensures in
    let apart : are_apart (task_tids p.tasks) ≡ true = subst (λ (q : Proc). are_apart (task_tids q.tasks) ≡ true) c.self.view_is c.self.invariant.apart in
    let left : p.left ≡ c.self.inside.budget - c.self.inside.count = ap (λ (q : Proc). q.left) (sym c.self.view_is) in
    goes_on_by w p c.pass.new.self apart (step_passes w p (asks ∙ c.if-is_asking.false) (moves ∙ c.if-not-can_move.false) (on ∙ c.if-not-is_on.true) ∙ ap (λ (q : Proc). (None, q)) (sym c.pass.ensures))

pub returns-then-self : goal.returns-then-self
returns-then-self c =
    let p : Proc = c.args.self.now in
    let w = c.args.want in
    let asks : is_asking (state_at p.tasks (wanted w p)) ≡ c.is_asking.result = ap (λ (n : ℕ). is_asking (state_at p.tasks n)) (sym c.wanted-wanted.ensures) ∙ sym c.is_asking.ensures in
    let moves : can_move w p ≡ c.can_move.result = ap (λ (q : Proc). can_move w q) (sym c.self.view_is)
    ∙ (moves_of w c.self.inside.tasks.items (map request c.self.inside.calls.items) ∙ (ap (can_move_by w) (sym c.deref.ensures.0) ∙ sym c.can_move.ensures)) in
    let on : is_on p ≡ c.is_on.result = sym c.is_on.ensures in
    let apart : are_apart (task_tids p.tasks) ≡ true = subst (λ (q : Proc). are_apart (task_tids q.tasks) ≡ true) c.self.view_is c.self.invariant.apart in
    let left : p.left ≡ c.self.inside.budget - c.self.inside.count = ap (λ (q : Proc). q.left) (sym c.self.view_is) in
    comes_by w p p (Fault Budget p.turn (machine p).regs.pc) (step_budget w p (asks ∙ c.if-is_asking.false) (moves ∙ c.if-not-can_move.false) (on ∙ c.if-not-is_on.false) (omega (arith, left, c.if-self.true)))
    ∙ ap (λ (x : Came). (x, p)) (sym c.fault.ensures)

pub returns : goal.returns
returns c =
    let p : Proc = c.args.self.now in
    let w = c.args.want in
    let asks : is_asking (state_at p.tasks (wanted w p)) ≡ c.is_asking.result = ap (λ (n : ℕ). is_asking (state_at p.tasks n)) (sym c.wanted-wanted.ensures) ∙ sym c.is_asking.ensures in
    let moves : can_move w p ≡ c.can_move.result = ap (λ (q : Proc). can_move w q) (sym c.self.view_is)
    ∙ (moves_of w c.self.inside.tasks.items (map request c.self.inside.calls.items) ∙ (ap (can_move_by w) (sym c.deref.ensures.0) ∙ sym c.can_move.ensures)) in
    let on : is_on p ≡ c.is_on.result = sym c.is_on.ensures in
    let apart : are_apart (task_tids p.tasks) ≡ true = subst (λ (q : Proc). are_apart (task_tids q.tasks) ≡ true) c.self.view_is c.self.invariant.apart in
    let left : p.left ≡ c.self.inside.budget - c.self.inside.count = ap (λ (q : Proc). q.left) (sym c.self.view_is) in
    let is : is_on p ≡ true = on ∙ c.if-not-is_on.false in
    let runs = on_runs p is in
    let some = on_some p is in
    let more : 0 < p.left = omega (arith, left, c.if-self.false, c.self.invariant.within) in
    let lives : Contains (guests.tids p.guest.threads) p.turn = subst (λ (q : Proc). Contains (guests.tids q.guest.threads) q.turn) c.self.view_is
    (guest_lives _ _ _ _ _ _ _ _ c.self.invariant (subst (λ (q : Proc). Contains (task_tids q.tasks) q.turn) (sym c.self.view_is) (running_lives p.tasks p.turn runs))) in
    subst (λ (r : Option Came × Proc). Goes w p r.0 r.1) c.run.ensures
    (burst_goes w (min p.slice p.left) p (record {
      not_asked = asks ∙ c.if-is_asking.false;
      moves = moves ∙ c.if-not-can_move.false;
      runs = runs;
      slice = omega arith;
      left = omega arith;
      apart = apart;
      lives = lives;
    }) (omega (arith, some, more)))
