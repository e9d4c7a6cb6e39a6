use Rattle.std.proofs.Common.{◌≡◌, ◌∙◌, ◌-◌, ◌<◌, sym, ap, subst, true, false, min, map, Option, Some, None, arith}
use Rattle.std.specs.Prelude.{Contains}
use Rattle.std.specs.List.{list_any}
use Rattle.nv_calls.specs.Calls.{request}
use Rattle.nv_guest.specs.Threads as guests
use Rattle.nv_threads.specs.inner.Process.{are_apart}
use Rattle.nv_threads.specs.inner.Tasks.{any_asks_by, can_move_by}
use Rattle.nv_threads.specs.Threads.{Proc, task_tids, asks, is_on, can_move, wanted}
use Rattle.nv_threads.specs.Going.{Goes}
use Rattle.nv_threads.specs.declared.turns.Came.{Came}
use Rattle.nv_threads.specs.declared.turns.Want.{Want}
use Rattle.nv_threads.specs.declared.turns.Want.TheVariants.{Any}
use Rattle.nv_threads.proofs.Aheads.{none_asks, moves_whoever, unasked}
use Rattle.nv_threads.proofs.Bursts.{burst_goes, on_runs, on_some}
use Rattle.nv_threads.proofs.Keeping.{guest_lives, running_lives}
use Rattle.nv_threads.proofs.Steps.{goes_on_by, step_passes}
use Rattle.nv_threads.proofs.Tabling.{moves_of, any_asks_of}
use Rattle.nv_threads.proofs.process.Process.run_ahead.Goals as goal

pub returns-then-not-is_on : goal.returns-then-not-is_on
returns-then-not-is_on c =
    let p : Proc = c.args.self.now in
    let none : list_any asks p.tasks ≡ false = ap (λ (q : Proc). list_any asks q.tasks) (sym c.self.view_is)
    ∙ (any_asks_of c.self.inside.tasks.items (map request c.self.inside.calls.items) ∙ (ap any_asks_by (sym c.deref.ensures.0) ∙ (sym c.any_asks.ensures ∙ c.if-any_asks.false))) in
    let moves : can_move Any p ≡ true = ap (λ (q : Proc). can_move Any q) (sym c.self.view_is)
    ∙ (moves_of Any c.self.inside.tasks.items (map request c.self.inside.calls.items) ∙ (ap (can_move_by Any) (sym c.deref-2.ensures.0) ∙ (sym c.can_move.ensures ∙ c.if-not-can_move.false))) in
    let apart : are_apart (task_tids p.tasks) ≡ true = subst (λ (q : Proc). are_apart (task_tids q.tasks) ≡ true) c.self.view_is c.self.invariant.apart in
    let off : is_on p ≡ false = sym c.is_on.ensures ∙ c.if-not-is_on.true in
    let passes : (w : Want) → Goes w p None c.pass.new.self = λ w.
    goes_on_by w p c.pass.new.self apart (step_passes w p (none_asks p.tasks (wanted w p) none) (moves_whoever w p none moves) off ∙ ap (λ (q : Proc). (None, q)) (sym c.pass.ensures)) in
    (unasked p none moves, passes)

pub returns-in-None : goal.returns-in-None
returns-in-None c =
    let p : Proc = c.args.self.now in
    let none : list_any asks p.tasks ≡ false = ap (λ (q : Proc). list_any asks q.tasks) (sym c.self.view_is)
    ∙ (any_asks_of c.self.inside.tasks.items (map request c.self.inside.calls.items) ∙ (ap any_asks_by (sym c.deref.ensures.0) ∙ (sym c.any_asks.ensures ∙ c.if-any_asks.false))) in
    let moves : can_move Any p ≡ true = ap (λ (q : Proc). can_move Any q) (sym c.self.view_is)
    ∙ (moves_of Any c.self.inside.tasks.items (map request c.self.inside.calls.items) ∙ (ap (can_move_by Any) (sym c.deref-2.ensures.0) ∙ (sym c.can_move.ensures ∙ c.if-not-can_move.false))) in
    let apart : are_apart (task_tids p.tasks) ≡ true = subst (λ (q : Proc). are_apart (task_tids q.tasks) ≡ true) c.self.view_is c.self.invariant.apart in
    let left : p.left ≡ c.self.inside.budget - c.self.inside.count = ap (λ (q : Proc). q.left) (sym c.self.view_is) in
    let is : is_on p ≡ true = sym c.is_on.ensures ∙ c.if-not-is_on.false in
    let runs = on_runs p is in
    let some = on_some p is in
    let more : 0 < p.left = omega (arith, left, c.if-left-eq0.false) in
    let lives : Contains (guests.tids p.guest.threads) p.turn = subst (λ (q : Proc). Contains (guests.tids q.guest.threads) q.turn) c.self.view_is
    (guest_lives _ _ _ _ _ _ _ _ c.self.invariant (subst (λ (q : Proc). Contains (task_tids q.tasks) q.turn) (sym c.self.view_is) (running_lives p.tasks p.turn runs))) in
    let comes : (w : Want) → Goes w p None c.run.new.self = λ w.
    subst (λ (r : Option Came × Proc). Goes w p r.0 r.1) (c.run.ensures ∙ ap (λ (o : Option Came). (o, c.run.new.self)) c.in-None.is)
    (burst_goes w (min p.slice p.left) p (record {
      not_asked = none_asks p.tasks (wanted w p) none;
      moves = moves_whoever w p none moves;
      runs = runs;
      slice = omega arith;
      left = omega arith;
      apart = apart;
      lives = lives;
    }) (omega (arith, some, more))) in
    (unasked p none moves, comes)

pub returns-in-Some : goal.returns-in-Some
returns-in-Some c =
    let p : Proc = c.args.self.now in
    let none : list_any asks p.tasks ≡ false = ap (λ (q : Proc). list_any asks q.tasks) (sym c.self.view_is)
    ∙ (any_asks_of c.self.inside.tasks.items (map request c.self.inside.calls.items) ∙ (ap any_asks_by (sym c.deref.ensures.0) ∙ (sym c.any_asks.ensures ∙ c.if-any_asks.false))) in
    let moves : can_move Any p ≡ true = ap (λ (q : Proc). can_move Any q) (sym c.self.view_is)
    ∙ (moves_of Any c.self.inside.tasks.items (map request c.self.inside.calls.items) ∙ (ap (can_move_by Any) (sym c.deref-2.ensures.0) ∙ (sym c.can_move.ensures ∙ c.if-not-can_move.false))) in
    let apart : are_apart (task_tids p.tasks) ≡ true = subst (λ (q : Proc). are_apart (task_tids q.tasks) ≡ true) c.self.view_is c.self.invariant.apart in
    let left : p.left ≡ c.self.inside.budget - c.self.inside.count = ap (λ (q : Proc). q.left) (sym c.self.view_is) in
    let is : is_on p ≡ true = sym c.is_on.ensures ∙ c.if-not-is_on.false in
    let runs = on_runs p is in
    let some = on_some p is in
    let more : 0 < p.left = omega (arith, left, c.if-left-eq0.false) in
    let lives : Contains (guests.tids p.guest.threads) p.turn = subst (λ (q : Proc). Contains (guests.tids q.guest.threads) q.turn) c.self.view_is
    (guest_lives _ _ _ _ _ _ _ _ c.self.invariant (subst (λ (q : Proc). Contains (task_tids q.tasks) q.turn) (sym c.self.view_is) (running_lives p.tasks p.turn runs))) in
    let comes : (w : Want) → Goes w p (Some c.in-Some.came) c.run.new.self = λ w.
    subst (λ (r : Option Came × Proc). Goes w p r.0 r.1) (c.run.ensures ∙ ap (λ (o : Option Came). (o, c.run.new.self)) c.in-Some.is)
    (burst_goes w (min p.slice p.left) p (record {
      not_asked = none_asks p.tasks (wanted w p) none;
      moves = moves_whoever w p none moves;
      runs = runs;
      slice = omega arith;
      left = omega arith;
      apart = apart;
      lives = lives;
    }) (omega (arith, some, more))) in
    (unasked p none moves, comes)
