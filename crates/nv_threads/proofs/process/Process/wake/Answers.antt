use Rattle.std.proofs.Common.{◌∙◌, sym, ap, map, arith}
use Rattle.nv_calls.specs.Calls.{request}
use Rattle.nv_threads.specs.Threads.{Proc, least_waiter}
use Rattle.nv_threads.specs.inner.Tasks.{waiter_by}
use Rattle.nv_threads.proofs.Tabling.{waiter_of}
use Rattle.nv_threads.proofs.Writing.{waiter_lives, woken_more, woken_stops, woken_ends}
use Rattle.nv_threads.proofs.process.Process.wake.Goals as goal

pub returns-in_default-clause-woken : goal.returns-in_default-clause-woken
returns-in_default-clause-woken c =
    let there = ap (λ (p : Proc). least_waiter c.args.address p.tasks) (sym c.self.view_is)
    ∙ (waiter_of c.args.address c.self.inside.tasks.items (map request c.self.inside.calls.items) ∙ ap (waiter_by c.args.address) (sym c.deref.ensures.0)) in
    c.loop-count.invariant ∙ woken_stops c.args.most c.loop-count.count c.args.address c.loop-count.self c.loop-count-test.true (there ∙ (sym c.least_waiter.ensures ∙ c.in_default.is))

pub wake_one-requires : goal.wake_one-requires
wake_one-requires c =
    let there = ap (λ (p : Proc). least_waiter c.args.address p.tasks) (sym c.self.view_is)
    ∙ (waiter_of c.args.address c.self.inside.tasks.items (map request c.self.inside.calls.items) ∙ ap (waiter_by c.args.address) (sym c.deref.ensures.0)) in
    waiter_lives c.args.address c.loop-count.self.tasks c.in-Some.tid (there ∙ sym c.in-Some.ensures)

pub loop-count-preserved : goal.loop-count-preserved
loop-count-preserved c =
    let there = ap (λ (p : Proc). least_waiter c.args.address p.tasks) (sym c.self.view_is)
    ∙ (waiter_of c.args.address c.self.inside.tasks.items (map request c.self.inside.calls.items) ∙ ap (waiter_by c.args.address) (sym c.deref.ensures.0)) in
    c.loop-count.invariant
    ∙ woken_more c.args.most c.loop-count.count c.args.address c.in-Some.tid c.loop-count.self c.wake_one.new.self c.loop-count-test.true (there ∙ sym c.in-Some.ensures) c.wake_one.ensures

pub returns-clause-woken : goal.returns-clause-woken
returns-clause-woken c = c.loop-count.invariant ∙ woken_ends c.args.most c.loop-count.count c.args.most c.args.address c.loop-count.self (omega arith) (omega arith)
