use Rattle.std.proofs.Common.{refl, arith, sym, ap, ◌∙◌, subst, ◌≡◌, List, [], ◌∷◌, ◌++◌, length, length-append}
use Rattle.std.specs.Prelude.{Contains}
use Rattle.nv_calls.specs.Calls.{Entry, request}
use Rattle.nv_calls.specs.Logs.{served, live_after}
use Rattle.nv_room_tests.proofs.Living.{lives_on, first_lives}
use Rattle.nv_room_tests.proofs.running.serve_all.Goals as goal

pub loop-event-init : goal.loop-event-init
loop-event-init g c = record { start = refl; long = (let e = ap (λ (z : List Entry). length z) c.requires.empty in omega arith); few = omega arith; lives = first_lives (g.K.SyscallKernel.log c.args.kernel) 100 c.requires.empty refl }

pub loop-event-preserved : goal.loop-event-preserved
loop-event-preserved g c =
    let i = c.loop-event.invariant in
    let log : List Entry = g.K.SyscallKernel.log c.reserve.new.self in
    let same : log ≡ g.K.SyscallKernel.log c.loop-event.kernel = c.reserve.ensures.log in
    let e : Entry = served (g.K.SyscallKernel.known c.reserve.new.self) log (request c.args.script.now.first) in
    let more : g.K.SyscallKernel.log c.serve.new.self ≡ log ++ e ∷ [] = c.serve.ensures.log in
    let before : Contains (live_after log) 100 = subst (λ (z : List Entry). Contains (live_after z) 100) (sym same) i.lives in
    record {
      start = c.serve.ensures.start ∙ c.reserve.ensures.start ∙ i.start;
      long = (let a = ap (λ (z : List Entry). length z) more in let b = length-append log (e ∷ []) in let d = ap (λ (z : List Entry). length z) same in let f = i.long in omega arith);
      few = (let t = c.loop-event-test.true in let n = c.requires.few in omega arith);
      lives = subst (λ (z : List Entry). Contains (live_after z) 100) (sym more) (lives_on log e 100 c.requires.calls.first.1 before);
    }
