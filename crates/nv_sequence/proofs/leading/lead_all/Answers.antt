use Rattle.std.proofs.Common.{◌∙◌, refl, subst, Bool, List}
use Rattle.nv_calls.specs.Calls.{Entry}
use Rattle.nv_calls.specs.Logs.{Start}
use Rattle.nv_calls.proofs.LearningLaws.{as_told, legal_told}
use Rattle.nv_threads.specs.Threads.{threads}
use Rattle.nv_threads.proofs.ThreadLaws.{thread_laws}
use Rattle.nv_sequence.proofs.Growing.{legal_before, grows_none, grows_on}
use Rattle.nv_sequence.proofs.Wholly.{LedSo, led_here, led_on, led_whole, turn_falls, live_leader}
use Rattle.nv_sequence.proofs.leading.lead_all.Goals as goal

pub loop-on-init : goal.loop-on-init
loop-on-init g c = (
  λ start legal. led_here threads thread_laws start _ _ _ _ c.requires.leading c.requires.seen c.requires.in_step,
  grows_none (g.K.SyscallKernel.log c.args.kernel.now),
  c.history-log.ensures.lawful,
  refl,
)

pub next_call-on-requires-clause-leading : goal.next_call-on-requires-clause-leading
next_call-on-requires-clause-leading g c κs within =
    let log : List Entry = g.K.SyscallKernel.log c.loop-on.kernel in
    let told : Start = as_told log in
    let S : Bool → Type 0 = λ b. LedSo threads thread_laws told c.args.most c.args.hands.now c.args.version.now c.loop-on.version (g.K.SyscallKernel.log c.args.kernel.now) log b in
    live_leader threads thread_laws told c.args.most c.args.hands.now c.args.version.now c.loop-on.version _ log
    (subst S c.loop-on-test.true (c.loop-on.invariant.0 told (legal_told log c.loop-on.invariant.2))) c.requires.leading

pub next_call-on-requires-clause-seen : goal.next_call-on-requires-clause-seen
next_call-on-requires-clause-seen g c κs within =
    let log : List Entry = g.K.SyscallKernel.log c.loop-on.kernel in
    (c.loop-on.invariant.0 (as_told log) (legal_told log c.loop-on.invariant.2)).led.seen

pub next_call-on-requires-clause-in_step : goal.next_call-on-requires-clause-in_step
next_call-on-requires-clause-in_step g c κs within =
    let log : List Entry = g.K.SyscallKernel.log c.loop-on.kernel in
    (c.loop-on.invariant.0 (as_told log) (legal_told log c.loop-on.invariant.2)).led.in_step

pub loop-on-smaller : goal.loop-on-smaller
loop-on-smaller g c =
    let log : List Entry = g.K.SyscallKernel.log c.loop-on.kernel in
    let new_log : List Entry = g.K.SyscallKernel.log c.next_call-on.new.kernel in
    let told : Start = as_told new_log in
    let legal = legal_told new_log c.next_call-on.ensures.lawful in
    let S : Bool → Type 0 = λ b. LedSo threads thread_laws told c.args.most c.args.hands.now c.args.version.now c.loop-on.version (g.K.SyscallKernel.log c.args.kernel.now) log b in
    turn_falls threads thread_laws told _ _ c.args.version.now c.loop-on.version c.next_call-on.new.version _ _ _
    (subst S c.loop-on-test.true (c.loop-on.invariant.0 told (legal_before told log new_log c.next_call-on.ensures.grows legal))) (c.next_call-on.ensures.turn told legal)

pub loop-on-preserved : goal.loop-on-preserved
loop-on-preserved g c =
    let log : List Entry = g.K.SyscallKernel.log c.loop-on.kernel in
    let new_log : List Entry = g.K.SyscallKernel.log c.next_call-on.new.kernel in
    let S : Start → Bool → Type 0 = λ s b. LedSo threads thread_laws s c.args.most c.args.hands.now c.args.version.now c.loop-on.version (g.K.SyscallKernel.log c.args.kernel.now) log b in (
      λ start legal. led_on threads thread_laws start _ _ c.args.version.now c.loop-on.version c.next_call-on.new.version _ _ _ _
          (subst (S start) c.loop-on-test.true (c.loop-on.invariant.0 start (legal_before start log new_log c.next_call-on.ensures.grows legal)))
          (c.next_call-on.ensures.turn start legal) c.next_call-on.ensures.on,
      grows_on (g.K.SyscallKernel.log c.args.kernel.now) log new_log c.loop-on.invariant.1 c.next_call-on.ensures.grows,
      c.next_call-on.ensures.lawful,
      c.next_call-on.ensures.start ∙ c.loop-on.invariant.3,
    )

pub returns-clause-led : goal.returns-clause-led
returns-clause-led g c = λ start legal.
    let S : Bool → Type 0 = λ b. LedSo threads thread_laws start c.args.most c.args.hands.now c.args.version.now
    c.loop-on.version (g.K.SyscallKernel.log c.args.kernel.now) (g.K.SyscallKernel.log c.loop-on.kernel) b in
    led_whole threads thread_laws start _ _ c.args.version.now c.loop-on.version _ _ (subst S c.loop-on-test.false (c.loop-on.invariant.0 start legal))
