use Rattle.std.proofs.Common.{option_map, ◌∙◌, sym, ap, subst, refl, ◌++◌, ℕ, ◌+◌, ◌<◌, List, length, map, Bool}
use Rattle.std.specs.Prelude.{if◌then◌else◌}
use Rattle.nv_calls.specs.Logs.{Start, IsLawful}
use Rattle.nv_calls.proofs.LogLaws.{lawful_none}
use Rattle.nv_calls.proofs.LearningLaws.{as_told, legal_told}
use Rattle.nv_threads.specs.Threads.{threads}
use Rattle.nv_threads.proofs.ThreadLaws.{thread_laws}
use Rattle.nv_replay.specs.Follow.{judge_of}
use Rattle.nv_replay.specs.Hands.{count_above}
use Rattle.nv_replay.specs.Monitor.{numbers}
use Rattle.nv_replay.specs.Version.{process_of, standing_of}
use Rattle.nv_replay.specs.Sequence.{Account, cuts_of}
use Rattle.nv_replay.specs.Covers.{Covers}
use Rattle.nv_replay.proofs.Covering.{covers}
use Rattle.nv_replay.proofs.Agreeing.{survivors}
use Rattle.nv_sequence.proofs.Finishing.{first_after, goes_now, ready, next_round, fewer, rested, account_is, settled}
use Rattle.nv_sequence.proofs.Growing.{legal_before}
use Rattle.nv_sequence.proofs.running.run_all.Goals as goal

pub loop-on-init : goal.loop-on-init
loop-on-init g c =
    let vs = c.args.versions.now in (
      λ start legal. first_after threads thread_laws (judge_of (option_map (λ f. f.now) c.args.rules)) start c.args.most c.args.hands.now (map process_of vs) vs c.fill.new.order.items
          (g.K.SyscallKernel.log c.args.kernel.now) c.requires.fresh refl c.requires.few
          (c.fill.ensures ∙ ap (λ (x : List ℕ). x ++ numbers 0 vs) c.new-order.ensures) c.requires.empty,
      subst IsLawful (sym c.requires.empty) lawful_none,
      refl,
    )

pub one_turn-on-requires-clause-ready : goal.one_turn-on-requires-clause-ready
one_turn-on-requires-clause-ready g c κs within =
    let ps = map process_of c.args.versions.now in
    let log = g.K.SyscallKernel.log c.loop-on.kernel in
    let told : Start = as_told log in
    let legal = legal_told log c.loop-on.invariant.1 in
    ready threads thread_laws (judge_of (option_map (λ f. f.now) c.args.rules)) told c.args.most c.args.hands.now ps c.loop-on.versions c.loop-on.order.items log c.requires.hands
    (goes_now threads thread_laws (judge_of (option_map (λ f. f.now) c.args.rules)) told c.args.most c.args.hands.now ps c.loop-on.versions c.loop-on.order.items log c.loop-on.on (c.loop-on.invariant.0 told legal) c.loop-on-test.true)

pub loop-on-smaller : goal.loop-on-smaller
loop-on-smaller g c =
    let ps = map process_of c.args.versions.now in
    let log = g.K.SyscallKernel.log c.loop-on.kernel in
    let new_log = g.K.SyscallKernel.log c.one_turn-on.new.kernel in
    let told : Start = as_told new_log in
    let legal = legal_told new_log c.one_turn-on.ensures.lawful in
    let f = fewer threads thread_laws (judge_of (option_map (λ f. f.now) c.args.rules)) told c.args.most c.args.hands.now ps c.loop-on.versions c.one_turn-on.new.versions c.loop-on.order.items
    c.one_turn-on.new.order.items log new_log c.one_turn-on.result
    (goes_now threads thread_laws (judge_of (option_map (λ f. f.now) c.args.rules)) told c.args.most c.args.hands.now ps c.loop-on.versions c.loop-on.order.items log c.loop-on.on
    (c.loop-on.invariant.0 told (legal_before told log new_log c.one_turn-on.ensures.grows legal)) c.loop-on-test.true)
    (c.one_turn-on.ensures.turn told legal) in
    let D : Bool → Type 0 = λ b. length c.one_turn-on.new.order.items + count_above c.args.hands.now (length new_log) + (if c.one_turn-on.result then 1 else 0)
    < length c.loop-on.order.items + count_above c.args.hands.now (length log) + (if b then 1 else 0) in
    subst D (sym c.loop-on-test.true) f

pub loop-on-preserved : goal.loop-on-preserved
loop-on-preserved g c =
    let ps = map process_of c.args.versions.now in
    let log = g.K.SyscallKernel.log c.loop-on.kernel in
    let new_log = g.K.SyscallKernel.log c.one_turn-on.new.kernel in (
      λ start legal. next_round threads thread_laws (judge_of (option_map (λ f. f.now) c.args.rules)) start c.args.most c.args.hands.now ps c.loop-on.versions c.one_turn-on.new.versions c.loop-on.order.items
          c.one_turn-on.new.order.items log new_log c.one_turn-on.result
          (goes_now threads thread_laws (judge_of (option_map (λ f. f.now) c.args.rules)) start c.args.most c.args.hands.now ps c.loop-on.versions c.loop-on.order.items log c.loop-on.on
          (c.loop-on.invariant.0 start (legal_before start log new_log c.one_turn-on.ensures.grows legal)) c.loop-on-test.true)
          (c.one_turn-on.ensures.turn start legal),
      c.one_turn-on.ensures.lawful,
      c.one_turn-on.ensures.start ∙ c.loop-on.invariant.2,
    )

pub follow_rest-requires-clause-rested : goal.follow_rest-requires-clause-rested
follow_rest-requires-clause-rested g c κs within =
    let log = g.K.SyscallKernel.log c.loop-on.kernel in
    let told : Start = as_told log in
    let legal = legal_told log c.loop-on.invariant.1 in
    let a = c.loop-on.invariant.0 told legal in
    rested threads thread_laws (judge_of (option_map (λ f. f.now) c.args.rules)) told c.args.most c.args.hands.now (map process_of c.args.versions.now) c.loop-on.versions
    c.loop-on.order.items log a.over a.goes

pub returns-clause-account : goal.returns-clause-account
returns-clause-account g c =
    let known = g.K.SyscallKernel.known c.loop-on.kernel in
    let a = c.loop-on.invariant.0 known c.history-log.ensures.legal in
    account_is threads thread_laws (judge_of (option_map (λ f. f.now) c.args.rules)) known c.args.most c.args.hands.now (map process_of c.args.versions.now) c.loop-on.versions
    c.follow_rest.new.versions c.loop-on.order.items (g.K.SyscallKernel.log c.loop-on.kernel) a.over a.goes (a.stops c.loop-on-test.false) c.follow_rest.ensures.new

pub returns-clause-settled : goal.returns-clause-settled
returns-clause-settled g c =
    let known = g.K.SyscallKernel.known c.loop-on.kernel in
    let a = c.loop-on.invariant.0 known c.history-log.ensures.legal in
    settled threads thread_laws (judge_of (option_map (λ f. f.now) c.args.rules)) known c.args.most c.args.hands.now (map process_of c.args.versions.now) c.loop-on.versions
    c.follow_rest.new.versions c.loop-on.order.items (g.K.SyscallKernel.log c.loop-on.kernel) a.over a.goes (a.stops c.loop-on-test.false) c.follow_rest.ensures.new c.follow_rest.ensures.in_step

pub returns-clause-covers : goal.returns-clause-covers
returns-clause-covers g c =
    let known = g.K.SyscallKernel.known c.loop-on.kernel in
    let lines = map standing_of c.follow_rest.new.versions in
    let a = c.loop-on.invariant.0 known c.history-log.ensures.legal in
    let e = account_is threads thread_laws (judge_of (option_map (λ f. f.now) c.args.rules)) known c.args.most c.args.hands.now (map process_of c.args.versions.now) c.loop-on.versions
    c.follow_rest.new.versions c.loop-on.order.items (g.K.SyscallKernel.log c.loop-on.kernel) a.over a.goes (a.stops c.loop-on-test.false) c.follow_rest.ensures.new in
    subst (λ (x : Account). Covers x.lines x.log) (sym e) (covers threads (judge_of (option_map (λ f. f.now) c.args.rules)) known c.args.most (cuts_of lines) c.args.hands.now (map process_of c.args.versions.now))

pub returns-clause-survivor : goal.returns-clause-survivor
returns-clause-survivor g c =
    let known = g.K.SyscallKernel.known c.loop-on.kernel in
    let lines = map standing_of c.follow_rest.new.versions in
    let a = c.loop-on.invariant.0 known c.history-log.ensures.legal in
    let e = account_is threads thread_laws (judge_of (option_map (λ f. f.now) c.args.rules)) known c.args.most c.args.hands.now (map process_of c.args.versions.now) c.loop-on.versions
    c.follow_rest.new.versions c.loop-on.order.items (g.K.SyscallKernel.log c.loop-on.kernel) a.over a.goes (a.stops c.loop-on-test.false) c.follow_rest.ensures.new in
    survivors threads thread_laws known c.args.most c.args.hands.now (judge_of (option_map (λ f. f.now) c.args.rules)) c.args.versions.now lines (g.K.SyscallKernel.log c.loop-on.kernel) c.requires.fresh e
    c.history-log.ensures.lawful c.history-log.ensures.legal
