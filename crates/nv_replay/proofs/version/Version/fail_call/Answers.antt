use Rattle.std.proofs.Common.{◌≡◌, ◌∙◌, sym, ap, ℕ, ◌+◌, ◌<◌, false, [], ℤ, pos, ◌-ℤ◌, to_z, of_z, arith}
use mir.Syntax.{w32}
use Rattle.std.proofs.lemmas.Int.{ints}
use Rattle.nv_calls.specs.Calls.{Request, entry}
use Rattle.nv_threads.specs.Threads.{threads, Proc}
use Rattle.nv_threads.specs.Ahead.{Known}
use Rattle.nv_calls.specs.Numbers.{is_of_threads}
use Rattle.nv_replay.specs.Permits.{failed}
use Rattle.nv_replay.specs.Version.{Running}
use Rattle.nv_replay.specs.Views.{running_of}
use Rattle.nv_replay.proofs.Obeying.{obeyed, is_refused, is_given, failed_far, failed_threads, failed_gives}
use Rattle.nv_replay.proofs.version.Version.fail_call.Goals as goal
use Rattle.nv_replay.proofs.version.Version.fail_call.Goals.{then-error-gt-MOST_ERROR-via-then-error-gt-MOST_ERROR, then-error-gt-MOST_ERROR-via-else-error-gt-MOST_ERROR+then-is_of_threads}

pub returns-then-error-gt-MOST_ERROR-clause-new : goal.returns-then-error-gt-MOST_ERROR-clause-new
returns-then-error-gt-MOST_ERROR-clause-new c =
    let old : Running Proc = c.args.self.now in
    is_refused threads c.args.tid c.args.value (entry c.args.event.now) (λ call. failed call c.args.error) old c.refuse.new.self
    (elim c.then-error-gt-MOST_ERROR.branch [
      | then-error-gt-MOST_ERROR-via-then-error-gt-MOST_ERROR w ↦ failed_far (threads.call old.at.process c.args.tid) c.args.error
          (omega (arith, w.if-error-gt-MOST_ERROR.true))
      | then-error-gt-MOST_ERROR-via-else-error-gt-MOST_ERROR+then-is_of_threads w ↦
          failed_threads (threads.call old.at.process c.args.tid) c.args.error
          (sym (ap (λ (q : Request). is_of_threads q.nr) (w.pending.ensures.call ∙ ap
          (λ (r : Running Proc). threads.call r.at.process c.args.tid) c.self.view_is)) ∙ sym w.if-is_of_threads.ensures)
    ]) c.refuse.ensures.new

-- the negative of an error is its reply
negated : (k : ℕ) (x : ℤ) → x ≡ pos k → k < 4096 → to_z w32 (of_z w32 (pos 0 -ℤ to_z w32 (of_z w32 x))) ≡ pos 0 -ℤ pos k
negated k x h l = rw h (omega (arith, ints))

pub returns-clause-new : goal.returns-clause-new
returns-clause-new c =
    let old : Running Proc = running_of c.self-2.inside in
    let answered : Known → Running Proc = λ k. record old { at = record old.at { process = k.process; rewrites = old.at.rewrites + 1 }; eager = k.eager } in
    let reply : ℤ → Known = λ ret. record c.self-2.inside.process { process = threads.given c.self-2.inside.process.process c.args.tid (record { ret = ret; payload = [] }) } in
    let few : c.args.error < 4096 = omega arith in
    let call : threads.call c.self.inside.process.process c.args.tid ≡ threads.call c.self-2.inside.process.process c.args.tid = ap
    (λ (r : Running Proc). threads.call r.at.process c.args.tid) (c.self.view_is ∙ sym c.self-2.view_is) in
    let quiet : is_of_threads (threads.call c.self-2.inside.process.process c.args.tid).nr ≡ false = sym
    (ap (λ (q : Request). is_of_threads q.nr) (c.pending.ensures.call ∙ call)) ∙ sym c.if-is_of_threads.ensures in
    let same : c.give.new.self ≡ reply (pos 0 -ℤ pos c.args.error) = c.give.ensures ∙ ap reply
    (negated c.args.error c.from.result c.from.ensures few) in
    is_given threads c.args.tid c.args.value (entry c.args.event.now) (λ call. failed call c.args.error) old
    (answered c.give.new.self) (record { ret = pos 0 -ℤ pos c.args.error; payload = [] })
    (failed_gives (threads.call c.self-2.inside.process.process c.args.tid) c.args.error few quiet) (ap answered same) ∙ ap
    (obeyed threads c.args.tid c.args.value (entry c.args.event.now) (λ call. failed call c.args.error)) c.self-2.view_is
