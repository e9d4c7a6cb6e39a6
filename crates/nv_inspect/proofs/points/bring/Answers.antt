use Rattle.std.proofs.Common.{◌∙◌, ◌≤◌, ℕ, List, length, sym, ap, subst, arith, length-take, option_map}
use Rattle.nv_calls.specs.Calls.{Entry}
use Rattle.nv_calls.specs.Logs.{IsLawful}
use Rattle.nv_calls.proofs.LogLaws.{lawful_take}
use Rattle.nv_threads.specs.Threads.{Proc, threads}
use Rattle.nv_replay.specs.Follow.{Follower, IsInStep, follow, judge_of}
use Rattle.nv_replay.specs.Version.{Running, IsFresh}
use Rattle.nv_inspect.specs.Points.{place_of, events_to}
use Rattle.nv_inspect.specs.declared.points.TracePoint.{TracePoint}
use Rattle.nv_inspect.specs.declared.points.TracePoint.TheVariants.{Stamp, Call, Count}
use Rattle.nv_inspect.proofs.points.bring.Goals as goal

lawful_to : (point : TracePoint) (log : List Entry) → IsLawful log → IsLawful (events_to point log)
lawful_to (Stamp n) log ok = lawful_take log n ok
lawful_to (Call nr) log ok = lawful_take log (place_of nr log) ok
lawful_to (Count n) log ok = ok

shorter : (point : TracePoint) (log : List Entry) → length (events_to point log) ≤ length log
shorter (Stamp n) log = omega (arith, length-take n log)
shorter (Call nr) log = omega (arith, length-take (place_of nr log) log)
shorter (Count n) log = omega arith

-- a version as it was made is in step with every log
made_in_step : (log : List Entry) (i : ℕ) (r : Running Proc) → IsFresh threads i r → IsInStep threads log r.at
made_in_step log i r f =
    subst (λ (s : Follower Proc). IsInStep threads log s) (sym f.at)
    (record { within = omega arith; live = λ z. f.started.live; on = λ z. f.started.on; exited = λ z. cc })

pub follow_all-requires-clause-lawful : goal.follow_all-requires-clause-lawful
follow_all-requires-clause-lawful g c =
    subst IsLawful (sym (c.events_to.ensures ∙ ap (events_to c.args.point) c.history.ensures.log)) (lawful_to c.args.point _ c.history.ensures.lawful)

pub follow_all-requires-clause-in_step : goal.follow_all-requires-clause-in_step
follow_all-requires-clause-in_step g c = made_in_step _ _ _ c.requires

pub follow_all-requires-clause-following : goal.follow_all-requires-clause-following
follow_all-requires-clause-following g c = c.requires.idle

pub returns-clause-at : goal.returns-clause-at
returns-clause-at g c =
    let events = c.events_to.ensures ∙ ap (events_to c.args.point) c.history.ensures.log in
    let judge = judge_of (option_map (λ f. f.now) c.args.rules) c.args.version.now.index in
    ap (λ (r : Running Proc). r.at) c.follow_all.ensures.new ∙ (λ i. follow threads judge (events i) (c.requires.at i))

pub returns-clause-inside : goal.returns-clause-inside
returns-clause-inside g c =
    let events = c.events_to.ensures ∙ ap (events_to c.args.point) c.history.ensures.log in
    let within = c.follow_all.ensures.in_step.within in
    let less = shorter c.args.point (g.K.SyscallKernel.log c.args.kernel.now) in
    omega (arith, ap (λ (es : List Entry). length es) events, within, less)

pub returns-clause-index : goal.returns-clause-index
returns-clause-index g c = ap (λ (r : Running Proc). r.index) c.follow_all.ensures.new

pub returns-clause-eager : goal.returns-clause-eager
returns-clause-eager g c = ap (λ (r : Running Proc). r.eager) c.follow_all.ensures.new
