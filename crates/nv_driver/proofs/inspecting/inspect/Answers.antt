use Rattle.std.proofs.Common.{◌≡◌, ◌∙◌, ap, sym, ℕ}
use Rattle.nv_driver.specs.Words.{Inspects}
use Rattle.nv_driver.specs.Seen.{look_view}
use Rattle.nv_replay.specs.Follow.{Follower, follow, fresh, judge_of}
use Rattle.nv_inspect.specs.Points.{at_point, events_to}
use Rattle.nv_inspect.specs.declared.points.TracePoint.{TracePoint}
use Rattle.nv_script.specs.Views.{setup_of}
use Rattle.nv_threads.specs.Threads.{Proc, threads, started}
use Rattle.nv_driver.specs.Due.{shown, shown_of, traced_outcome}
use Rattle.nv_driver.specs.Outcome.{source_of}
use Rattle.nv_driver.specs.Traced.{Traced}
use Rattle.nv_driver.specs.Tracing.{trace_point}
use Rattle.nv_driver.proofs.Commands.{wrote_answers, trail_refusal_answers}
use Rattle.nv_driver.proofs.inspecting.inspect.Goals as goal

pub returns-in-Ok : goal.returns-in-Ok
returns-in-Ok g c = λ words asked.
    let source = source_of g.F.Files.holds g.F.Files.faults g.F.Files.taken c.args.files.now c.trace_version.new.files in
    let look = look_view c.args.look.now in
    let traced = c.in-Ok.traced in
    let ready = c.in-Ok.ensures.ready in
    let log = traced.kernel.log in
    let point = trace_point look.point in
    let files : Traced = record { setup = setup_of traced.script; rules = traced.rules; log = log; machine = ready.machine } in
    let by : ℕ → TracePoint → Proc → Follower Proc = λ i p process. follow threads (judge_of traced.rules i) (events_to p log) (fresh process) in
    let at = by traced.version.index c.point.result traced.version.at.process in
    let is : at ≡ at_point traced.rules look.trail.index log point look.trail.budget look.trail.renews (setup_of traced.script).polls ready.machine =
    ap (λ (i : ℕ). by i c.point.result traced.version.at.process) ready.fresh.index
    ∙ ap (λ (p : TracePoint). by look.trail.index p traced.version.at.process) c.point.ensures
    ∙ ap (by look.trail.index point) (ready.begins ∙ (λ j. started ready.machine (c.budget.ensures.is j) (c.renews.ensures j) (setup_of traced.script).polls)) in
    wrote_answers words source (Inspects look) asked _ _ _ _ _ (shown_of files look.dump at)
    (record { finds = ready.comes.finds; agree = ready.comes.agree; comes = ap (shown_of files look.dump) is ∙ sym (ap (traced_outcome look.trail (shown look)) ready.comes.is) })
    c.in-Ok.ensures.faults c.in-Ok.ensures.faults c.show_at.ensures

pub returns-in-Err : goal.returns-in-Err
returns-in-Err g c = λ words asked.
    let source = source_of g.F.Files.holds g.F.Files.faults g.F.Files.taken c.args.files.now c.trace_version.new.files in
    let look = look_view c.args.look.now in
    trail_refusal_answers words source (Inspects look) asked _ _ _ _ _ c.in-Err.refusal look.trail (shown look) (λ outcome owed. owed) c.in-Err.ensures.refused c.refuse_trail.ensures
