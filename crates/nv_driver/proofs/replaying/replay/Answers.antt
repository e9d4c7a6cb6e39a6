use Rattle.std.proofs.Common.{◌≡◌, ◌∙◌, ap, sym, ℕ}
use Rattle.nv_driver.specs.Words.{Replays}
use Rattle.nv_driver.specs.Seen.{trail_view}
use Rattle.nv_replay.specs.Follow.{Follower, follow, fresh, judge_of}
use Rattle.nv_threads.specs.Threads.{Proc, threads}
use Rattle.nv_driver.specs.Due.{replayed, traced_outcome}
use Rattle.nv_driver.specs.Outcome.{Replayed, source_of}
use Rattle.nv_driver.proofs.Commands.{told_answers, trail_refusal_answers}
use Rattle.nv_driver.proofs.replaying.replay.Goals as goal

pub returns-in-Ok : goal.returns-in-Ok
returns-in-Ok g c = λ words asked.
    let source = source_of g.F.Files.holds g.F.Files.faults g.F.Files.taken c.args.files.now c.trace_version.new.files in
    let trail = trail_view c.args.trail.now in
    let traced = c.in-Ok.traced in
    let ready = c.in-Ok.ensures.ready in
    let judge : ℕ → Follower Proc = λ i. follow threads (judge_of traced.rules i) traced.kernel.log (fresh traced.version.at.process) in
    let at = c.follow_whole-version.result.at in
    let is : Replayed at ≡ traced_outcome trail (replayed trail) _ =
    ap Replayed (c.follow_whole-version.ensures ∙ ap judge ready.fresh.index ∙ ap (λ (p : Proc). follow threads (judge_of traced.rules trail.index) traced.kernel.log (fresh p)) ready.begins)
    ∙ sym (ap (traced_outcome trail (replayed trail)) ready.comes.is) in
    told_answers words source (Replays trail) asked _ _ _ _ _ (Replayed at) (record { finds = ready.comes.finds; agree = ready.comes.agree; comes = is }) c.in-Ok.ensures.faults c.put_replay.ensures

pub returns-in-Err : goal.returns-in-Err
returns-in-Err g c = λ words asked.
    let source = source_of g.F.Files.holds g.F.Files.faults g.F.Files.taken c.args.files.now c.trace_version.new.files in
    let trail = trail_view c.args.trail.now in
    trail_refusal_answers words source (Replays trail) asked _ _ _ _ _ c.in-Err.refusal trail (replayed trail) (λ outcome owed. owed) c.in-Err.ensures.refused c.refuse_trail.ensures
