use Rattle.std.proofs.Common.{◌≡◌, subst, Option, List}
use Rattle.std.specs.Prelude.{option_map}
use Rattle.nv_bpf.specs.declared.op.Op.{Op}
use Rattle.nv_driver.specs.Seen.{plan_view, limits_view}
use Rattle.nv_driver.specs.inner.Ran.{RunSays}
use Rattle.nv_driver.specs.Outcome.{source_of}
use Rattle.nv_driver.proofs.Commands.{ran_answers, refusal_answers}
use Rattle.nv_cli.proofs.top.do_run.Goals as goal

pub returns-in-Ok : goal.returns-in-Ok
returns-in-Ok g c = λ words asked.
    let ready = c.in-Ok.ensures.ready in
    let is : option_map (λ f. f.now) c.as_ref.result ≡ c.in-Ok.field-0.rules = c.as_ref.ensures.value in
    let ran = subst (λ (rules : Option (List Op)). RunSays (limits_view c.args.plan.now.limits) c.args.plan.now.json c.in-Ok.field-0.kernel.setup rules ready.machines (g.S.Sink.told c.args.sink.now) (g.S.Sink.faults c.args.sink.now) c.run_versions.result (g.S.Sink.told c.run_versions.new.sink) (g.S.Sink.faults c.run_versions.new.sink)) is
    (c.run_versions.ensures ready.machines ready.processes) in
    ran_answers words (source_of g.F.Files.holds g.F.Files.faults g.F.Files.taken c.args.files.now c.prepare.new.files)
    (plan_view c.args.plan.now) asked c.in-Ok.ensures.faults _ _ ready.machines ready.comes _ _ _ _ _ ran

pub returns-in-Err : goal.returns-in-Err
returns-in-Err g c = λ words asked.
    refusal_answers c.in-Err.refusal words (source_of g.F.Files.holds g.F.Files.faults g.F.Files.taken c.args.files.now c.prepare.new.files) (plan_view c.args.plan.now) asked c.in-Err.ensures.refused
    _ _ _ _ _ c.refuse.ensures
