use Rattle.std.proofs.Common.{subst, refl}
use Rattle.std.specs.Prelude.{option_map}
use Rattle.nv_driver.specs.Words.{Helps}
use Rattle.nv_driver.specs.Tables.{name_view}
use Rattle.nv_driver.specs.Outcome.{Helped, source_of}
use Rattle.nv_driver.specs.Tasks.{IsTaskOf}
use Rattle.nv_driver.specs.declared.task.Task.{Task}
use Rattle.nv_driver.proofs.Commands.{told_answers, words_refused}
use Rattle.nv_driver.proofs.answering.answer_alone.Goals as goal

pub returns-in-Refuse : goal.returns-in-Refuse
returns-in-Refuse g c = λ words is.
    words_refused c.in-Refuse.fault words (source_of g.F.Files.holds g.F.Files.faults g.F.Files.taken c.args.files.now c.args.files.now)
    (subst (λ (task : Task). IsTaskOf task words) c.in-Refuse.is is) (refl, refl) _ _ _ _ _ c.refuse_words.ensures

pub returns-in-Use : goal.returns-in-Use
returns-in-Use g c = λ words is. c.use_file.ensures words (subst (λ (task : Task). IsTaskOf task words) c.in-Use.is is)

pub returns-in-Replay : goal.returns-in-Replay
returns-in-Replay g c = λ words is. c.replay.ensures words (subst (λ (task : Task). IsTaskOf task words) c.in-Replay.is is)

pub returns-in-Inspect : goal.returns-in-Inspect
returns-in-Inspect g c = λ words is. c.inspect.ensures words (subst (λ (task : Task). IsTaskOf task words) c.in-Inspect.is is)

pub returns-in-Help : goal.returns-in-Help
returns-in-Help g c = λ words is.
    let topic = option_map name_view c.in-Help.topic in
    told_answers words (source_of g.F.Files.holds g.F.Files.faults g.F.Files.taken c.args.files.now c.args.files.now) (Helps topic)
    (subst (λ (task : Task). IsTaskOf task words) c.in-Help.is is) _ _ _ _ _ (Helped topic) refl (refl, refl) c.help.ensures
