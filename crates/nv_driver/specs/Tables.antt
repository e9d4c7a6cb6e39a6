-- The commands that tables of their arguments say.
use Rattle.std.specs.Prelude.{List, ◌++◌, map, Option, option_map, false}
use Rattle.std.specs.Borrow.{Bor}
use Rattle.clap.specs.Walk.{Row, Rule, Text}
use Rattle.clap.specs.Simple.{App, on_top}
use Rattle.nv_driver.specs.Simple.{option_rule, flag_rule, file_rule, files_rule, word_rule, simple_app, run_app, serve_app, record_app, replay_app, inspect_app, rules_app, asm_app, gen_app, help_app}
use Rattle.nv_driver.specs.Words.{Name, NamesRun, NamesServe, NamesRules, NamesAsm, NamesGen, NamesRecord, NamesReplay, NamesInspect, NamesHelp, Command, Runs, Serves, Uses, Generates, Records, Replays, Inspects, Helps, plan_of, report_plan_of, service_of, rules_job_of, asm_job_of, number_in, trail_of, look_of, topic_of}
use Rattle.nv_driver.specs.declared.simple.Kind.{Kind}
use Rattle.nv_driver.specs.declared.simple.Kind.TheVariants.{Value, Flag, File, Files, Word}
use Rattle.nv_driver.specs.declared.simple.Form.{Form}
use Rattle.nv_driver.specs.declared.names.Name.{Name as Named}
use Rattle.nv_driver.specs.declared.names.Name.TheVariants as name

abbrev pub rule_by : Kind → Text → Rule
rule_by Value name = option_rule name
rule_by Flag name = flag_rule name
rule_by File name = file_rule name
rule_by Files name = files_rule name
rule_by Word name = word_rule name

abbrev pub rules_by : List (Bor Text × Kind) → List Rule
rules_by arguments = map (λ argument. rule_by argument.1 argument.0.now) arguments

-- the command with these arguments more
abbrev pub with_rules : App → List Rule → App
with_rules app rules = on_top (λ top. record top { rules = top.rules ++ rules }) app

abbrev pub app_by : Form → App
app_by form = simple_app form.name.now (rules_by form.options.now ++ rules_by form.rest.now)

abbrev pub name_view : Named → Name
name_view name.Run = NamesRun
name_view name.Serve = NamesServe
name_view name.Rules = NamesRules
name_view name.Asm = NamesAsm
name_view name.Gen = NamesGen
name_view name.Record = NamesRecord
name_view name.Replay = NamesReplay
name_view name.Inspect = NamesInspect
name_view name.Help = NamesHelp

-- what `clap` knows of a command
abbrev pub app_named : Name → App
app_named NamesRun = run_app
app_named NamesServe = serve_app
app_named NamesRules = rules_app
app_named NamesAsm = asm_app
app_named NamesGen = gen_app
app_named NamesRecord = record_app
app_named NamesReplay = replay_app
app_named NamesInspect = inspect_app
app_named NamesHelp = help_app

-- what the matches of a command's words ask for
abbrev pub asked_of : Name → List Row → Option Command
asked_of NamesRun rows = option_map Runs (report_plan_of rows)
asked_of NamesServe rows = option_map Serves (service_of rows)
asked_of NamesRules rows = option_map Uses (rules_job_of rows)
asked_of NamesAsm rows = option_map Uses (asm_job_of rows)
asked_of NamesGen rows = option_map Generates (number_in rows)
asked_of NamesRecord rows = option_map Records (plan_of false rows)
asked_of NamesReplay rows = option_map Replays (trail_of rows)
asked_of NamesInspect rows = option_map Inspects (look_of rows)
asked_of NamesHelp rows = option_map Helps (topic_of rows)
