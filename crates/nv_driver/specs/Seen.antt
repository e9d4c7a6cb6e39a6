-- What a caller sees of a line that was read.
use Rattle.std.specs.Prelude.{◌≡◌, List, Option, None, map, option_map, IsSome}
use Rattle.std.specs.Borrow.{Bor}
use Rattle.clap.specs.Walk.{Text}
use Rattle.nv_driver.specs.Words.{Limits, Allowance, ScriptFile as LineScript, Parts as LineParts, Plan, Service as LineService, Job as FileJob, Trail as TraceTrail, Point as TracePoint, AtStamp, AtCall, AtCount, Look as TraceLook, Command as Line, Runs, Serves, Uses, Generates, Records, Replays, Inspects, Helps, command_of, command_name}
use Rattle.nv_driver.specs.Tables.{name_view}
use Rattle.nv_driver.specs.declared.limits.Limits.{Limits as Held}
use Rattle.nv_driver.specs.declared.limits.Allowance.{Allowance as HeldAllowance}
use Rattle.nv_driver.specs.declared.asked.ScriptFile.{ScriptFile}
use Rattle.nv_driver.specs.declared.asked.Run.{Run}
use Rattle.nv_driver.specs.declared.asked.Service.{Service}
use Rattle.nv_driver.specs.declared.parts.Parts.{Parts}
use Rattle.nv_driver.specs.declared.asked.Job.{Job}
use Rattle.nv_driver.specs.declared.asked.Trail.{Trail}
use Rattle.nv_driver.specs.declared.asked.Point.{Point}
use Rattle.nv_driver.specs.declared.asked.Point.TheVariants as point
use Rattle.nv_driver.specs.declared.asked.Look.{Look}
use Rattle.nv_driver.specs.declared.asked.Command.{Command}
use Rattle.nv_driver.specs.declared.asked.Command.TheVariants as command
use Rattle.nv_driver.specs.declared.asked.LineFault.{LineFault}
use Rattle.nv_driver.specs.declared.asked.LineFault.TheVariants.{Usage, Memory}

abbrev pub limits_view : Held → Limits
limits_view held = record { ring = held.ring; memory = held.memory; budget = held.budget; renews = held.renews; calls = held.calls; threads = held.threads }

abbrev pub allowance_view : HeldAllowance → Allowance
allowance_view held = record { budget = held.budget; renews = held.renews }

-- the texts after references
abbrev pub names_view : List (Bor Text) → List Text
names_view names = map (λ name. name.now) names

-- the text after a reference, if there is one
abbrev pub rules_view : Option (Bor Text) → Option Text
rules_view rules = option_map (λ name. name.now) rules

abbrev pub script_view : ScriptFile → LineScript
script_view script = record { name = script.name.now; transcript = script.is_transcript }

abbrev pub plan_view : Run → Plan
plan_view run = record { script = script_view run.script; rules = rules_view run.rules; versions = names_view run.versions.items; limits = limits_view run.limits; json = run.json }

abbrev pub service_view : Service → LineService
service_view service = record {
  script = option_map (λ name. name.now) service.script;
  rules = rules_view service.rules;
  versions = names_view service.versions.items;
  limits = limits_view service.limits;
  clients = service.clients;
  patience = service.patience;
  log = service.log;
}

abbrev pub parts_view : Parts → LineParts
parts_view parts = record { rules = rules_view parts.rules; versions = names_view parts.names.now; limits = limits_view parts.limits }

abbrev pub job_view : Job → FileJob
job_view job = record { tool = job.tool; file = job.file.now }

abbrev pub trail_view : Trail → TraceTrail
trail_view trail = record {
  script = script_view trail.script;
  rules = rules_view trail.rules;
  trace = trail.trace.now;
  version = trail.version.now;
  memory = trail.memory;
  budget = trail.budget;
  renews = trail.renews;
  index = trail.index;
}

abbrev pub point_view : Point → TracePoint
point_view (point.Stamp stamp) = AtStamp stamp
point_view (point.Call number) = AtCall number
point_view (point.Count count) = AtCount count

abbrev pub look_view : Look → TraceLook
look_view look = record { trail = trail_view look.trail; point = point_view look.point; dump = look.dump }

abbrev pub command_view : Command → Line
command_view (command.Run run) = Runs (plan_view run)
command_view (command.Serve service) = Serves (service_view service)
command_view (command.Use job) = Uses (job_view job)
command_view (command.Generate number) = Generates number
command_view (command.Record run) = Records (plan_view run)
command_view (command.Replay trail) = Replays (trail_view trail)
command_view (command.Inspect look) = Inspects (look_view look)
command_view (command.Help topic) = Helps (option_map name_view topic)

-- the words are refused; or they name a command, and memory ran out while its words were read
abbrev pub WordsRefused : LineFault → List Text → Type 0
WordsRefused Usage words = command_of words ≡ None
WordsRefused Memory words = IsSome (command_name words)
