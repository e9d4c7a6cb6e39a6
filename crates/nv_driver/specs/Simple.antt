-- The commands, as `clap` sees them.
use Rattle.std.specs.Prelude.{List, [], ◌∷◌, ◌++◌, true, Some, codes}
use Rattle.clap.specs.Walk.{Rule, Text}
use Rattle.clap.specs.Simple.{App, new_rule, new_shape}
use Rattle.clap.specs.declared.builder.action.ArgAction.TheVariants.{SetTrue, Append}

-- `--name VALUE` or `--name=VALUE`, at most once
abbrev pub option_rule : Text → Rule
option_rule name = record (new_rule name) { long = Some name }

-- `--name`, at most once
abbrev pub flag_rule : Text → Rule
flag_rule name = record (new_rule name) { long = Some name; action = Some SetTrue }

-- one word that is neither an option nor its value
abbrev pub file_rule : Text → Rule
file_rule name = record (new_rule name) { required = true }

-- one or more of them
abbrev pub files_rule : Text → Rule
files_rule name = record (new_rule name) { required = true; action = Some Append }

-- one of them, or none
abbrev pub word_rule : Text → Rule
word_rule name = new_rule name

-- a command that has these arguments, and no help of its own
abbrev pub simple_app : Text → List Rule → App
simple_app name rules = record { top = record (new_shape name) { rules = rules; disable_help_flag = true }; subs = [] }

-- the options that `run`, `record` and `serve` share
abbrev pub run_options : List Rule
run_options =
    option_rule (codes "rules")
    ∷ option_rule (codes "ring")
    ∷ option_rule (codes "memory")
    ∷ option_rule (codes "budget")
    ∷ option_rule (codes "hang")
    ∷ option_rule (codes "calls")
    ∷ option_rule (codes "threads")
    ∷ []

abbrev pub run_app : App
run_app = simple_app (codes "run") (run_options ++ (option_rule (codes "script") ∷ option_rule (codes "transcript") ∷ flag_rule (codes "json") ∷ files_rule (codes "version") ∷ []))

abbrev pub record_app : App
record_app = simple_app (codes "record") (run_options ++ (option_rule (codes "script") ∷ option_rule (codes "transcript") ∷ files_rule (codes "version") ∷ []))

abbrev pub serve_app : App
serve_app =
    simple_app (codes "serve")
    (run_options
    ++ (option_rule (codes "script") ∷ flag_rule (codes "clients") ∷ option_rule (codes "patience") ∷ flag_rule (codes "log") ∷ files_rule (codes "version") ∷ []))

-- the options of a version that follows a trace
abbrev pub trail_options : List Rule
trail_options =
    option_rule (codes "script")
    ∷ option_rule (codes "transcript")
    ∷ option_rule (codes "rules")
    ∷ option_rule (codes "memory")
    ∷ option_rule (codes "budget")
    ∷ option_rule (codes "hang")
    ∷ option_rule (codes "index")
    ∷ []

-- the options that say what is shown of it
abbrev pub look_options : List Rule
look_options =
    option_rule (codes "stamp")
    ∷ option_rule (codes "call")
    ∷ option_rule (codes "count")
    ∷ option_rule (codes "dump")
    ∷ option_rule (codes "length")
    ∷ []

-- its files, in this order
abbrev pub trail_files : List Rule
trail_files = file_rule (codes "trace") ∷ file_rule (codes "version") ∷ []

abbrev pub replay_app : App
replay_app = simple_app (codes "replay") (trail_options ++ trail_files)

abbrev pub inspect_app : App
inspect_app = simple_app (codes "inspect") (trail_options ++ (look_options ++ trail_files))

abbrev pub rules_app : App
rules_app = simple_app (codes "rules") (flag_rule (codes "asm") ∷ file_rule (codes "file") ∷ [])

abbrev pub asm_app : App
asm_app = simple_app (codes "asm") (file_rule (codes "file") ∷ [])

abbrev pub gen_app : App
gen_app = simple_app (codes "gen") (file_rule (codes "number") ∷ [])

abbrev pub help_app : App
help_app = simple_app (codes "usage") (word_rule (codes "command") ∷ [])
