-- What `usage` writes: how a command is used, its options with their limits, and an example; or how each command is used.
use Rattle.std.specs.Prelude.{List, [], ◌∷◌, ◌++◌, Option, None, Some, codes}
use Rattle.std.specs.List.{concat}
use Rattle.clap.specs.Walk.{Text}
use Rattle.nv_driver.specs.Words.{Name, NamesRun, NamesServe, NamesRules, NamesAsm, NamesGen, NamesRecord, NamesReplay, NamesInspect, NamesHelp}

abbrev pub usage_line : Name → Text
usage_line NamesRun = codes "varan run --script S [options] V1 [V2 .. V8]\n"
usage_line NamesServe = codes "varan serve [options] V1 [V2 .. V8]\n"
usage_line NamesRecord = codes "varan record --script S [options] V1 [V2 .. V8]\n"
usage_line NamesReplay = codes "varan replay --script S [options] TRACE V\n"
usage_line NamesInspect = codes "varan inspect --script S [options] POINT TRACE V\n"
usage_line NamesAsm = codes "varan asm FILE\n"
usage_line NamesRules = codes "varan rules [--asm] FILE\n"
usage_line NamesGen = codes "varan gen N\n"
usage_line NamesHelp = codes "varan usage [COMMAND]\n"

-- the line of each option
abbrev pub script_help : Text
script_help = codes "  --script S      the script; it must be given, or --transcript\n"

abbrev pub transcript_help : Text
transcript_help = codes "  --transcript T  in place of --script: up to 1073741824 bytes, where a script has 4194304\n"

abbrev pub start_help : Text
start_help = codes "  --script S      the script; default none\n"

abbrev pub rules_help : Text
rules_help = codes "  --rules FILE    a rule file that judges the calls of followers which differ\n"

abbrev pub ring_help : Text
ring_help = codes "  --ring N        size of the event ring: 2 to 1024, default 256\n"

abbrev pub memory_help : Text
memory_help = codes "  --memory BYTES  memory of a version, in pages of 4096: 131072 to 16777216, default 1048576\n"

abbrev pub budget_help : Text
budget_help = codes "  --budget N      instructions of a version: 1 to 1000000000, default 10000000\n"

abbrev pub no_budget_help : Text
no_budget_help = codes "  --budget N      instructions of a version in place of --hang: 1 to 1000000000\n"

abbrev pub hang_help : Text
hang_help = codes "  --hang N        instructions after each answer in place of --budget: 1 to 1000000000\n"

abbrev pub usual_hang_help : Text
usual_hang_help = codes "  --hang N        instructions of a version after each answer: 1 to 1000000000, default 100000000\n"

abbrev pub calls_help : Text
calls_help = codes "  --calls N       events of the log: 1 to 131072, default 65536\n"

abbrev pub many_calls_help : Text
many_calls_help = codes "  --calls N       events of the log: 1 to 500000000, default 500000000\n"

abbrev pub threads_help : Text
threads_help = codes "  --threads N     host threads that run the versions: 1 to 8, default 8\n"

abbrev pub json_help : Text
json_help = codes "  --json          the report is written as JSON\n"

abbrev pub clients_help : Text
clients_help = codes "  --clients       clients come and go by lines on standard input and output\n"

abbrev pub patience_help : Text
patience_help = codes "  --patience MS   wait for a follower before it is let go, with --clients: 1 to 3600000; default none\n"

abbrev pub log_help : Text
log_help = codes "  --log           each event is told on standard error\n"

abbrev pub index_help : Text
index_help = codes "  --index N       number of the version that rules see: 0 to 7, default 1\n"

abbrev pub stamp_help : Text
stamp_help = codes "  --stamp N       point: after so many events: 0 to 4294967295\n"

abbrev pub call_help : Text
call_help = codes "  --call N        point: before the first event with this call number: 0 to 4294967295\n"

abbrev pub count_help : Text
count_help = codes "  --count N       point: after so many instructions: 1 to 1000000000\n"

abbrev pub dump_help : Text
dump_help = codes "  --dump ADDRESS  memory from this address on, with --length: 0 to 4294967295 less the length\n"

abbrev pub length_help : Text
length_help = codes "  --length BYTES  how many bytes --dump shows: 1 to 4096\n"

abbrev pub asm_help : Text
asm_help = codes "  --asm           a rule text is assembled\n"

-- those of a command
abbrev pub option_lines : Name → List Text
option_lines NamesRun = script_help ∷ transcript_help ∷ rules_help ∷ ring_help ∷ memory_help ∷ budget_help ∷ hang_help ∷ calls_help ∷ threads_help ∷ json_help ∷ []
option_lines NamesServe =
    start_help ∷ rules_help ∷ ring_help ∷ memory_help ∷ usual_hang_help ∷ no_budget_help ∷ many_calls_help ∷ threads_help ∷ clients_help ∷ patience_help ∷ log_help ∷ []
option_lines NamesRecord = script_help ∷ transcript_help ∷ rules_help ∷ ring_help ∷ memory_help ∷ budget_help ∷ hang_help ∷ calls_help ∷ threads_help ∷ []
option_lines NamesReplay = script_help ∷ transcript_help ∷ rules_help ∷ memory_help ∷ budget_help ∷ hang_help ∷ index_help ∷ []
option_lines NamesInspect = script_help ∷ transcript_help ∷ rules_help ∷ memory_help ∷ budget_help ∷ hang_help ∷ index_help ∷ stamp_help ∷ call_help ∷ count_help ∷ dump_help ∷ length_help ∷ []
option_lines NamesAsm = []
option_lines NamesRules = asm_help ∷ []
option_lines NamesGen = []
option_lines NamesHelp = []

abbrev pub example_line : Name → Text
example_line NamesRun = codes "example: varan run --script clients update old\n"
example_line NamesServe = codes "example: varan serve --clients update old\n"
example_line NamesRecord = codes "example: varan record --script clients old > trace\n"
example_line NamesReplay = codes "example: varan replay --script clients trace patch\n"
example_line NamesInspect = codes "example: varan inspect --script clients --stamp 60 trace patch\n"
example_line NamesAsm = codes "example: varan asm program.s > program\n"
example_line NamesRules = codes "example: varan rules --asm rules.txt > rules\n"
example_line NamesGen = codes "example: varan gen 7\n"
example_line NamesHelp = codes "example: varan usage run\n"

abbrev pub more_help : Text
more_help = codes "varan usage COMMAND writes the options of a command, and an example\n"

abbrev pub help_lines : Option Name → List Text
help_lines None =
    usage_line NamesRun
    ∷ usage_line NamesServe
    ∷ usage_line NamesRecord
    ∷ usage_line NamesReplay
    ∷ usage_line NamesInspect
    ∷ usage_line NamesAsm
    ∷ usage_line NamesRules
    ∷ usage_line NamesGen
    ∷ usage_line NamesHelp
    ∷ more_help
    ∷ []
help_lines (Some name) = usage_line name ∷ option_lines name ++ (example_line name ∷ [])

abbrev pub help_of : Option Name → Text
help_of topic = concat (help_lines topic)
