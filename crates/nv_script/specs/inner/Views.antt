-- The code's values as the definitions see them.
use Rattle.std.specs.Prelude.{◌++◌, Option, Result, Ok, Err, option_map, codes}
use Rattle.nv_script.specs.declared.entry.Entry.{Entry}
use Rattle.nv_script.specs.declared.entry.Entry.TheVariants as code
use Rattle.nv_script.specs.declared.fault.ScriptCause.{ScriptCause}
use Rattle.nv_script.specs.ArrivalViews as came
use Rattle.nv_script.specs.Entry as rule
use Rattle.nv_script.specs.Scripts.{Draft}

abbrev pub view : Entry → rule.Entry
view code.Nothing = rule.Nothing
view (code.Argument text) = rule.Argument text.now
view (code.Line text) = rule.Input (text.now ++ codes "\n")
view (code.Input bytes) = rule.Input bytes.items
view (code.File name content) = rule.File name.now content.items
view (code.Clock clock) = rule.Time clock
view (code.Seed seed) = rule.Seed seed
view (code.Hand hand) = rule.Hand hand
view (code.Connection port input) = rule.Connection port input.items
view (code.Arrives arrival) = rule.Arrives (came.view arrival)

abbrev pub found_view : Option Entry → Option rule.Entry
found_view found = option_map view found

abbrev pub result_view : Result Entry ScriptCause → Result rule.Entry ScriptCause
result_view (Ok entry) = Ok (view entry)
result_view (Err cause) = Err cause

-- what a draft has become, where the line has no cause
abbrev pub became : Draft → Result (Unit {0}) ScriptCause → Result Draft ScriptCause
became draft (Ok done) = Ok draft
became draft (Err cause) = Err cause
