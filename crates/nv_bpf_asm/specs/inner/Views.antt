-- The code's statements as the definitions see them.
use Rattle.std.specs.Prelude.{Result, Ok, Err}
use Rattle.nv_bpf_asm.specs.declared.fault.RuleCause.{RuleCause}
use Rattle.nv_bpf_asm.specs.declared.statements.Statement.{Statement}
use Rattle.nv_bpf_asm.specs.declared.statements.Statement.TheVariants as code
use Rattle.nv_bpf_asm.specs.Statements as rule

abbrev pub view : Statement → rule.Statement
view (code.Plain c k) = rule.Plain c k
view (code.Always target) = rule.Always target.now
view (code.Choice c k holds fails) = rule.Choice c k holds.now fails.now

abbrev pub result_view : Result Statement RuleCause → Result rule.Statement RuleCause
result_view (Ok s) = Ok (view s)
result_view (Err c) = Err c
