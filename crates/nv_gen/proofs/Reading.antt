-- The script and the rules are read.
use Rattle.std.proofs.Common.{◌≡◌, Ok, refl}
use Rattle.nv_bytes.specs.Fields.{fields}
use Rattle.nv_bytes.specs.Lines.{lines}
use Rattle.nv_bytes.specs.Numbers.{number_of}
use Rattle.nv_bpf.specs.Actions.{actions, action_of}
use Rattle.nv_bpf.specs.Texts.{field, op_of, ops_of, ops_of_text, filter_of}
use Rattle.nv_bpf.specs.Verified.{op_fault, ops_fault, list_fault}
use Rattle.nv_script.specs.Entry.{form_of}
use Rattle.nv_script.specs.Scripts.{drafted, script_of}
use Rattle.nv_gen.specs.Made.{script, rules}
use Rattle.nv_gen.specs.Texts.{bare, asks_beside_writes}

pub script_read : script_of script ≡ Ok bare
unfolding script_of form_of drafted lines
script_read = refl

pub rules_read : filter_of 4096 rules ≡ Ok asks_beside_writes
unfolding filter_of ops_of_text ops_of op_of field fields lines number_of action_of actions op_fault ops_fault list_fault
rules_read = refl
