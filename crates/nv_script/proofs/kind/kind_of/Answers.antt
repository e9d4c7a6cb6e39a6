use Rattle.std.proofs.Common.{ap, ◌∙◌}
use Rattle.nv_script.specs.Entry.{in_form, entry_kinds, kind_of}
use Rattle.nv_script.proofs.kind.kind_of.Goals as goal

pub returns : goal.returns
unfolding entry_kinds kind_of
returns c = c.in_form.ensures ∙ ap (in_form c.args.form) c.find.ensures
