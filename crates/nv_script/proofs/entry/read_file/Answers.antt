use Rattle.std.proofs.Common.{◌∷◌, sym, ap, ◌∙◌}
use Rattle.nv_script.specs.Entry.{file_entry}
use Rattle.nv_script.proofs.TooManyFields.{file_of-three}
use Rattle.nv_script.proofs.entry.read_file.Goals as goal

pub returns-in_default-Some : goal.returns-in_default-Some
returns-in_default-Some c =
    let name = rw c.in-Some.is at c.split_field.ensures.fields in
    let hex = rw c.in_default-Some.is-1 at c.split_field-2.ensures.fields in
    sym (ap file_entry (name ∙ ap (λ texts. c.split_field.result.0.now ∷ texts) hex)
    ∙ file_of-three c.split_field.result.0.now c.split_field-2.result.0.now c.in_default-Some.field-0-1.now)
