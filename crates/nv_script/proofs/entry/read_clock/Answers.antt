use Rattle.std.proofs.Common.{◌∷◌, sym, ap, ◌∙◌}
use Rattle.nv_script.specs.Entry.{clock_of}
use Rattle.nv_script.proofs.TooManyFields.{clock_of-four}
use Rattle.nv_script.proofs.entry.read_clock.Goals as goal

pub returns-in_default-Some : goal.returns-in_default-Some
returns-in_default-Some c =
    let first = c.split_field.result.0.now in
    let second = c.split_field-2.result.0.now in
    let seconds = rw c.in-Some.is at c.split_field.ensures.fields in
    let nanos = rw c.in-Some-rest.is at c.split_field-2.ensures.fields in
    let step = rw c.in_default-Some.is-1 at c.split_field-3.ensures.fields in
    sym (ap clock_of (seconds ∙ ap (λ texts. first ∷ texts) nanos ∙ ap (λ texts. first ∷ second ∷ texts) step)
    ∙ clock_of-four first second c.split_field-3.result.0.now c.in_default-Some.field-0-1.now)
