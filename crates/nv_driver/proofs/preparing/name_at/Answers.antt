use Rattle.std.proofs.Common.{◌∙◌, ap, List, ℕ}
use Rattle.std.proofs.lemmas.Option.{slice_get-map, slice_get-get_or}
use Rattle.std.specs.Prelude.{option_map}
use Rattle.std.specs.Borrow.{Bor}
use Rattle.nv_driver.proofs.preparing.name_at.Goals as goal

pub returns : goal.returns
returns c =
    let now = λ (name : Bor (List ℕ)). name.now in
    slice_get-map now c.args.names.now c.args.index ∙ ap (option_map now) (slice_get-get_or c.args.names.now c.args.index _ c.requires)
