use Rattle.std.proofs.Common.{◌∙◌, sym, ap, ◌/◌, Bool, false, map, set, is_some}
use Rattle.std.proofs.lemmas.List.{map-set, set-get_or}
use Rattle.nv_fs.proofs.Bytes.{held_at}
use Rattle.nv_fs.proofs.copying.write_one.Goals as goal

pub returns-clause-held : goal.returns-clause-held
returns-clause-held c =
    let blocks = c.args.blocks.now.items in
    let k = c.args.place / 4096 in
    map-set is_some blocks k c.write_at.new.self
    ∙ ap (λ (b : Bool). set (map is_some blocks) k b) (c.write_at.ensures.held ∙ sym c.requires.held ∙ sym (held_at blocks k)) ∙ set-get_or (map is_some blocks) k false
