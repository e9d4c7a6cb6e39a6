use Rattle.std.proofs.Common.{◌∙◌, sym, ap, length}
use Rattle.std.proofs.lemmas.List.FromFn.{length-map-range_with_len}
use Rattle.nv_fs.specs.Contents.{Content, content_byte}
use Rattle.nv_fs.proofs.blocks.Blocks.len.Goals as goal

pub returns : goal.returns
returns c = sym (length-map-range_with_len (content_byte c.self.inside.blocks.items) 0 c.self.inside.len) ∙ ap (λ (z : Content). length z.bytes) c.self.view_is
