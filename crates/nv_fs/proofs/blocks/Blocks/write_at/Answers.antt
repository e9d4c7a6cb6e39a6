use Rattle.std.proofs.Common.{◌∙◌, ap, ℕ, map}
use Rattle.std.specs.List.{range_with_len}
use Rattle.nv_fs.specs.Contents.{Content, content_byte, with_bytes}
use Rattle.nv_fs.proofs.Bytes.{written}
use Rattle.nv_fs.proofs.blocks.Blocks.write_at.Goals as goal

pub returns-clause-bytes : goal.returns-clause-bytes
returns-clause-bytes c =
    let old = content_byte c.self.inside.blocks.items in
    let new = content_byte c.write.new.blocks.items in
    ap (λ (n : ℕ). map new (range_with_len 0 n)) c.max-self-inside.ensures
    ∙ written old new c.self.inside.len c.args.place c.args.bytes.now c.write.ensures.bytes c.self.invariant
    ∙ ap (λ (z : Content). with_bytes z.bytes c.args.place c.args.bytes.now) c.self.view_is
