use Rattle.std.proofs.Common.{◌∙◌, sym, ap, false, inl, inr, is_some, get_or, arith}
use Rattle.nv_fs.specs.Contents.{Content}
use Rattle.nv_fs.proofs.Bytes.{held_at}
use Rattle.nv_fs.proofs.blocks.Blocks.reserve.Goals as goal

pub returns-clause-others : goal.returns-clause-others
returns-clause-others c = λ k o.
    held_at c.hold.new.blocks.items k ∙ ap is_some (c.hold.ensures.others k (elim o [ inl l ↦ inl (omega arith) | inr g ↦ inr (omega arith) ]))
    ∙ sym (held_at c.self.inside.blocks.items k) ∙ ap (λ (z : Content). get_or z.held k false) c.self.view_is
