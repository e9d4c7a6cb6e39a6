use Rattle.std.proofs.Common.{◌==◌}
use Rattle.nv_bytes.proofs.Cutting.{split-last, split-more}
use Rattle.nv_bytes.proofs.fields.cut.Goals as goal

pub returns-in-empty-clause-parts : goal.returns-in-empty-clause-parts
returns-in-empty-clause-parts c =
    split-last (λ b. b == c.args.byte) c.args.text.now _ _ c.place_of.result c.place_of.ensures.count c.split_at.ensures.front c.split_at.ensures.back c.in-empty.len_below

pub returns-in-len1-up-clause-parts : goal.returns-in-len1-up-clause-parts
returns-in-len1-up-clause-parts c =
    split-more (λ b. b == c.args.byte) c.args.text.now _ _ c.place_of.result c.place_of.ensures.count c.split_at.ensures.front c.split_at.ensures.back c.in-len1-up.len_at_least
