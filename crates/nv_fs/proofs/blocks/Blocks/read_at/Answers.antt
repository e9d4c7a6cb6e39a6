use Rattle.std.proofs.Common.{◌≡◌, ◌∙◌, ap, ℕ, ◌+◌, ◌-◌, List, ◌++◌, length, drop, min, Option, arith}
use Rattle.std.proofs.lemmas.List.{length-take}
use Rattle.nv_fs.specs.Contents.{Content, content_byte, part_of}
use Rattle.nv_fs.proofs.Bytes.{part_is}
use Rattle.nv_fs.proofs.blocks.Blocks.read_at.Goals as goal

-- what was copied is the part
part : (c : goal.After-slice_known-2-1) → c.read.new.into ≡ part_of c.args.self.now.bytes c.args.from (length c.args.into.now)
part c =
    let n = length c.args.into.now in
    let from = c.args.from in
    let short = length-take c.min-got.result c.args.into.now in
    let long : length c.read.new.into ≡ min n (c.self.inside.len - from) = omega arith in
    part_is (content_byte c.self.inside.blocks.items) c.self.inside.len from n c.read.new.into long
    (λ k l. c.read.ensures k (omega arith) ∙ ap (λ (bs : List (Option (List ℕ))). content_byte bs (from + k)) c.deref.ensures.value)
    ∙ ap (λ (z : Content). part_of z.bytes from n) c.self.view_is

pub returns-clause-count : goal.returns-clause-count
returns-clause-count c =
    let short = length-take c.min-got.result c.args.into.now in
    let e = ap length (part c) in
    omega arith

pub returns-clause-bytes : goal.returns-clause-bytes
returns-clause-bytes c = ap (λ (z : List ℕ). z ++ drop c.min-got.result c.args.into.now) (part c)
