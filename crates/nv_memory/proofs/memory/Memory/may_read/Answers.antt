use Rattle.std.proofs.Common.{◌+◌, ◌*◌, length, ap, ◌∙◌, sym}
use Rattle.nv_memory.specs.declared.region.Right.TheVariants.{Read}
use Rattle.nv_memory.specs.Region.{holds}
use Rattle.nv_memory.specs.Image.{Image}
use Rattle.nv_memory.proofs.Parts.{read_held}
use Rattle.nv_memory.proofs.memory.Memory.may_read.Goals as goal

pub returns-then-reads : goal.returns-then-reads
returns-then-reads c =
    let now = c.self.inside in
    let held = read_held now.regions.items now.decoded.start (now.decoded.start + 4 * length now.decoded.insns.items) now.rights.parts.items c.args.address c.args.length c.self.invariant.2 (sym c.reads.ensures ∙ c.if-reads.true) in
    c.if-reads.true ∙ sym held ∙ ap (λ (m : Image). holds m.regions c.args.address c.args.length Read) c.self.view_is
