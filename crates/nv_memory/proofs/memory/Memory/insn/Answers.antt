use Rattle.std.proofs.Common.{ap, ◌∙◌, sym, length-set}
use Rattle.nv_memory.specs.inner.Decoded.{place_of}
use Rattle.nv_memory.specs.Image.{Image, value_at}
use Rattle.nv_memory.specs.declared.region.Width.TheVariants.{Four}
use Rattle.nv_memory.specs.declared.region.Right.TheVariants.{Execute}
use Rattle.nv_memory.proofs.Decodings.{one_kept, read_is}
use Rattle.nv_memory.proofs.memory.Memory.insn.Goals as goal

pub invariant_of-self : goal.invariant_of-self
invariant_of-self c =
    let now = c.self.inside in
    let word = c.in_ok-fetch.ensures ∙ ap (λ (m : Image). value_at m c.args.address Four Execute) (sym c.self.view_is) in
    let is = read_is now.bytes.items now.regions.items c.args.address c.in_ok-fetch.field-0 c.in-Some.insn word c.in-Some.ensures.row c.in-Some.ensures.registers in
    rw (c.keep.ensures.start, c.keep.ensures.insns) (c.self.invariant.0, one_kept now.decoded.start now.decoded.insns.items now.bytes.items now.regions.items c.args.address c.in-Some.insn c.self.invariant.1 c.requires c.ranges.address.fits is, rw (length-set now.decoded.insns.items (place_of now.decoded.start c.args.address) c.in-Some.insn) c.self.invariant.2)
