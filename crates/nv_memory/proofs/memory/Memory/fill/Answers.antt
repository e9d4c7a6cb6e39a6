use Rattle.std.proofs.Common.{◌+◌, ℕ, List, length, ap, ◌∙◌, sym, arith}
use Rattle.nv_memory.specs.Bytes.{put}
use Rattle.nv_memory.proofs.Decodings.{sound_as_written}
use Rattle.nv_memory.proofs.memory.Memory.fill.Goals as goal

pub invariant_of-self : goal.invariant_of-self
invariant_of-self c =
    let now = c.self.inside in
    let all = ap (λ (xs : List ℕ). length xs) (sym c.deref_mut.ensures.value) ∙ c.deref_mut.ensures.len in
    let written = c.write_all.ensures ∙ ap (λ (xs : List ℕ). put xs c.args.address c.args.bytes.now) c.deref_mut.ensures.value in
    sound_as_written now.decoded.start c.forget.new.self.start c.args.address (c.args.address + length c.args.bytes.now) now.bytes.len now.decoded.insns.items c.forget.new.self.insns.items now.bytes.items c.write_all.new.bytes c.args.bytes.now now.regions.items now.rights.parts.items c.self.invariant all written c.forget.ensures.start c.forget.ensures.length c.forget.ensures.remain (omega arith)
