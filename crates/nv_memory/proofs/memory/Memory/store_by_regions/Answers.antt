use Rattle.std.proofs.Common.{◌+◌, ◌≤◌, ℕ, List, length, ap, ◌∙◌, sym, arith}
use Rattle.nv_memory.specs.Bytes.{put, little_bytes, byte_count}
use Rattle.nv_memory.proofs.Apart.{length_little}
use Rattle.nv_memory.proofs.Decodings.{sound_as_written}
use Rattle.nv_memory.proofs.memory.Memory.store_by_regions.Goals as goal

pub invariant_of-self : goal.invariant_of-self
invariant_of-self c =
    let now = c.self.inside in
    let all = ap (λ (xs : List ℕ). length xs) (sym c.deref_mut.ensures.value) ∙ c.deref_mut.ensures.len in
    let written = c.write.ensures ∙ ap (λ (xs : List ℕ). put xs c.args.address (little_bytes (byte_count c.args.width) c.args.value)) c.deref_mut.ensures.value in
    let far : c.args.address + length (little_bytes (byte_count c.args.width) c.args.value) ≤ c.args.address + c.count-then-is_held.result = omega (arith, length_little (byte_count c.args.width) c.args.value, c.count-then-is_held.ensures) in
    sound_as_written now.decoded.start c.forget.new.self.start c.args.address (c.args.address + c.count-then-is_held.result) now.bytes.len now.decoded.insns.items c.forget.new.self.insns.items now.bytes.items c.write.new.bytes (little_bytes (byte_count c.args.width) c.args.value) now.regions.items now.rights.parts.items c.self.invariant all written c.forget.ensures.start c.forget.ensures.length c.forget.ensures.remain far
