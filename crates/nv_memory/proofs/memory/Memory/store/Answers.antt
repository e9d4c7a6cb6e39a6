use Rattle.std.proofs.Common.{◌≡◌, true, ℕ, List, ◌+◌, ◌*◌, length, refl, ap, ◌∙◌, sym}
use Rattle.nv_memory.specs.declared.region.Right.TheVariants.{Write}
use Rattle.nv_memory.specs.Bytes.{put, little_bytes, byte_count}
use Rattle.nv_memory.specs.Region.{holds}
use Rattle.nv_memory.specs.Image.{Image}
use Rattle.nv_memory.proofs.Apart.{length_little}
use Rattle.nv_memory.proofs.Parts.{write_held}
use Rattle.nv_memory.proofs.Decodings.{sound_in_part, stored_in_part}
use Rattle.nv_memory.proofs.memory.Memory.store.Goals as goal

pub invariant_of-self : goal.invariant_of-self
invariant_of-self c =
    let now = c.self.inside in
    let all = ap (λ (xs : List ℕ). length xs) (sym c.deref_mut.ensures.value) ∙ c.deref_mut.ensures.len in
    let written = c.write.ensures ∙ ap (λ (xs : List ℕ). put xs c.args.address (little_bytes (byte_count c.args.width) c.args.value)) c.deref_mut.ensures.value in
    sound_in_part now.decoded.start c.args.address c.count.result now.bytes.len now.decoded.insns.items now.bytes.items c.write.new.bytes (little_bytes (byte_count c.args.width) c.args.value) now.regions.items now.rights.parts.items c.self.invariant (sym c.writes.ensures ∙ c.if-writes.true) (length_little (byte_count c.args.width) c.args.value ∙ sym c.count.ensures) all written

pub returns-then-writes-clause-answer : goal.returns-then-writes-clause-answer
returns-then-writes-clause-answer c =
    let now = c.self.inside in
    let held = write_held now.regions.items now.decoded.start (now.decoded.start + 4 * length now.decoded.insns.items) now.rights.parts.items c.args.address c.count.result c.self.invariant.2 (sym c.writes.ensures ∙ c.if-writes.true) in
    let is : holds c.args.self.now.regions c.args.address (byte_count c.args.width) Write ≡ true = ap (λ (m : Image). holds m.regions c.args.address (byte_count c.args.width) Write) (sym c.self.view_is) ∙ ap (λ (n : ℕ). holds c.self.inside.regions.items c.args.address n Write) (sym c.count.ensures) ∙ held in
    rw is refl

pub returns-then-writes-clause-after : goal.returns-then-writes-clause-after
returns-then-writes-clause-after c =
    let now = c.self.inside in
    let all = ap (λ (xs : List ℕ). length xs) (sym c.deref_mut.ensures.value) ∙ c.deref_mut.ensures.len in
    let written = c.write.ensures ∙ ap (λ (xs : List ℕ). put xs c.args.address (little_bytes (byte_count c.args.width) c.args.value)) c.deref_mut.ensures.value in
    let held = write_held now.regions.items now.decoded.start (now.decoded.start + 4 * length now.decoded.insns.items) now.rights.parts.items c.args.address c.count.result c.self.invariant.2 (sym c.writes.ensures ∙ c.if-writes.true) in
    let is : holds c.self.inside.regions.items c.args.address (length (little_bytes (byte_count c.args.width) c.args.value)) Write ≡ true = ap (λ (n : ℕ). holds c.self.inside.regions.items c.args.address n Write) (length_little (byte_count c.args.width) c.args.value ∙ sym c.count.ensures) ∙ held in
    stored_in_part c.args.address now.bytes.len now.bytes.items c.write.new.bytes (little_bytes (byte_count c.args.width) c.args.value) now.regions.items c.args.self.now c.self.view_is all written is
