use Rattle.std.proofs.Common.{◌≡◌, ℕ, List, ◌+◌, ◌*◌, ◌/◌, length, ap, ◌∙◌}
use Rattle.std.proofs.lemmas.List.{length-replicate}
use Rattle.nv_memory.specs.declared.region.Region.{Region}
use Rattle.nv_memory.specs.Code.{code_start}
use Rattle.nv_memory.proofs.Decodings.{none_kept}
use Rattle.nv_memory.proofs.Parts.{parts_made}
use Rattle.nv_memory.proofs.memory.Memory.make.Goals as goal

pub invariant_of-result : goal.invariant_of-result
invariant_of-result c =
    let decoded = c.in_ok-decoded.decoded in
    let parts = c.in_ok-rights.rights.parts.items in
    let looked = rw (c.deref-2.ensures.value, c.stop.ensures) at c.look.ensures.looked in
    let all : length c.in_ok-bytes.bytes.items ≡ c.args.size = ap (λ (xs : List ℕ). length xs) (c.in_ok-bytes.ensures.items_if_clones_equal (λ x e. e)) ∙ length-replicate {A = ℕ} c.args.size 0 in (
      rw all c.requires,
      none_kept decoded.start decoded.insns.items c.in_ok-bytes.bytes.items c.args.regions.items (c.in_ok-decoded.ensures.begins ∙ ap (λ (rs : List Region). code_start rs) c.deref.ensures.value) c.in_ok-decoded.ensures.aligned c.in_ok-decoded.ensures.fits c.in_ok-decoded.ensures.none,
      parts_made c.args.regions.items decoded.start (decoded.start + 4 * length decoded.insns.items) 0 (c.args.size / 256 + 1) parts c.look.new.self.parts.items c.in_ok-rights.ensures.few c.in_ok-rights.ensures.none c.look.ensures.length looked,
    )
