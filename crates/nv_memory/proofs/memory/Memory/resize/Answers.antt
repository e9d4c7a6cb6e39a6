use Rattle.std.proofs.Common.{◌≡◌, min, max, ◌+◌, ◌*◌, ◌/◌, ℕ, List, length, ap, ◌∙◌, sym, subst}
use Rattle.nv_memory.specs.declared.region.Region.{Region}
use Rattle.nv_memory.specs.Image.{Image, cut}
use Rattle.nv_memory.specs.Region.{AreRegions, end_of, set_end}
use Rattle.nv_memory.proofs.Parts.{looked_by_one}
use Rattle.nv_memory.proofs.Decodings.{sound_as_resized, written_back}
use Rattle.nv_memory.proofs.memory.Memory.resize.Goals as goal

pub invariant_of-self : goal.invariant_of-self
invariant_of-self c =
    let now = c.self.inside in
    let was : c.end_at-before.result ≡ end_of c.self.inside.regions.items c.args.region = c.end_at-before.ensures ∙ ap (λ (rs : List Region). end_of rs c.args.region) c.deref.ensures.value in
    let are = subst (λ (m : Image). AreRegions (length m.bytes) (set_end m.regions c.args.region c.args.end)) (sym c.self.view_is) c.requires.fits in
    let bytes_all = ap (λ (xs : List ℕ). length xs) (sym c.deref_mut.ensures.value) ∙ c.deref_mut.ensures.len in
    let regions_all = ap (λ (xs : List Region). length xs) (sym c.deref_mut-2.ensures.value) ∙ c.deref_mut-2.ensures.len in
    let bytes_cut = c.cut.ensures ∙ ap (λ (xs : List ℕ). cut xs c.end_at-before.result c.args.end) c.deref_mut.ensures.value ∙ ap (λ (n : ℕ). cut c.self.inside.bytes.items n c.args.end) was in
    let moved = c.move_end.ensures ∙ ap (λ (xs : List Region). set_end xs c.args.region c.args.end) c.deref_mut-2.ensures.value in
    let moved_all = c.move_end.auto.regions ∙ c.deref_mut-2.ensures.len in
    let regions_are = written_back now.regions.items c.move_end.new.regions now.regions.len regions_all moved_all ∙ moved in
    let left = rw (c.min.ensures, c.max.ensures, was) at c.forget.ensures.remain in
    let one = rw (c.deref-2.ensures.value, regions_are) at c.region_at-moved.ensures in
    let by_one = rw (c.stop-stop.ensures, c.forget.ensures.start, c.forget.ensures.length, c.min.ensures, c.max.ensures, was) at c.look.ensures.looked in
    let low = min (end_of now.regions.items c.args.region) c.args.end in
    let high = max (end_of now.regions.items c.args.region) c.args.end in
    let looked = looked_by_one (set_end now.regions.items c.args.region c.args.end) c.region_at-moved.result now.decoded.start (now.decoded.start + 4 * length now.decoded.insns.items) (low / 256) (high / 256 + 1) now.rights.parts.items c.look.new.self.parts.items one by_one in
    sound_as_resized now.decoded.start c.forget.new.self.start c.args.region c.args.end now.bytes.len now.regions.len now.decoded.insns.items c.forget.new.self.insns.items now.bytes.items c.cut.new.bytes now.regions.items c.move_end.new.regions now.rights.parts.items c.look.new.self.parts.items c.self.invariant are bytes_all bytes_cut regions_all moved_all moved c.forget.ensures.start c.forget.ensures.length left c.look.ensures.length looked
