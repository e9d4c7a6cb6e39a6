use Rattle.std.proofs.Common.{◌≡◌, ℕ, ◌+◌, ◌∙◌, ◌++◌, ◌∷◌, [], length, drop, map, arith, sym, ap, Vec, Global}
use Rattle.nv_guest.specs.Block.{strings}
use Rattle.nv_memory.specs.Image.{Image}
use Rattle.nv_memory.specs.Bytes.{put}
use Rattle.nv_memory.proofs.RegionsLaws.{part_of}
use Rattle.nv_guest.proofs.Strings.{place_after, written_after}
use Rattle.nv_guest.proofs.block.write_strings.Goals as goal

pub write_string-requires-clause-fits : goal.write_string-requires-clause-fits
write_string-requires-clause-fits c =
    let f = λ (v : Vec ℕ Global). v.items in
    let p : c.loop-text.at + (length c.text-item.result.items + 1) + length (strings (drop (c.loop-text.text-index + 1) (map f c.args.arguments.now))) ≡ c.args.start + length (strings (map f c.args.arguments.now)) =
    place_after f c.args.arguments.now c.loop-text.text-index c.text-item.result c.args.start c.loop-text.at (omega arith) c.text-item.is c.loop-text.invariant.place in
    let e : length c.as_slice-bytes.result.now ≡ length c.text-item.result.items = ap length c.as_slice-bytes.ensures.value in
    omega (arith, p, c.requires.fits)

pub write_string-requires-clause-inside : goal.write_string-requires-clause-inside
write_string-requires-clause-inside c =
    let f = λ (v : Vec ℕ Global). v.items in
    let p : c.loop-text.at + (length c.text-item.result.items + 1) + length (strings (drop (c.loop-text.text-index + 1) (map f c.args.arguments.now))) ≡ c.args.start + length (strings (map f c.args.arguments.now)) =
    place_after f c.args.arguments.now c.loop-text.text-index c.text-item.result c.args.start c.loop-text.at (omega arith) c.text-item.is c.loop-text.invariant.place in
    let e : length c.as_slice-bytes.result.now ≡ length c.text-item.result.items = ap length c.as_slice-bytes.ensures.value in
    rw c.loop-text.invariant.same (part_of c.args.memory.now.regions c.args.start (length (strings (map f c.args.arguments.now))) c.loop-text.at (length c.as_slice-bytes.result.now + 1) c.requires.inside (omega (arith, c.loop-text.invariant.begun)) (omega (arith, p, e)))

pub overflow_cast-at : goal.overflow_cast-at
overflow_cast-at c =
    let f = λ (v : Vec ℕ Global). v.items in
    let p : c.loop-text.at + (length c.text-item.result.items + 1) + length (strings (drop (c.loop-text.text-index + 1) (map f c.args.arguments.now))) ≡ c.args.start + length (strings (map f c.args.arguments.now)) =
    place_after f c.args.arguments.now c.loop-text.text-index c.text-item.result c.args.start c.loop-text.at (omega arith) c.text-item.is c.loop-text.invariant.place in
    let e : length c.as_slice-bytes.result.now ≡ length c.text-item.result.items = ap length c.as_slice-bytes.ensures.value in
    record { fits = omega (arith, p, e, c.requires.fits) }

pub overflow_add-at : goal.overflow_add-at
overflow_add-at c =
    let f = λ (v : Vec ℕ Global). v.items in
    let p : c.loop-text.at + (length c.text-item.result.items + 1) + length (strings (drop (c.loop-text.text-index + 1) (map f c.args.arguments.now))) ≡ c.args.start + length (strings (map f c.args.arguments.now)) =
    place_after f c.args.arguments.now c.loop-text.text-index c.text-item.result c.args.start c.loop-text.at (omega arith) c.text-item.is c.loop-text.invariant.place in
    let e : length c.as_slice-bytes.result.now ≡ length c.text-item.result.items = ap length c.as_slice-bytes.ensures.value in
    record { fits = omega (arith, p, e, c.requires.fits) }

pub overflow_add-at-in-loop-text : goal.overflow_add-at-in-loop-text
overflow_add-at-in-loop-text c =
    let f = λ (v : Vec ℕ Global). v.items in
    let p : c.loop-text.at + (length c.text-item.result.items + 1) + length (strings (drop (c.loop-text.text-index + 1) (map f c.args.arguments.now))) ≡ c.args.start + length (strings (map f c.args.arguments.now)) =
    place_after f c.args.arguments.now c.loop-text.text-index c.text-item.result c.args.start c.loop-text.at (omega arith) c.text-item.is c.loop-text.invariant.place in
    let e : length c.as_slice-bytes.result.now ≡ length c.text-item.result.items = ap length c.as_slice-bytes.ensures.value in
    record { fits = omega (arith, p, e, c.requires.fits) }

pub loop-text-preserved : goal.loop-text-preserved
loop-text-preserved c =
    let f = λ (v : Vec ℕ Global). v.items in
    let p : c.loop-text.at + (length c.text-item.result.items + 1) + length (strings (drop (c.loop-text.text-index + 1) (map f c.args.arguments.now))) ≡ c.args.start + length (strings (map f c.args.arguments.now)) =
    place_after f c.args.arguments.now c.loop-text.text-index c.text-item.result c.args.start c.loop-text.at (omega arith) c.text-item.is c.loop-text.invariant.place in
    let e : length c.as_slice-bytes.result.now ≡ length c.text-item.result.items = ap length c.as_slice-bytes.ensures.value in
    record {
      begun = omega (arith, c.loop-text.invariant.begun);
      written =
          (let b : c.write_string.new.memory.bytes ≡ put c.loop-text.memory.bytes c.loop-text.at (c.as_slice-bytes.result.now ++ 0 ∷ []) = ap (λ (m : Image). m.bytes) c.write_string.ensures in
          rw (b, c.as_slice-bytes.ensures.value) (sym (written_after f c.args.arguments.now c.loop-text.text-index c.text-item.result c.loop-text.memory.bytes c.loop-text.at (omega arith) c.text-item.is) ∙ c.loop-text.invariant.written));
      same = ap (λ (m : Image). m.regions) c.write_string.ensures ∙ c.loop-text.invariant.same;
      place = rw e p;
    }
