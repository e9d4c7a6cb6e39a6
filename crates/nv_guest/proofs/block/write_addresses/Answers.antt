use Rattle.std.proofs.Common.{◌≡◌, ◌+◌, ◌*◌, ◌∙◌, sym, ap, length, drop, arith}
use Rattle.nv_memory.specs.Image.{Image}
use Rattle.nv_memory.proofs.RegionsLaws.{part_of}
use Rattle.nv_guest.specs.Block.{strings}
use Rattle.nv_guest.specs.Load.{texts_of}
use Rattle.nv_memory.specs.Bytes.{put, little_bytes}
use Rattle.nv_guest.proofs.Strings.{size_after, addresses_after, length-items}
use Rattle.nv_guest.proofs.block.write_addresses.Goals as goal

pub write_word-requires : goal.write_word-requires
write_word-requires c =
    rw c.loop-text.invariant.same (part_of c.args.memory.now.regions c.args.start (4 * length c.args.arguments.now) c.loop-text.at 4 c.requires.inside (omega (arith, c.loop-text.invariant.at)) (omega (arith, c.loop-text.invariant.at)))

pub overflow_cast-address : goal.overflow_cast-address
overflow_cast-address c =
    let xs = c.args.arguments.now in
    let size : c.len.result ≡ length c.text-item.result.items = c.len.ensures ∙ sym (length-items c.text-item.result) in
    let all : c.loop-text.address + (c.len.result + 1) + length (strings (drop (c.loop-text.text-index + 1) (texts_of xs))) ≡ c.args.first + length (strings (texts_of xs)) =
    size_after xs c.loop-text.text-index c.text-item.result c.len.result c.args.first c.loop-text.address (omega arith) c.text-item.is size c.loop-text.invariant.place in
    record { fits = omega (arith, all, c.requires.strings) }

pub overflow_add-address : goal.overflow_add-address
overflow_add-address c =
    let xs = c.args.arguments.now in
    let size : c.len.result ≡ length c.text-item.result.items = c.len.ensures ∙ sym (length-items c.text-item.result) in
    let all : c.loop-text.address + (c.len.result + 1) + length (strings (drop (c.loop-text.text-index + 1) (texts_of xs))) ≡ c.args.first + length (strings (texts_of xs)) =
    size_after xs c.loop-text.text-index c.text-item.result c.len.result c.args.first c.loop-text.address (omega arith) c.text-item.is size c.loop-text.invariant.place in
    record { fits = omega (arith, all, c.requires.strings) }

pub overflow_add-address-in-loop-text : goal.overflow_add-address-in-loop-text
overflow_add-address-in-loop-text c =
    let xs = c.args.arguments.now in
    let size : c.len.result ≡ length c.text-item.result.items = c.len.ensures ∙ sym (length-items c.text-item.result) in
    let all : c.loop-text.address + (c.len.result + 1) + length (strings (drop (c.loop-text.text-index + 1) (texts_of xs))) ≡ c.args.first + length (strings (texts_of xs)) =
    size_after xs c.loop-text.text-index c.text-item.result c.len.result c.args.first c.loop-text.address (omega arith) c.text-item.is size c.loop-text.invariant.place in
    record { fits = omega (arith, all, c.requires.strings) }

pub loop-text-preserved : goal.loop-text-preserved
loop-text-preserved c =
    let xs = c.args.arguments.now in
    let size : c.len.result ≡ length c.text-item.result.items = c.len.ensures ∙ sym (length-items c.text-item.result) in
    let all : c.loop-text.address + (c.len.result + 1) + length (strings (drop (c.loop-text.text-index + 1) (texts_of xs))) ≡ c.args.first + length (strings (texts_of xs)) =
    size_after xs c.loop-text.text-index c.text-item.result c.len.result c.args.first c.loop-text.address (omega arith) c.text-item.is size c.loop-text.invariant.place in
    record {
      at = omega (arith, c.loop-text.invariant.at);
      written =
          (let b : c.write_word.new.memory.bytes ≡ put c.loop-text.memory.bytes c.loop-text.at (little_bytes 4 c.loop-text.address) = ap (λ (m : Image). m.bytes) c.write_word.ensures in
          rw b (sym (addresses_after xs c.loop-text.text-index c.text-item.result c.len.result c.loop-text.memory.bytes c.loop-text.at c.loop-text.address (omega arith) c.text-item.is size) ∙ c.loop-text.invariant.written));
      same = ap (λ (m : Image). m.regions) c.write_word.ensures ∙ c.loop-text.invariant.same;
      place = all;
    }
