use Rattle.std.proofs.Common.{◌≡◌, ℕ, ◌+◌, ◌*◌, ◌∙◌, List, ap, length, arith, replicate}
use Rattle.std.proofs.lemmas.List.{length-map}
use Rattle.std.proofs.Common.{Vec, Global}
use Rattle.nv_memory.specs.Bytes.{put, little_bytes}
use Rattle.nv_memory.specs.Image.{Image}
use Rattle.nv_memory.proofs.RegionsLaws.{part_of}
use Rattle.nv_guest.specs.Block.{words, addresses}
use Rattle.nv_guest.specs.Load.{texts_of}
use Rattle.nv_guest.proofs.Strings.{four_parts, stack_parts, length-words, length-addresses}
use Rattle.nv_guest.proofs.block.write_words.Goals as goal

pub write_word-requires : goal.write_word-requires
write_word-requires c =
    part_of c.args.memory.now.regions c.args.pointer (4 * (length c.args.arguments.now + 6)) c.args.pointer 4 c.requires.inside (omega arith) (omega arith)

pub write_word-requires-2 : goal.write_word-requires-2
write_word-requires-2 c =
    rw (ap (λ (m : Image). m.regions) c.write_word.ensures)
    (part_of c.args.memory.now.regions c.args.pointer (4 * (length c.args.arguments.now + 6)) (c.args.pointer + 4) 4 c.requires.inside (omega arith) (omega arith))

pub write_addresses-requires-clause-inside : goal.write_addresses-requires-clause-inside
write_addresses-requires-clause-inside c =
    rw (ap (λ (m : Image). m.regions) c.write_word-2.ensures, ap (λ (m : Image). m.regions) c.write_word.ensures)
    (part_of c.args.memory.now.regions c.args.pointer (4 * (length c.args.arguments.now + 6)) (c.args.pointer + 8) (4 * length c.args.arguments.now) c.requires.inside (omega arith) (omega arith))

pub fill-requires : goal.fill-requires
fill-requires c =
    rw (ap (λ (m : Image). m.regions) c.write_addresses.ensures, ap (λ (m : Image). m.regions) c.write_word-2.ensures, ap (λ (m : Image). m.regions) c.write_word.ensures)
    (part_of c.args.memory.now.regions c.args.pointer (4 * (length c.args.arguments.now + 6)) (c.args.pointer + 8 + 4 * length c.args.arguments.now) 16 c.requires.inside (omega arith) (omega arith))

pub returns : goal.returns
returns c =
    let m : Image = c.args.memory.now in
    let k : ℕ = length c.args.arguments.now in
    let p : ℕ = c.args.pointer in
    let ts = texts_of c.args.arguments.now in
    let put_at : ℕ → List ℕ → Image → Image = λ a bs (i : Image). record i { bytes = put i.bytes a bs } in
    let all : length ts ≡ k = length-map c.args.arguments.now (λ (v : Vec ℕ Global). v.items) in
    let count : length (words (addresses (c.args.start + 6) ts)) ≡ 4 * k = length-words (addresses (c.args.start + 6) ts) ∙ ap (λ (n : ℕ). 4 * n) (length-addresses (c.args.start + 6) ts ∙ all) in
    c.fill.ensures
    ∙ ap (put_at (p + 8 + 4 * k) (replicate 16 0)) (c.write_addresses.ensures ∙ ap (put_at (p + 8) (words (addresses (c.args.start + 6) ts))) (c.write_word-2.ensures ∙ ap (put_at (p + 4) (little_bytes 4 c.args.start)) c.write_word.ensures))
    ∙ ap (λ (bs : List ℕ). record m { bytes = bs })
    (four_parts m.bytes p (p + 4) (p + 8) (p + 8 + 4 * k) (little_bytes 4 (k + 1)) (little_bytes 4 c.args.start) (words (addresses (c.args.start + 6) ts)) (replicate 16 0) (omega arith) (omega arith) (omega arith)
    ∙ ap (λ (bs : List ℕ). put m.bytes p bs) (stack_parts k c.args.start ts all))
