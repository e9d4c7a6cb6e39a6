use Rattle.std.proofs.Common.{◌+◌, ◌-◌, ◌*◌, ap, length, arith}
use Rattle.nv_memory.specs.Image.{Image}
use Rattle.nv_memory.proofs.RegionsLaws.{part_of}
use Rattle.nv_guest.specs.Block.{strings, all_arguments}
use Rattle.nv_guest.specs.Load.{texts_of}
use Rattle.nv_guest.proofs.block.write_block.Goals as goal

pub write_words-requires-clause-inside : goal.write_words-requires-clause-inside
write_words-requires-clause-inside c =
    part_of c.args.memory.now.regions c.args.block.pointer (c.args.block.start + length (strings (all_arguments (texts_of c.args.arguments.now))) - c.args.block.pointer) c.args.block.pointer (4 * (length c.args.arguments.now + 6)) c.requires.inside (omega arith) (omega (arith, c.requires.words))

pub write_texts-requires-clause-inside : goal.write_texts-requires-clause-inside
write_texts-requires-clause-inside c =
    rw (ap (λ (m : Image). m.regions) c.write_words.ensures)
    (part_of c.args.memory.now.regions c.args.block.pointer (c.args.block.start + length (strings (all_arguments (texts_of c.args.arguments.now))) - c.args.block.pointer) c.args.block.start (length (strings (all_arguments (texts_of c.args.arguments.now)))) c.requires.inside (omega (arith, c.requires.words)) (omega (arith, c.requires.words)))
