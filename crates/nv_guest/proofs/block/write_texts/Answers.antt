use Rattle.std.proofs.Common.{◌+◌, ap, length, arith}
use Rattle.nv_memory.specs.Image.{Image}
use Rattle.nv_memory.proofs.RegionsLaws.{part_of}
use Rattle.nv_guest.specs.Block.{strings, all_arguments}
use Rattle.nv_guest.specs.Load.{texts_of}
use Rattle.nv_guest.proofs.block.write_texts.Goals as goal

pub fill-requires : goal.fill-requires
fill-requires c =
    part_of c.args.memory.now.regions c.args.start (length (strings (all_arguments (texts_of c.args.arguments.now)))) c.args.start 6 c.requires.inside (omega arith) (omega arith)

pub write_strings-requires-clause-inside : goal.write_strings-requires-clause-inside
write_strings-requires-clause-inside c =
    rw (ap (λ (m : Image). m.regions) c.fill.ensures) (part_of c.args.memory.now.regions c.args.start (length (strings (all_arguments (texts_of c.args.arguments.now)))) (c.args.start + 6) (length (strings (texts_of c.args.arguments.now))) c.requires.inside (omega arith) (omega arith))
