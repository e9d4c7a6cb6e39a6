use Rattle.nv_memory.proofs.Decodings.{known_is, known_small}
use Rattle.nv_memory.proofs.memory.Memory.known.Goals as goal

pub returns-clause-insn : goal.returns-clause-insn
returns-clause-insn c =
    let now = c.self.inside in
    rw (← c.self.view_is) (known_is (λ r. r.now) now.decoded.start now.decoded.insns.items now.bytes.items now.regions.items c.args.address c.at.result c.self.invariant.1 c.requires c.ranges.address.fits c.at.ensures.insn)

pub returns-clause-registers : goal.returns-clause-registers
returns-clause-registers c =
    let now = c.self.inside in
    known_small (λ r. r.now) now.decoded.start now.decoded.insns.items now.bytes.items now.regions.items c.args.address c.at.result c.self.invariant.1 c.requires c.ranges.address.fits c.at.ensures.insn
