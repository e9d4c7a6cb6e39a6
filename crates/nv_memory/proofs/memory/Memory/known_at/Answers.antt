use Rattle.nv_memory.proofs.Decodings.{place_known, place_small}
use Rattle.nv_memory.proofs.memory.Memory.known_at.Goals as goal

pub returns-clause-insn : goal.returns-clause-insn
returns-clause-insn c =
    let now = c.self.inside in
    rw (← c.self.view_is) (place_known (λ r. r.now) now.decoded.start now.decoded.insns.items now.bytes.items now.regions.items c.args.place c.at_place.result c.self.invariant.1 c.at_place.ensures)

pub returns-clause-registers : goal.returns-clause-registers
returns-clause-registers c =
    let now = c.self.inside in
    place_small (λ r. r.now) now.decoded.start now.decoded.insns.items now.bytes.items now.regions.items c.args.place c.at_place.result c.self.invariant.1 c.at_place.ensures
