use Rattle.nv_bpf.proofs.FilterLaws.{list_fault-read}
use Rattle.nv_bpf.proofs.filter.Filter.at.Goals as goal

pub returns-clause-sound : goal.returns-clause-sound
returns-clause-sound c =
    let within = rw (← c.self.view_is) at c.requires in
    rw (← c.self.view_is) (list_fault-read _ c.args.i c.self.inside.ops.items _ c.self.invariant within c.index.ensures)
