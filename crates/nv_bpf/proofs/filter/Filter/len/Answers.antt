use Rattle.std.proofs.Common.{arith}
use Rattle.nv_bpf.proofs.FilterLaws.{list_fault-none}
use Rattle.nv_bpf.proofs.filter.Filter.len.Goals as goal

pub overflow_cast-result : goal.overflow_cast-result
overflow_cast-result c = omega (arith, (list_fault-none _ _ c.self.invariant).few)
