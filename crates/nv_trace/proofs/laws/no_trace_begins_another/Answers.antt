use Rattle.nv_trace.proofs.Whole.{prefix_free}
use Rattle.nv_trace.proofs.laws.no_trace_begins_another.Goals as goal

pub returns : goal.returns
returns c = prefix_free
