use Rattle.std.proofs.Common.{◌≡◌, take}
use Rattle.nv_script.specs.Views.{setup_of}
use Rattle.nv_inspect.proofs.kernels.kernel_after.Given as goal

abbrev pub invariant-loop-event : goal.invariant-loop-event
invariant-loop-event l = (l.earlier.log ≡ take l.event-index l.kernel.log) × (l.earlier.setup ≡ setup_of l.script)
