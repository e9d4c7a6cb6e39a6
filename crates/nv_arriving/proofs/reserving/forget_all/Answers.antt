use Rattle.std.proofs.Common.{◌∙◌, ap, refl}
use Rattle.nv_sockets.specs.Reserved.{Buffered}
use Rattle.nv_arriving.proofs.reserving.forget_all.Goals as goal

pub loop-arrival-init : goal.loop-arrival-init
loop-arrival-init c = refl

pub loop-arrival-preserved : goal.loop-arrival-preserved
loop-arrival-preserved c = c.forget.ensures ∙ ap (λ (z : Buffered). record z { promised = c.forget.new.sockets.promised }) c.loop-arrival.invariant
