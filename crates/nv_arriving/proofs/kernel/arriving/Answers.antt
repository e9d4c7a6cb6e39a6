use denote.Exit.{no}
use denote.Param.Send.{param_send, arg_send}
use Rattle.std.proofs.Common.{sym, subst, []}
use Rattle.nv_arriving.specs.Kernel.{Coming}
use Rattle.nv_arriving.specs.Telling.{HasHanded}
use Rattle.nv_arriving.proofs.Sending.{guests_send}
use Rattle.nv_arriving.proofs.Standings.{hands_first}
use Rattle.nv_arriving.proofs.kernel.arriving.Goals as goal

pub over-requires-send-A : goal.over-requires-send-A
over-requires-send-A g c κs within = param_send 0 _ (arg_send _ no _ (guests_send _ g.O.Outside c.type_bounds.send-O))

pub returns-in-Ok-over-clause-handed : goal.returns-in-Ok-over-clause-handed
returns-in-Ok-over-clause-handed g c =
    let kernel = c.in-Ok-over.kernel in
    let made = c.from_side-guests.ensures.made in
    let begun = c.in-Ok-over.ensures.begun in
    subst (λ (a : Coming g.row.O.Denot). HasHanded g.O.Outside.did a.begun a.outside kernel.setup a.came kernel.log []) (sym begun.2)
    (hands_first g.O.Outside.did g.O.Outside.is_over c.from_side-guests.result c.args.outside kernel.setup kernel.log made.1 made.2 made.0 begun.0)
