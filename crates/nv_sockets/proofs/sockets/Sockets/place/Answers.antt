use Rattle.std.proofs.Common.{◌≡◌, subst, false, length}
use Rattle.std.specs.Prelude.{slice_index}
use Rattle.nv_sockets.specs.Sockets.{is_going, link_output}
use Rattle.nv_sockets.specs.Reserved.{Buffered, is_there}
use Rattle.nv_sockets.specs.Views.{net_of, held_of}
use Rattle.nv_sockets.proofs.There.{none_there}
use Rattle.nv_sockets.proofs.Keeping.{not_going}
use Rattle.nv_sockets.proofs.Laid.{if_none}
use Rattle.nv_sockets.proofs.sockets.Sockets.place.Goals as goal

pub returns-clause-not_there : goal.returns-clause-not_there
returns-clause-not_there c = if_none c.place.result (λ h. subst (λ (z : Buffered). is_there z.held.there c.args.i ≡ false) c.self.view_is (none_there c.self.inside.connections.numbers c.args.i h)) c.place.ensures.gone

pub returns-clause-closed : goal.returns-clause-closed
returns-clause-closed c = if_none c.place.result (λ h.
    subst (λ (z : Buffered). is_going z.net c.args.i ≡ false) c.self.view_is
    (not_going (net_of c.self.inside) (held_of c.self.inside) c.args.i c.self.invariant.0 (none_there c.self.inside.connections.numbers c.args.i h))) c.place.ensures.gone

pub returns-clause-gone : goal.returns-clause-gone
returns-clause-gone c = if_none c.place.result (λ h.
    subst (λ (z : Buffered). slice_index z.held.gone c.args.i ≡ length (link_output z.net c.args.i)) c.self.view_is
    (c.self.invariant.0.gone c.args.i (none_there c.self.inside.connections.numbers c.args.i h))) c.place.ensures.gone
