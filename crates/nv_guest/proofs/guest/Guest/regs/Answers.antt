use Rattle.std.proofs.Common.{sym}
use Rattle.nv_guest.specs.declared.guest.Thread.{Thread}
use Rattle.nv_guest.proofs.Places.{place_inside, at_place}
use Rattle.nv_guest.proofs.Staying.{lives_in}
use Rattle.nv_guest.proofs.guest.Guest.regs.Goals as goal

pub returns : goal.returns
returns c =
    let d : Thread = c.index-deref-place.result in
    let xs = c.self.inside.threads.items in
    let inside = place_inside xs c.args.tid (lives_in _ _ c.args.tid c.self.view_is c.requires) in
    rw (sym c.self.view_is, c.deref.ensures.0, c.place.ensures.place, c.deref-2.ensures.0) (at_place xs c.args.tid d inside)
