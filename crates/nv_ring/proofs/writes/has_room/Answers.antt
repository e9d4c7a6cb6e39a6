use Rattle.std.proofs.Common.{◌≡◌, true, false, sym, ◌∙◌, lt_of_not-le, arith}
use Rattle.nv_room.specs.Seats.{lead_view, places_of}
use Rattle.nv_ring.proofs.Filling.{all_fit, is_full}
use Rattle.nv_ring.proofs.writes.has_room.Goals as goal

pub returns-clause-fits : goal.returns-clause-fits
returns-clause-fits g c = λ t. let k = c.min-kept.ensures in let s = c.seen-seen.ensures.count in let p = c.places.ensures.value in let near = c.if-seen-kept.false in let o = c.requires.2 in let few = c.fits.ensures.0 t in
    all_fit (places_of c.args.room.now) (lead_view c.args.lead.now).seen c.args.from c.min-kept.result (omega arith) (omega arith) (omega arith)

pub returns-clause-full : goal.returns-clause-full
returns-clause-full g c = λ f. let k = c.min-kept.ensures in let s = c.seen-seen.ensures.count in let o = c.requires.2 in
    let more = lt_of_not-le (λ le. let q : true ≡ false = sym (c.fits.ensures.1 le) ∙ f in cc) in
    is_full (places_of c.args.room.now) (lead_view c.args.lead.now).seen c.args.from c.min-kept.result (omega arith) (omega arith)
