use Rattle.std.specs.Prelude.{Bool, true, not}
use Rattle.std.proofs.Common.{arith, ap, sym, subst, inl, ◌≡◌, ◌∙◌, ◌+◌, ◌<◌, List, [], ◌∷◌, ℕ, length, length-append}
use mathlib.Core.Option.{some}
use lib.ListN.{get_elem?}
use Rattle.nv_calls.specs.Hands.{has, with_hand}
use Rattle.nv_room.specs.Room.{Became}
use Rattle.nv_room.specs.Seats.{lead_view, kernel_of, hands_of, origin}
use Rattle.nv_room.proofs.Askings.{asked_on}
use Rattle.nv_room.specs.Spans.{span, spans_grown}
use Rattle.nv_room_tests.proofs.handing.first_hands.Goals as goal

pub hand-reader-requires-clause-led : goal.hand-reader-requires-clause-led
hand-reader-requires-clause-led g c κs within =
    let is = c.publish.ensures.spans ∙ ap spans_grown (c.place.ensures.spans ∙ ap (λ w. w.spans) c.reserve.ensures.view ∙ c.requires.lead.0.spans) in
    ([], record (span 0 0 0 0) { to = 0 + 1 }, is, (omega arith))

-- nothing was asked for, and head is 1, which is planned
pub hand-reader-requires-clause-asked : goal.hand-reader-requires-clause-asked
hand-reader-requires-clause-asked g c κs within =
    let room = c.args.room.now in
    let fresh : (lead_view c.place.new.lead).seen ≡ [] = c.place.ensures.seen ∙ (ap (λ w. w.seen) c.reserve.ensures.view ∙ c.requires.lead.0.seen) in
    let one : length (lead_view c.publish.new.lead).seen ≡ 1 =
    omega (arith, ap (λ (x : List (List ℕ)). length x) c.publish.ensures.seen, length-append {A = List ℕ}, ap (λ (x : List (List ℕ)). length x) fresh) in
    let planned : has (hands_of room) (length (lead_view c.publish.new.lead).seen) ≡ true = (λ i. has (c.requires.planned i) (one i)) in
    let r = c.reserve.ensures in
    let p = c.place.ensures in
    let u = c.publish.ensures in
    let first = asked_on room c.args.lead c.reserve.new.self r.same r.start r.handed c.requires.lead.0.asked in
    let second = asked_on room c.reserve.new.self c.place.new.lead p.same (ap g.K.SyscallKernel.start p.kernel) (λ lengths h. subst (λ k. g.K.SyscallKernel.handed k lengths) (sym p.kernel) h) first in
    let third = asked_on room c.place.new.lead c.publish.new.lead u.same u.start u.handed second in
    subst (λ (b : Bool). Became g.K.SyscallKernel.start g.K.SyscallKernel.handed (origin room) (kernel_of c.publish.new.lead) (with_hand (not b) (length (lead_view c.publish.new.lead).seen) (lead_view c.publish.new.lead).asked)) (sym planned) third

-- head is 1, which is planned
pub hand-reader-requires-clause-may : goal.hand-reader-requires-clause-may
hand-reader-requires-clause-may g c κs within =
    let fresh : (lead_view c.place.new.lead).seen ≡ [] = c.place.ensures.seen ∙ (ap (λ w. w.seen) c.reserve.ensures.view ∙ c.requires.lead.0.seen) in
    let one : length (lead_view c.publish.new.lead).seen ≡ 1 =
    omega (arith, ap (λ (x : List (List ℕ)). length x) c.publish.ensures.seen, length-append {A = List ℕ}, ap (λ (x : List (List ℕ)). length x) fresh) in
    inl (0, ap (λ (ns : List ℕ). get_elem? ns 0) c.requires.planned ∙ ap (λ (n : ℕ). some n) (sym one))
