use Rattle.std.proofs.Common.{arith, ap, sym, subst, ◌∙◌, ◌≡◌, ◌++◌, ◌∷◌, [], ℕ, length}
use Rattle.nv_room.specs.Lanes.{lane_in}
use Rattle.nv_words.specs.Spelling.{low}
use Rattle.nv_room.specs.Logs.{lane}
use Rattle.nv_room.proofs.LogLaws.{lane_begun}
use Rattle.nv_room.specs.Trails.{Trails, IsSpot}
use Rattle.nv_room.proofs.Finds.{lane_first}
use Rattle.nv_room.proofs.room.Room.spot_of.Goals as goal

pub returns-then-i-gt0 : goal.returns-then-i-gt0
returns-then-i-gt0 g c = let l = c.args.lead.now in let o = c.requires.0 in let v = l.seat.me.0 in let q = c.requires.1 in
    subst (λ (z : ℕ). IsSpot z v.seen (lane (v.seen ++ (v.wrote ++ c.args.word ∷ []) ∷ []) (length v.seen)) l.spot) o.2
    (subst (λ (z : ℕ). IsSpot v.places v.seen z l.spot) (sym (lane_begun v.seen v.wrote (c.args.word ∷ []) (omega arith))) (l.spot_is (omega arith)))

pub returns : goal.returns
returns g c = let l = c.args.lead.now in let o = c.requires.0 in let v = l.seat.me.0 in let q = c.requires.1 in let none = c.if-i-gt0.false in
    let here : c.lane_of-lane.result ≡ lane (v.seen ++ (v.wrote ++ c.args.word ∷ []) ∷ []) (length v.seen) =
    c.lane_of-lane.ensures.is ∙ ap (λ t. lane_in t.holders (low c.args.word)) l.trail_is.lanes ∙ lane_first v.seen v.wrote c.args.word (omega arith) in
    subst (λ (z : ℕ). IsSpot c.args.self.now.places v.seen z c.spot.result) here (c.spot.ensures v.seen v.wrote (subst (λ (z : ℕ). Trails z l.trail v.seen v.wrote) o.2 l.trail_is))
