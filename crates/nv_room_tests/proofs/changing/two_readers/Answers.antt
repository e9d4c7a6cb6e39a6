use Rattle.std.proofs.Common.{◌≡◌, ◌∙◌, ◌++◌, [], ◌∷◌, ap, length, length-append, arith}
use Rattle.nv_room_tests.proofs.Orders.{fresh_less}
use Rattle.nv_room_tests.proofs.changing.two_readers.Goals as goal

pub returns : goal.returns
returns g c =
    let room = c.args.room.now in
    let all = c.args.readers.items in
    let some = c.pop.new.self.items in
    let few = c.pop-2.new.self.items in
    let is : all ≡ some ++ c.in_ok-third.third ∷ [] = c.in_ok-third.ensures.items in
    let is' : some ≡ few ++ c.in_ok-second.second ∷ [] = c.in_ok-second.ensures.items in
    let a = fresh_less room all some c.in_ok-third.third is c.requires.0 in
    let b = fresh_less room some few c.in_ok-second.second is' a.0 in
    let two = c.requires.1 in
    let long = ap length is ∙ length-append some (c.in_ok-third.third ∷ []) in
    let long' = ap length is' ∙ length-append few (c.in_ok-second.second ∷ []) in
    let version = a.1.2 in
    let station' = b.1.2 in
    ((b.1.0, ap (λ v. v.read) b.1.3), (a.1.0, ap (λ v. v.read) a.1.3), (omega arith), (omega arith))
