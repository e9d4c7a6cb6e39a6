use Rattle.std.proofs.Common.{arith, ap, ◌≡◌, ◌+◌, [], ◌∷◌, length, length-append}
use Rattle.nv_room_tests.proofs.Orders.{fresh_less}
use Rattle.nv_room_tests.proofs.handing.one_reader.Goals as goal

pub returns : goal.returns
returns g c =
    let rest = c.pop.new.self.items in
    let reader = c.in_ok-reader.reader in
    let is = c.in_ok-reader.ensures.items in
    let a = fresh_less c.args.room.now c.args.readers.items rest reader is c.requires.0 in
    let version = a.1.2 in
    let long = ap length is in
    let more = length-append rest (reader ∷ []) in
    let one = c.requires.1 in
    ((a.1.0, ap (λ v. v.read) a.1.3), (omega arith))
