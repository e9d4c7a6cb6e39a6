use Rattle.std.proofs.Common.{◌≡◌, ◌∙◌, sym, ap, subst, ◌∷◌, ◌++◌, [], length, arith}
use Rattle.nv_workers.specs.Staffing.{StaffsAnew}
use Rattle.nv_workers.proofs.NewSeats.{none_is, prefix_length, prefix_readers, fresh_reader, prefix_seats, reader_seat, versions_prefix, version_last, staffs_one, staffs_more}
use Rattle.nv_workers.proofs.staffing.+staff_with.Goals as goal

pub leading-requires-clause-fresh : goal.leading-requires-clause-fresh
leading-requires-clause-fresh g t c κs within =
    let none = none_is _ _ _ c.pop-2.ensures.cases c.in_default-pop.not-Some in
    let n = none.0 in
    let ok = c.args.readers.ok.0 in
    let f = prefix_length c.pop.new.self.items c.args.versions.items c.in-Some.version (length c.args.readers.items) c.in-Some.ensures.items c.requires.each in
    version_last c.pop.new.self.items c.args.versions.items c.in-Some.version 0 c.in-Some.ensures.items (omega (arith, n, ok, f)) c.requires.fresh

pub returns-in_default-pop-clause-new : goal.returns-in_default-pop-clause-new
returns-in_default-pop-clause-new g t c =
    let none = none_is _ _ _ c.pop-2.ensures.cases c.in_default-pop.not-Some in
    let n = none.0 in
    let ok = c.args.readers.ok.0 in
    let f = prefix_length c.pop.new.self.items c.args.versions.items c.in-Some.version (length c.args.readers.items) c.in-Some.ensures.items c.requires.each in
    let e : c.push_reserved.new.self.items ≡ c.leading.result ∷ [] = c.push_reserved.ensures.items ∙ ap (λ ws. ws ++ c.leading.result ∷ []) c.requires.empty in
    subst (λ ws. StaffsAnew c.args.versions.items c.args.readers.items c.args.lead ws) (sym e)
    (staffs_one c.pop.new.self.items c.args.versions.items c.in-Some.version c.args.lead c.leading.result c.args.readers.items c.in-Some.ensures.items (omega (arith, n, ok, f)) c.leading.ensures)

pub staff_with-workers-requires-clause-fresh : goal.staff_with-workers-requires-clause-fresh
staff_with-workers-requires-clause-fresh g t c κs within =
    versions_prefix c.pop.new.self.items c.args.versions.items c.in-Some.version c.in-Some.ensures.items c.requires.fresh

pub staff_with-workers-requires-clause-seats : goal.staff_with-workers-requires-clause-seats
staff_with-workers-requires-clause-seats g t c κs within =
    prefix_seats c.pop-2.new.self.items c.args.readers.items c.in-Some-pop.reader c.args.lead c.in-Some-pop.ensures.items c.requires.seats

pub reading-requires-clause-fresh : goal.reading-requires-clause-fresh
reading-requires-clause-fresh g t c κs within =
    fresh_reader c.pop.new.self.items c.args.versions.items c.in-Some.version c.pop-2.new.self.items c.args.readers.items c.in-Some-pop.reader c.args.lead
    c.in-Some.ensures.items c.in-Some-pop.ensures.items c.requires.each c.requires.seats c.requires.fresh

pub reading-requires-clause-seat : goal.reading-requires-clause-seat
reading-requires-clause-seat g t c κs within =
    reader_seat c.pop-2.new.self.items c.args.readers.items c.in-Some-pop.reader c.args.lead c.in-Some-pop.ensures.items c.requires.seats

pub returns-clause-new : goal.returns-clause-new
returns-clause-new g t c =
    let e : c.push_reserved-2.new.self.items ≡ c.staff_with-workers.result.items ++ c.reading.result ∷ [] = c.push_reserved-2.ensures.items in
    subst (λ ws. StaffsAnew c.args.versions.items c.args.readers.items c.args.lead ws) (sym e)
    (staffs_more c.pop.new.self.items c.args.versions.items c.in-Some.version c.pop-2.new.self.items c.args.readers.items c.in-Some-pop.reader c.args.lead
    c.staff_with-workers.result.items c.reading.result c.in-Some.ensures.items c.in-Some-pop.ensures.items
    (prefix_readers c.pop.new.self.items c.args.versions.items c.in-Some.version c.pop-2.new.self.items c.args.readers.items c.in-Some-pop.reader c.in-Some.ensures.items c.in-Some-pop.ensures.items c.requires.each)
    c.staff_with-workers.ensures.new c.reading.ensures)
