use Rattle.nv_workers.proofs.Reading.{found_on, found_idle, found_let_go}
use Rattle.nv_workers.proofs.follows.begin_event.Goals as goal

pub let_go-requires : goal.let_go-requires
let_go-requires g c =
    let i = found_idle c.requires.found.2 in
    record { on = i.0; idle = i.1 }

pub returns-then-over-clause-after : goal.returns-then-over-clause-after
returns-then-over-clause-after g c = λ most p f. (f.of, found_let_go f c.let_go.new.self c.let_go.ensures (c.is_let_go-over.ensures c.if-over.true))

pub decide-requires-clause-follows : goal.decide-requires-clause-follows
decide-requires-clause-follows g c κs within =
    let r = c.requires.found in
    (r.0, r.1, found_on r.2)

pub returns-clause-after : goal.returns-clause-after
returns-clause-after g c = λ most p f. c.decide.ensures.after most p (found_on f)
