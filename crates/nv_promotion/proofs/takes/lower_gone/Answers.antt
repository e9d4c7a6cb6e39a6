use Rattle.std.proofs.Common.{ℕ, arith, rules}
use Rattle.nv_room.specs.Kinds.{looks_cursor}
use Rattle.nv_room.proofs.OwnerLaws.{marks_all}
use Rattle.nv_room.specs.Seats.{cursor_word, stations_of, view}
use Rattle.nv_room.proofs.Stepped.{one_step, more_steps}
use Rattle.nv_promotion.proofs.takes.lower_gone.Goals as goal

pub returns-clause-lower : goal.returns-clause-lower
returns-clause-lower g c = let i = c.loop-station.invariant in let own = c.station-own.ensures in let over = c.loop-station-test.false in let o = i.of in let same = i.same.2 in
    marks_all _ (view c.loop-station.reader).floors (let a = o.1 in let b = o.3 in omega arith) (λ s l. i.gone s (omega arith))

pub returns-in-At-clause-steps : goal.returns-in-At-clause-steps
returns-in-At-clause-steps g c = let n : ℕ = stations_of c.args.room.now in let mid = view c.loop-station.reader in let new = view c.reader_looks.new.reader in
    more_steps n (view c.args.reader.now) mid new c.loop-station.invariant.steps (one_step n mid new (looks_cursor c.loop-station.station (cursor_word c.reader_looks.result)) c.reader_looks.ensures.view)

pub loop-station-preserved : goal.loop-station-preserved
loop-station-preserved g c = let i = c.loop-station.invariant in let e = c.reader_looks.ensures in let n : ℕ = stations_of c.args.room.now in let mid = view c.loop-station.reader in let new = view c.reader_looks.new.reader in record {
  of = e.of;
  same = search rules;
  kept = search rules;
  steps = more_steps n (view c.args.reader.now) mid new i.steps (one_step n mid new (looks_cursor c.loop-station.station (cursor_word c.reader_looks.result)) e.view);
  looks = search rules;
  gone = search rules;
}
