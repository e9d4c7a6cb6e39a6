use Rattle.nv_workers.specs.Terms.{judges_of}
use Rattle.nv_workers.proofs.Rotating.{all_here, all_can, all_then}
use Rattle.nv_run_tests.proofs.scheduler.schedule.Goals as goal

pub loop-init : goal.loop-init
loop-init c = record { on = all_here (judges_of c.args.terms.now) c.args.room.now c.args.terms.now.most c.args.workers.now; can = c.requires.can }

pub loop-preserved : goal.loop-preserved
loop-preserved c =
    let i = c.loop.invariant in
    let on = c.turn_of-turn.ensures.on in record {
      on = all_then (judges_of c.args.terms.now) c.args.room.now c.args.terms.now.most c.args.workers.now c.loop.workers c.turn_of-turn.new.workers i.on on;
      can = all_can (judges_of c.args.terms.now) c.args.room.now c.args.terms.now.most c.loop.workers c.turn_of-turn.new.workers on i.can;
    }

pub returns-in_default-clause-on : goal.returns-in_default-clause-on
returns-in_default-clause-on c =
    all_then (judges_of c.args.terms.now) c.args.room.now c.args.terms.now.most c.args.workers.now c.loop.workers c.last_turns.new.workers c.loop.invariant.on c.last_turns.ensures.on
