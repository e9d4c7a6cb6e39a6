use Rattle.nv_workers.specs.Terms.{judges_of}
use Rattle.nv_workers.proofs.Rotating.{all_here, all_can, all_then}
use Rattle.nv_workers.proofs.running.rotate.Goals as goal

pub loop-init : goal.loop-init
loop-init g c = record { on = all_here (judges_of c.args.terms.now) c.args.room.now c.args.terms.now.most c.args.workers.now; can = c.requires.can }

pub returns-in-Done-clause-on : goal.returns-in-Done-clause-on
returns-in-Done-clause-on g c =
    all_then (judges_of c.args.terms.now) c.args.room.now c.args.terms.now.most c.args.workers.now c.loop.workers c.round.new.workers c.loop.invariant.on c.in-Done.ensures.on

pub loop-preserved-in-Moved : goal.loop-preserved-in-Moved
loop-preserved-in-Moved g c =
    let i = c.loop.invariant in
    let on = c.round.ensures.on in record {
      on = all_then (judges_of c.args.terms.now) c.args.room.now c.args.terms.now.most c.args.workers.now c.loop.workers c.round.new.workers i.on on;
      can = all_can (judges_of c.args.terms.now) c.args.room.now c.args.terms.now.most c.loop.workers c.round.new.workers on i.can;
    }

pub loop-preserved : goal.loop-preserved
loop-preserved g c =
    let i = c.loop.invariant in
    let on = c.in-Waiting.ensures.on in record {
      on = all_then (judges_of c.args.terms.now) c.args.room.now c.args.terms.now.most c.args.workers.now c.loop.workers c.round.new.workers i.on on;
      can = all_can (judges_of c.args.terms.now) c.args.room.now c.args.terms.now.most c.loop.workers c.round.new.workers on i.can;
    }
