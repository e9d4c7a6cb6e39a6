use denote.Exit.{no}
use denote.Param.Send.{param_send, arg_send}
use Rattle.nv_workers.specs.Terms.{judges_of}
use Rattle.nv_run_tests.proofs.Rests.{first_on, others_on}
use Rattle.nv_run_tests.proofs.Sending.{script_kernel_send}
use Rattle.nv_run_tests.proofs.scheduler.+turn_of.Goals as goal

pub turn-requires-send-K : goal.turn-requires-send-K
turn-requires-send-K t c κs = param_send 0 _ (arg_send _ no _ script_kernel_send)

pub returns-then-index-eq0 : goal.returns-then-index-eq0
returns-then-index-eq0 t c = record {
  on = first_on (judges_of c.args.terms.now) c.args.room.now c.args.terms.now.most c.args.workers.now c.in-Some.others.now c.in-Some.first.now c.turn.new.self c.in-Some.ensures.cases.0
      (record { works = c.turn.ensures.works; version = c.turn.ensures.version; steps = c.turn.ensures.steps });
}

pub returns : goal.returns
returns t c = record {
  on = others_on (judges_of c.args.terms.now) c.args.room.now c.args.terms.now.most c.args.workers.now c.in-Some.others.now c.turn_of.new.workers c.in-Some.first.now c.in-Some.ensures.cases.0
      c.turn_of.ensures.on;
}
