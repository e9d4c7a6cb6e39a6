use denote.Exit.{no}
use denote.Param.Send.{param_send, arg_send}
use Rattle.nv_run_tests.proofs.Rests.{gone_with}
use Rattle.nv_run_tests.proofs.Sending.{script_kernel_send}
use Rattle.nv_run_tests.proofs.scheduler.+last_turns.Goals as goal

pub turn-own-requires-send-K : goal.turn-own-requires-send-K
turn-own-requires-send-K t c κs = param_send 0 _ (arg_send _ no _ script_kernel_send)

pub returns-in-Done-clause-gone : goal.returns-in-Done-clause-gone
returns-in-Done-clause-gone t c = gone_with c.last_turns-rest.result c.turn-own.new.self c.last_turns-rest.new.workers c.in-Done.ensures.last c.last_turns-rest.ensures.gone
