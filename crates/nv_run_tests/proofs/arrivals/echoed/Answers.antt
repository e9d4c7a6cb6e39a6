use denote.Exit.{no}
use denote.Param.Send.{param_send, arg_send}
use Rattle.nv_run_tests.proofs.arrivals.Pairs.TheSendSync.{the_send}
use Rattle.nv_run_tests.specs.contracts.arrivals.Pairs as Pairs
use Rattle.nv_run_tests.specs.contracts.arrivals.PairsOutside.TheImpl as PairsOutside
use Rattle.nv_run_tests.proofs.Sending.{kept_kernel_send}
use Rattle.nv_run_tests.proofs.arrivals.echoed.Goals as goal

pub one_by_one-plain-requires-send-K : goal.one_by_one-plain-requires-send-K
one_by_one-plain-requires-send-K g c κs = param_send 0 _ (arg_send _ no _ (kept_kernel_send Pairs.the_row PairsOutside.ghosts the_send))

pub text_of-requires-send-K : goal.text_of-requires-send-K
text_of-requires-send-K g c κs within = param_send 1 _ (arg_send _ no _ (kept_kernel_send Pairs.the_row PairsOutside.ghosts the_send))
