use denote.Exit.{no}
use denote.Param.Send.{param_send, arg_send}
use Rattle.nv_run_tests.proofs.arrivals.Pairs.TheSendSync.{the_send}
use Rattle.nv_run_tests.specs.contracts.arrivals.Pairs as Pairs
use Rattle.nv_run_tests.specs.contracts.arrivals.PairsOutside.TheImpl as PairsOutside
use Rattle.nv_run_tests.proofs.Sending.{kept_send}
use Rattle.nv_run_tests.proofs.arrivals.Echo.is_of.Goals as goal

pub answers-requires-send-A : goal.answers-requires-send-A
answers-requires-send-A c κs = param_send 0 _ (arg_send _ no _ (kept_send Pairs.the_row PairsOutside.ghosts the_send))
