use denote.Exit.{no}
use denote.Param.Send.{param_send, arg_send}
use Rattle.nv_run_tests.proofs.arrivals.Clients.TheSendSync.{the_send}
use Rattle.nv_run_tests.specs.contracts.arrivals.Clients as Clients
use Rattle.nv_run_tests.specs.contracts.arrivals.ClientsOutside.TheImpl as ClientsOutside
use Rattle.nv_run_tests.proofs.Sending.{kept_send}
use Rattle.nv_run_tests.proofs.arrivals.assert_sent.Goals as goal

pub answers-requires-send-A : goal.answers-requires-send-A
answers-requires-send-A g c κs = param_send 0 _ (arg_send _ no _ (kept_send Clients.the_row ClientsOutside.ghosts the_send))
