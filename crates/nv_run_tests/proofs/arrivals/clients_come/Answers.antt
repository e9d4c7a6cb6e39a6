use denote.Exit.{no}
use denote.Param.Send.{param_send, arg_send}
use Rattle.nv_run_tests.proofs.arrivals.Clients.TheSendSync.{the_send}
use Rattle.nv_run_tests.specs.contracts.arrivals.Clients as Clients
use Rattle.nv_run_tests.specs.contracts.arrivals.ClientsOutside.TheImpl as ClientsOutside
use Rattle.nv_run_tests.proofs.Sending.{kept_kernel_send}
use Rattle.nv_run_tests.proofs.arrivals.clients_come.Goals as goal

pub one_by_one-plain-requires-send-K : goal.one_by_one-plain-requires-send-K
one_by_one-plain-requires-send-K g c κs = param_send 0 _ (arg_send _ no _ (kept_kernel_send Clients.the_row ClientsOutside.ghosts the_send))

pub text_of-plain-requires-send-K : goal.text_of-plain-requires-send-K
text_of-plain-requires-send-K g c κs = param_send 1 _ (arg_send _ no _ (kept_kernel_send Clients.the_row ClientsOutside.ghosts the_send))
