use denote.Exit.{no}
use denote.Param.Send.{param_send, arg_send}
use Rattle.nv_run_tests.proofs.arrivals.Clients.TheSendSync.{the_send}
use Rattle.nv_run_tests.specs.contracts.arrivals.Clients as Clients
use Rattle.nv_run_tests.specs.contracts.arrivals.ClientsOutside.TheImpl as ClientsOutside
use Rattle.nv_run_tests.proofs.Sending.{kept_kernel_send}
use Rattle.nv_run_tests.proofs.arrivals.served_kept.Goals as goal

pub beside-account-requires-send-K : goal.beside-account-requires-send-K
beside-account-requires-send-K g c κs within = param_send 1 _ (arg_send _ no _ (kept_kernel_send Clients.the_row ClientsOutside.ghosts the_send))

pub text_of-requires-send-K : goal.text_of-requires-send-K
text_of-requires-send-K g c κs within = param_send 1 _ (arg_send _ no _ (kept_kernel_send Clients.the_row ClientsOutside.ghosts the_send))
