use denote.Exit.{no}
use denote.Param.Send.{param_send, arg_send}
use Rattle.nv_run_tests.proofs.Sending.{script_kernel_send, refusing_send}
use Rattle.nv_run_tests.proofs.accounts.asked_once.Goals as goal

pub finished-account-requires-send-K : goal.finished-account-requires-send-K
finished-account-requires-send-K g c κs within = param_send 1 _ (arg_send _ no _ refusing_send)

pub asked-requires-send-K : goal.asked-requires-send-K
asked-requires-send-K g c κs = param_send 0 _ (arg_send _ no _ script_kernel_send)

pub report_of-requires-send-K : goal.report_of-requires-send-K
report_of-requires-send-K g c κs within = param_send 1 _ (arg_send _ no _ refusing_send)
