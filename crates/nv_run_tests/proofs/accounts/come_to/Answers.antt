use denote.Exit.{no}
use denote.Param.Send.{param_send, arg_send}
use Rattle.nv_run_tests.proofs.Sending.{script_kernel_send}
use Rattle.nv_run_tests.proofs.accounts.come_to.Goals as goal

pub one_by_one-account-requires-send-K : goal.one_by_one-account-requires-send-K
one_by_one-account-requires-send-K g c κs = param_send 0 _ (arg_send _ no _ script_kernel_send)

pub finished-requires-send-K : goal.finished-requires-send-K
finished-requires-send-K g c κs within = param_send 1 _ (arg_send _ no _ script_kernel_send)

pub report_of-requires-send-K : goal.report_of-requires-send-K
report_of-requires-send-K g c κs within = param_send 1 _ (arg_send _ no _ script_kernel_send)

pub beside-account-requires-send-K : goal.beside-account-requires-send-K
beside-account-requires-send-K g c κs within = param_send 1 _ (arg_send _ no _ script_kernel_send)

pub finished-requires-in-loop-places-send-K : goal.finished-requires-in-loop-places-send-K
finished-requires-in-loop-places-send-K g c κs within = param_send 1 _ (arg_send _ no _ script_kernel_send)

pub report_of-requires-in-loop-places-send-K : goal.report_of-requires-in-loop-places-send-K
report_of-requires-in-loop-places-send-K g c κs within = param_send 1 _ (arg_send _ no _ script_kernel_send)
