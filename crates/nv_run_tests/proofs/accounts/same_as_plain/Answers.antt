use denote.Exit.{no}
use denote.Param.Send.{param_send, arg_send}
use Rattle.nv_run_tests.proofs.Sending.{script_kernel_send}
use Rattle.nv_run_tests.proofs.accounts.same_as_plain.Goals as goal

pub one_by_one-requires-send-K : goal.one_by_one-requires-send-K
one_by_one-requires-send-K g c κs = param_send 0 _ (arg_send _ no _ script_kernel_send)

pub text_of-plain-requires-send-K : goal.text_of-plain-requires-send-K
text_of-plain-requires-send-K g c κs within = param_send 1 _ (arg_send _ no _ script_kernel_send)

pub beside-account-requires-send-K : goal.beside-account-requires-send-K
beside-account-requires-send-K g c κs within = param_send 1 _ (arg_send _ no _ script_kernel_send)

pub text_of-requires-send-K : goal.text_of-requires-send-K
text_of-requires-send-K g c κs within = param_send 1 _ (arg_send _ no _ script_kernel_send)
