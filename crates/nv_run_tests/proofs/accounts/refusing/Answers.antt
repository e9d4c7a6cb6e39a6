use denote.Exit.{no}
use denote.Param.Send.{param_send, arg_send}
use Rattle.nv_run_tests.proofs.Sending.{script_kernel_send}
use Rattle.nv_run_tests.proofs.accounts.refusing.Goals as goal

pub make-requires-send-K : goal.make-requires-send-K
make-requires-send-K g c κs = param_send 0 _ (arg_send _ no _ script_kernel_send)
