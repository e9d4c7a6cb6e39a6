use denote.Exit.{no}
use denote.Param.Send.{param_send, arg_send}
use Rattle.nv_run_tests.proofs.Sending.{script_kernel_send, refusing_send}
use Rattle.nv_run_tests.proofs.refusals.twice_refused.Goals as goal

pub make-inner-requires-send-K : goal.make-inner-requires-send-K
make-inner-requires-send-K g c = param_send 0 _ (arg_send _ no _ script_kernel_send)

pub make-requires-send-K : goal.make-requires-send-K
make-requires-send-K g c = param_send 0 _ (arg_send _ no _ refusing_send)
