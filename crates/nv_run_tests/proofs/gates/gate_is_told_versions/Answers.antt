use denote.Exit.{no}
use denote.Param.Send.{param_send, arg_send}
use Rattle.nv_run_tests.proofs.Sending.{script_kernel_send}
use Rattle.nv_run_tests.proofs.gates.gate_is_told_versions.Goals as goal

pub beside-account-requires-send-K : goal.beside-account-requires-send-K
beside-account-requires-send-K g c κs = param_send 1 _ (arg_send _ no _ script_kernel_send)
