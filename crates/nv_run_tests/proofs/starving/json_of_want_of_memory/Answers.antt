use denote.Exit.{no}
use denote.Param.Send.{param_send, arg_send}
use Rattle.nv_run_tests.proofs.Sending.{script_kernel_send}
use Rattle.nv_run_tests.proofs.starving.json_of_want_of_memory.Goals as goal

pub json-requires-send-K : goal.json-requires-send-K
json-requires-send-K g c κs = param_send 0 _ (arg_send _ no _ script_kernel_send)
