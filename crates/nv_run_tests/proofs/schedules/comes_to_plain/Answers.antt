use denote.Exit.{no}
use denote.Param.Send.{param_send, arg_send}
use Rattle.nv_run_tests.proofs.Sending.{script_kernel_send}
use Rattle.nv_run_tests.proofs.schedules.comes_to_plain.Goals as goal

pub one_by_one-plain-requires-send-K : goal.one_by_one-plain-requires-send-K
one_by_one-plain-requires-send-K g c κs = param_send 0 _ (arg_send _ no _ script_kernel_send)

pub text_of-wanted-requires-send-K : goal.text_of-wanted-requires-send-K
text_of-wanted-requires-send-K g c κs within = param_send 1 _ (arg_send _ no _ script_kernel_send)

pub text_of-requires-send-K : goal.text_of-requires-send-K
text_of-requires-send-K g c κs within = param_send 1 _ (arg_send _ no _ script_kernel_send)
