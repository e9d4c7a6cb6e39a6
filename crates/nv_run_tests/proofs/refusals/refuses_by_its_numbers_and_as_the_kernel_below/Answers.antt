use denote.Exit.{no}
use denote.Param.Send.{param_send, arg_send}
use Rattle.nv_run_tests.proofs.Sending.{script_kernel_send, refusing_send, twice_refusing_send}
use Rattle.nv_run_tests.proofs.refusals.refuses_by_its_numbers_and_as_the_kernel_below.Goals as goal

pub is_refused-requires-send-K : goal.is_refused-requires-send-K
is_refused-requires-send-K g c κs = param_send 0 _ (arg_send _ no _ twice_refusing_send)

pub asked-requires-send-K : goal.asked-requires-send-K
asked-requires-send-K g c κs = param_send 0 _ (arg_send _ no _ refusing_send)

pub inner-requires-send-K : goal.inner-requires-send-K
inner-requires-send-K g c κs = param_send 0 _ (arg_send _ no _ refusing_send)

pub asked-requires-2-send-K : goal.asked-requires-2-send-K
asked-requires-2-send-K g c κs = param_send 0 _ (arg_send _ no _ script_kernel_send)
