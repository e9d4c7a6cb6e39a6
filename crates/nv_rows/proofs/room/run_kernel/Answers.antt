use denote.Exit.{no}
use denote.Param.Send.{param_send, arg_send}
use Rattle.nv_room_tests.proofs.Sending.{kernel_send}
use Rattle.nv_rows.proofs.room.run_kernel.Goals as goal

pub serve_all-kernel-requires-send-K : goal.serve_all-kernel-requires-send-K
serve_all-kernel-requires-send-K c κs = param_send 0 _ (arg_send _ no _ kernel_send)
