use denote.Exit.{no}
use denote.Param.Send.{param_send, arg_send}
use Rattle.nv_room_tests.proofs.Sending.{kernel_send}
use Rattle.nv_rows.proofs.room.run_room.Goals as goal

pub run-requires-send-K : goal.run-requires-send-K
run-requires-send-K g c κs within = param_send 1 _ (arg_send _ no _ kernel_send)
