use denote.Exit.{no}
use denote.Param.Send.{param_send, arg_send}
use Rattle.nv_room_tests.proofs.Sending.{kernel_send}
use Rattle.nv_room_tests.proofs.tests.promote.Goals as goal

pub change_leader-requires-send-K : goal.change_leader-requires-send-K
change_leader-requires-send-K g c κs = param_send 0 _ (arg_send _ no _ kernel_send)
