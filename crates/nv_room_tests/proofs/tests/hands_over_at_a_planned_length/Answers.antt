use denote.Exit.{no}
use denote.Param.Send.{param_send, arg_send}
use Rattle.nv_room_tests.proofs.Sending.{kernel_send}
use Rattle.nv_room_tests.proofs.tests.hands_over_at_a_planned_length.Goals as goal

pub hand_over-requires-send-K : goal.hand_over-requires-send-K
hand_over-requires-send-K g c κs = param_send 0 _ (arg_send _ no _ kernel_send)
