use denote.Exit.{no}
use denote.Param.Send.{param_send, arg_send}
use Rattle.nv_arriving.proofs.Sending.{scripted_send}
use Rattle.nv_rows.proofs.sequence.account.Goals as goal

pub run-requires-send-K : goal.run-requires-send-K
run-requires-send-K c κs = param_send 0 _ (arg_send _ no _ scripted_send)
