use denote.Exit.{no}
use denote.Param.Send.{param_send, arg_send}
use Rattle.nv_arriving.proofs.Sending.{scripted_send}
use Rattle.nv_rows.proofs.sequence.write.Goals as goal

pub write-put-requires-send-K : goal.write-put-requires-send-K
write-put-requires-send-K g c κs within = param_send 1 _ (arg_send _ no _ scripted_send)
