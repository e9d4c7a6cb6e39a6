use denote.Exit.{no}
use denote.Param.Send.{param_send, arg_send}
use Rattle.nv_arriving.proofs.Sending.{listed_send}
use Rattle.nv_rows.proofs.sequence.kernel.Goals as goal

pub make-requires-send-A : goal.make-requires-send-A
make-requires-send-A c κs = param_send 0 _ (arg_send _ no _ listed_send)
