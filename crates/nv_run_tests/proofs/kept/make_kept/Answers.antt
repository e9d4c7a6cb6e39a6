use denote.Exit.{no}
use denote.Param.Send.{param_send, arg_send}
use Rattle.nv_run_tests.proofs.Sending.{kept_send}
use Rattle.nv_run_tests.proofs.kept.make_kept.Goals as goal

pub over-requires-send-A : goal.over-requires-send-A
over-requires-send-A g c κs within = param_send 0 _ (arg_send _ no _ (kept_send _ g.O.Outside c.type_bounds.send-O))
