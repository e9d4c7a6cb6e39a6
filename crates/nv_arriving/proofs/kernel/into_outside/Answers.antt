use denote.Exit.{no}
use denote.Param.Send.{param_send, arg_send}
use Rattle.nv_arriving.proofs.Sending.{guests_send}
use Rattle.nv_arriving.proofs.kernel.into_outside.Goals as goal

pub into_answers-requires-send-A : goal.into_answers-requires-send-A
into_answers-requires-send-A g c κs within = param_send 0 _ (arg_send _ no _ (guests_send _ g.O.Outside c.type_bounds.send-O))

pub returns-clause-told : goal.returns-clause-told
returns-clause-told g c = c.into_answers.ensures.stands.told
