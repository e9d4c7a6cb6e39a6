use Rattle.nv_laws.proofs.Constants.{always-given}
use Rattle.nv_laws.proofs.sockets.a_constant_reply_is_given_in_every_state.Goals as goal

pub returns : goal.returns
returns c = always-given
