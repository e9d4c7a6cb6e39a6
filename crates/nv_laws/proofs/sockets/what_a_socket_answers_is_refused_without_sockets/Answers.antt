use Rattle.nv_calls.specs.Answer.{state_after}
use Rattle.nv_sockets.specs.Serving.{serve, first_state}
use Rattle.nv_laws.proofs.Refusing.{refusing}
use Rattle.nv_laws.proofs.States.{sound_after}
use Rattle.nv_laws.proofs.sockets.what_a_socket_answers_is_refused_without_sockets.Goals as goal

pub returns-clause-sound : goal.returns-clause-sound
returns-clause-sound c = sound_after

pub returns-clause-refused : goal.returns-clause-refused
returns-clause-refused c = λ setup cs call a h. refusing (state_after serve (first_state setup) cs) call a (sound_after setup cs) h
