use denote.Exit.{no}
use denote.Param.Send.{param_send, arg_send}
use Rattle.nv_run_tests.proofs.Sending.{refusing_send}
use Rattle.nv_run_tests.proofs.accounts.leader_wants_memory.Goals as goal

pub one_by_one-account-requires-send-K : goal.one_by_one-account-requires-send-K
one_by_one-account-requires-send-K g c κs = param_send 0 _ (arg_send _ no _ refusing_send)

pub beside-account-requires-send-K : goal.beside-account-requires-send-K
beside-account-requires-send-K g c κs = param_send 1 _ (arg_send _ no _ refusing_send)
