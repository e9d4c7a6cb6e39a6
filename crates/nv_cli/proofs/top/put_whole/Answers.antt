use denote.Exit.{no}
use denote.Param.Send.{param_send, arg_send}
use Rattle.std.proofs.Common.{ap}
use Rattle.nv_calls.specs.Logs.{connections_of}
use Rattle.nv_outside.proofs.Writing.{puts-is, puts-then, puts-failed}
use Rattle.nv_arriving.specs.Scripted.{start_from}
use Rattle.nv_sockets.specs.Texts.{connections_text}
use Rattle.nv_arriving.proofs.Sending.{scripted_send}
use Rattle.nv_cli.proofs.top.put_whole.Goals as goal

pub write-requires-send-K : goal.write-requires-send-K
write-requires-send-K g c κs within = param_send 1 _ (arg_send _ no _ scripted_send)

pub returns : goal.returns
returns g c = puts-then c.in_ok-write.ensures (puts-is (ap connections_text c.connections.ensures.written) c.put_connections.ensures)

pub returns-in_err-write : goal.returns-in_err-write
returns-in_err-write g c =
    puts-failed (connections_text (connections_of (start_from c.args.account.now.kernel.setup) c.args.account.now.kernel.log)) c.from_residual.ensures.0 c.in_err-write.ensures

pub put_connections-requires : goal.put_connections-requires
put_connections-requires g c = c.connections.ensures.gone
