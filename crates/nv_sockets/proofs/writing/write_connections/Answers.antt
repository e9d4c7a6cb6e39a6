use Rattle.std.proofs.Common.{◌∙◌, ap, map}
use Rattle.nv_outside.proofs.Writing.{puts-is}
use Rattle.nv_sockets.specs.Serving.{link_written, start_of_script}
use Rattle.nv_sockets.specs.Texts.{connections_text}
use Rattle.nv_sockets.proofs.Lines.{written_is}
use Rattle.nv_sockets.proofs.writing.write_connections.Goals as goal

pub returns : goal.returns
unfolding start_of_script
returns g c = puts-is (ap connections_text (written_is c.connections.result.now ∙ ap (map link_written) c.connections.ensures.links)) c.put_connections.ensures
