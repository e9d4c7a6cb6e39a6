use Rattle.std.proofs.Common.{◌∙◌, ℕ, List, ap, drop}
use Rattle.nv_outside.proofs.Writing.{puts-is}
use Rattle.nv_sockets.specs.Texts.{connection_text}
use Rattle.nv_sockets.proofs.writing.put_line.Goals as goal

pub returns : goal.returns
returns g c =
    puts-is (ap (λ (bytes : List ℕ). connection_text c.args.index (record { port = c.args.connection.now.port; bytes = bytes }))
    (c.kept.ensures.kept ∙ ap (λ (n : ℕ). drop n c.args.connection.now.output.items) c.requires)) c.put_written.ensures
