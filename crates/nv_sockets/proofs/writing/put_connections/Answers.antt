use Rattle.std.proofs.Common.{◌∙◌, sym, map}
use Rattle.nv_outside.proofs.Writing.{puts-none, puts-is, puts-then, puts-failed}
use Rattle.nv_sockets.specs.Texts.{connection_texts}
use Rattle.nv_sockets.specs.Views.{written_of}
use Rattle.nv_sockets.proofs.Lines.{no_text, some_text}
use Rattle.nv_sockets.proofs.writing.put_connections.Goals as goal

pub returns-then-is_empty : goal.returns-then-is_empty
returns-then-is_empty g c = puts-is (no_text c.args.connections.now (sym c.is_empty.ensures ∙ c.if-is_empty.true)) (puts-none _ _)

pub returns : goal.returns
returns g c = puts-is (some_text c.args.connections.now (sym c.is_empty.ensures ∙ c.if-is_empty.false)) (puts-then c.in_ok-put_count.ensures c.put_lines.ensures)

pub returns-in_err-put_count : goal.returns-in_err-put_count
returns-in_err-put_count g c =
    puts-is (some_text c.args.connections.now (sym c.is_empty.ensures ∙ c.if-is_empty.false))
    (puts-failed (connection_texts 0 (map written_of c.args.connections.now)) c.from_residual.ensures.0 c.in_err-put_count.ensures)
