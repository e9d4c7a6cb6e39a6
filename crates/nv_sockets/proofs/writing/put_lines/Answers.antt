use Rattle.std.proofs.Common.{ap, sym, ◌∙◌}
use Rattle.std.proofs.lemmas.List.{get_or-map}
use Rattle.nv_sockets.specs.declared.connection.Connection.{Connection}
use Rattle.nv_sockets.specs.Texts.{connection_text}
use Rattle.nv_sockets.specs.Views.{written_of, gone_of}
use Rattle.nv_outside.proofs.Writing.{puts-is}
use Rattle.nv_sockets.proofs.Lines.{lines_more, lines_stopped}
use Rattle.nv_sockets.proofs.writing.put_lines.Goals as goal

pub put_line-requires : goal.put_line-requires
put_line-requires g c =
    ap gone_of c.index-connections-index.is
    ∙ sym (get_or-map gone_of c.args.connections.now c.loop-index.index c.index-connections-index.result 0 c.loop-index-test.true)
    ∙ c.requires c.loop-index.index

pub returns-in_err-put_line : goal.returns-in_err-put_line
returns-in_err-put_line g c =
    let item = puts-is (ap (λ (one : Connection). connection_text c.loop-index.index (written_of one)) c.index-connections-index.is) c.in_err-put_line.ensures in
    lines_stopped c.args.connections.now c.loop-index.index c.index-connections-index.result c.loop-index-test.true c.from_residual.ensures.0 c.loop-index.invariant item

pub loop-index-preserved : goal.loop-index-preserved
loop-index-preserved g c =
    let item = puts-is (ap (λ (one : Connection). connection_text c.loop-index.index (written_of one)) c.index-connections-index.is) c.in_ok-put_line.ensures in
    lines_more c.args.connections.now c.loop-index.index c.index-connections-index.result c.loop-index-test.true c.loop-index.invariant item
