use Rattle.nv_script.proofs.Cutting.{piece-newline, piece-whole}
use Rattle.nv_script.proofs.pieces.piece_of.Goals as goal

pub returns-then-before-window-clause-pieces : goal.returns-then-before-window-clause-pieces
returns-then-before-window-clause-pieces c =
    piece-newline c.args.most c.args.bytes.now c.within-window.result.now c.before_newline-before.result c.requires.some c.requires.room c.within-window.ensures c.before_newline-before.ensures.count c.if-before-window.true

pub returns-else-before-window-clause-pieces : goal.returns-else-before-window-clause-pieces
returns-else-before-window-clause-pieces c =
    piece-whole c.args.most c.args.bytes.now c.within-window.result.now c.before_newline-before.result c.requires.some c.requires.room c.within-window.ensures c.before_newline-before.ensures.count c.if-before-window.false
