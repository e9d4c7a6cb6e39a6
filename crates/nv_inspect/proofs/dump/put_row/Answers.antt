use Rattle.std.proofs.Common.{◌++◌, codes}
use Rattle.nv_outside.proofs.Writing.{puts-then, puts-failed}
use Rattle.nv_inspect.specs.Firsts.{texts_below}
use Rattle.nv_inspect.specs.Shown.{word_text, byte_text}
use Rattle.nv_inspect.proofs.dump.put_row.Goals as goal

pub returns-in_err-put_all : goal.returns-in_err-put_all
returns-in_err-put_all g c = puts-failed (word_text c.args.address ++ (texts_below (byte_text c.args.memory.now c.args.address) c.args.length ++ codes "\n")) c.from_residual.ensures.0 c.in_err-put_all.ensures

pub returns-in_err-put_word : goal.returns-in_err-put_word
returns-in_err-put_word g c =
    puts-then c.in_ok-put_all.ensures (puts-failed (texts_below (byte_text c.args.memory.now c.args.address) c.args.length ++ codes "\n") c.from_residual-in_err-put_word.ensures.0 c.in_err-put_word.ensures)

pub returns : goal.returns
returns g c =
    puts-then c.in_ok-put_all.ensures (puts-then c.in_ok-put_word.ensures (puts-then c.in_ok-put_bytes.ensures c.put_all-2.ensures))

pub returns-in_err-put_bytes : goal.returns-in_err-put_bytes
returns-in_err-put_bytes g c =
    puts-then c.in_ok-put_all.ensures (puts-then c.in_ok-put_word.ensures (puts-failed (codes "\n") c.from_residual-in_err-put_bytes.ensures.0 c.in_err-put_bytes.ensures))
