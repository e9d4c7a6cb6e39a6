use Rattle.nv_script.proofs.Texts.{line-none}
use Rattle.nv_script.proofs.writing.is_line.Goals as goal

pub returns-in-empty : goal.returns-in-empty
returns-in-empty c = line-none c.args.bytes.now c.in-empty.len_below
