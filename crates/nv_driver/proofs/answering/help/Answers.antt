use Rattle.nv_outside.proofs.Writing.{puts-is}
use Rattle.nv_driver.proofs.answering.help.Goals as goal

pub returns : goal.returns
returns g c = record {
  put = c.put_pieces-put.result;
  ends = c.ended.ensures;
  written = puts-is c.help_text.ensures c.put_pieces-put.ensures;
}
