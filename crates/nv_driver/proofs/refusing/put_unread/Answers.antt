use Rattle.std.proofs.Common.{◌++◌, ap, codes, List, ℕ}
use Rattle.nv_outside.proofs.Writing.{puts-is}
use Rattle.nv_driver.proofs.refusing.put_unread.Goals as goal

pub returns : goal.returns
returns g c = record {
  put = c.put_pieces-put.result;
  ends = c.ended.ensures;
  written = puts-is (ap (λ (name : List ℕ). codes "varan: read " ++ (name ++ codes "\n")) c.as_bytes.ensures.value) c.put_pieces-put.ensures;
}
