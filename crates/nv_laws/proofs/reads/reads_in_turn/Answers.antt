use Rattle.nv_laws.proofs.InTurn.{all_asked, as_many}
use Rattle.nv_laws.proofs.reads.reads_in_turn.Goals as goal

pub returns : goal.returns
returns g c = record {
  stood = λ first later done none did. all_asked _ _ _ none did.1;
  counted = λ source. as_many _ _ source.seen.items source.next source.counted;
}
