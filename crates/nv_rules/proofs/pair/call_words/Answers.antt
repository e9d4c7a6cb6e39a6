use Rattle.std.proofs.Common.{ap, ◌∷◌}
use Rattle.nv_rules.proofs.Laying.{argument_words-six}
use Rattle.nv_rules.proofs.pair.call_words.Goals as goal

pub returns : goal.returns
returns c = ap (λ words. c.args.nr ∷ 1073742067 ∷ 0 ∷ 0 ∷ words) (argument_words-six c.args.args.now c.told-args)
