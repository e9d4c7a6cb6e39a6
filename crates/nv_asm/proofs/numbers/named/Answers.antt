use Rattle.std.proofs.Common.{refl, nat_lt}
use Rattle.nv_bytes.specs.Names.{defined}
use Rattle.nv_asm.specs.Numbers.{registers}
use Rattle.nv_asm.proofs.Finding.{defined-all, below-32}
use Rattle.nv_asm.proofs.numbers.named.Goals as goal

pub returns-clause-small : goal.returns-clause-small
unfolding registers
returns-clause-small c = rw c.find.ensures (below-32 (defined registers c.args.word.now) (defined-all (λ n. nat_lt n 32) registers c.args.word.now refl))
