use Rattle.std.proofs.Common.{ap, sym, subst, ◌∙◌, ◌+◌, ◌%◌, ℕ, [], ◌∷◌, ◌++◌, length, set, length-append, arith}
use Rattle.nv_pool.proofs.PoolLaws.{all_set}
use Rattle.nv_pool.proofs.ChunkLaws.{chunks_push}
use Rattle.nv_pool.proofs.PoolLaws.{Starts, starts_push, turned}
use Rattle.nv_pool.proofs.pool.Pool.add.Goals as goal

pub returns-clause-after : goal.returns-clause-after
returns-clause-after c sizes h = let p = c.args.self.now in let b : ℕ = c.args.bytes in record {
  count = ap (λ (k : ℕ). k + 1) h.count ∙ sym (length-append sizes (b ∷ []));
  total = (λ i. h.total i + c.chunks_of-chunks.ensures.is i) ∙ sym (chunks_push sizes b);
  starts = subst (λ (k : ℕ). Starts p.places (set p.starts.items k p.total) (sizes ++ b ∷ [])) (sym (p.turns.0 ∙ ap (λ (k : ℕ). k % p.places) h.count))
      (subst (λ (k : ℕ). Starts p.places (set p.starts.items (length sizes % p.places) k) (sizes ++ b ∷ [])) (sym h.total)
      (starts_push p.places p.starts.items sizes b p.sizes.1 p.sizes.2 h.starts));
}

pub invariant_of-self-clause-turns : goal.invariant_of-self-clause-turns
invariant_of-self-clause-turns c = let p = c.args.self.now in (
  c.within-self.ensures ∙ ap (λ (k : ℕ). (k + 1) % p.places) p.turns.0 ∙ turned p.count 1 p.places,
  c.within-self-2.ensures ∙ ap (λ (k : ℕ). (k + c.chunks_of-chunks.result) % p.chunks) p.turns.1 ∙ turned p.total c.chunks_of-chunks.result p.chunks,
)

pub invariant_of-self-clause-starts_are : goal.invariant_of-self-clause-starts_are
invariant_of-self-clause-starts_are c = let p = c.args.self.now in all_set p.total (p.total + c.chunks_of-chunks.result) p.starts.items p.at (omega arith) p.starts_are
