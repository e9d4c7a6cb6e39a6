use Rattle.std.proofs.Common.{◌≡◌, ℕ, ◌+◌, ◌-◌, ◌%◌, ◌<◌, ◌⊎◌, ap, subst, ◌∙◌, arith, get_or}
use Rattle.std.proofs.lemmas.Grind.{get_or_default_zero}
use Rattle.nv_pool.proofs.PoolLaws.{back_is}
use Rattle.nv_pool.proofs.pool.Pool.start.Goals as goal

pub returns-else-later-eq0-clause-is : goal.returns-else-later-eq0-clause-is
returns-else-later-eq0-clause-is c sizes h = let p = c.args.self.now in let e : ℕ = c.args.event in let k : ℕ = p.count - e in let n : ℕ = p.places in
    let at : p.at ≡ (e + k) % n = p.turns.0 ∙ ap (λ (z : ℕ). z % n) (let q : p.count ≡ e + k = omega arith in q) in
    let r : c.back.result ≡ e % n = back_is e k n c.back.result (omega arith) c.back.ensures.0 (subst (λ (z : ℕ). (c.back.result + k ≡ z) ⊎ (c.back.result + k ≡ z + n)) at c.back.ensures.1) in
    let some : 0 < k = omega arith in
    c.index.ensures ∙ (get_or_default_zero p.starts.items c.back.result c.index.result.now (let a = p.sizes.2 in let b = c.back.ensures.0 in omega arith)
    ∙ (ap (λ (z : ℕ). get_or p.starts.items z 0) r ∙ h.starts e (let a = h.count in omega arith) (let a = h.count in let b = c.requires.near in omega arith)))
