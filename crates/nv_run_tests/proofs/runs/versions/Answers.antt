use Rattle.std.proofs.Common.{◌≡◌, ◌++◌, ◌∷◌, [], sym, subst, ◌+◌, length, arith, rules, length-append}
use Rattle.nv_threads.specs.Threads.{threads}
use Rattle.nv_replay.specs.Version.{IsFresh}
use Rattle.nv_replay.specs.Account.{AreFresh}
use Rattle.nv_run_tests.proofs.Fresh.{fresh_more}
use Rattle.nv_run_tests.proofs.runs.versions.Goals as goal

pub loop-index-preserved : goal.loop-index-preserved
loop-index-preserved c =
    let i = c.loop-index.invariant in
    let each = i.each in
    let e : c.push.new.self.items ≡ c.loop-index.versions.items ++ c.in_ok-version.version ∷ [] = search rules in
    let at : c.loop-index.index ≡ 0 + length c.loop-index.versions.items = omega (arith, each) in
    let more = length-append c.loop-index.versions.items (c.in_ok-version.version ∷ []) in record {
      fresh = subst (λ vs. AreFresh threads 0 vs) (sym e) (fresh_more 0 c.loop-index.versions.items c.in_ok-version.version i.fresh
          (subst (λ n. IsFresh threads n c.in_ok-version.version) at c.in_ok-version.ensures));
      each = rw e (omega (arith, each, more));
    }
