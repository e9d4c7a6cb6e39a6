use Rattle.std.proofs.Common.{arith}
use Rattle.nv_replay.proofs.version.Version.rewrites.Goals as goal

pub returns-clause-few : goal.returns-clause-few
returns-clause-few c =
    let kept = c.self.invariant in
    let seen = kept.few_seen in
    let calls = kept.few_calls in
    omega arith
