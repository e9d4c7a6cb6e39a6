use Rattle.std.proofs.Common.{◌≡◌, ◌∙◌, sym, ap, ◌+◌, ◌<◌, length, arith}
use Rattle.nv_kernel.specs.Serving.{next_random, random_after}
use Rattle.nv_kernel.proofs.Randoms.{randoms-more, after-more}
use Rattle.nv_kernel.proofs.random.fill_random.Goals as goal

pub loop-i-preserved : goal.loop-i-preserved
loop-i-preserved c =
    let now : c.next_random-now.result ≡ random_after (c.loop-i.i + 1) c.args.state
    = c.next_random-now.ensures ∙ ap next_random c.loop-i.invariant.1 ∙ sym (after-more c.loop-i.i c.args.state) in
    let inside : c.loop-i.i < length c.loop-i.bytes = omega (arith, c.loop-i-test.true, c.loop-i.auto.bytes) in
    (randoms-more c.loop-i.bytes c.loop-i.i c.args.state c.high_byte.result c.next_random-now.result inside c.loop-i.invariant.0 now c.high_byte.ensures, now)
