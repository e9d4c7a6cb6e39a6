use Rattle.std.proofs.Common.{◌∙◌, ap, ℕ, ◌+◌, ◌-◌, ◌≤◌, length, take, drop, arith}
use Rattle.nv_fs.specs.Contents.{content_byte, overwritten}
use Rattle.nv_fs.proofs.Bytes.{over_more}
use Rattle.nv_fs.proofs.copying.write.Goals as goal

pub loop-done-preserved : goal.loop-done-preserved
loop-done-preserved c =
    let done = c.loop-done.done in
    let end = c.min-end.result in
    let bytes = c.args.bytes.now in
    let inside : end ≤ length bytes = omega arith in (
      inside,
      (λ p. c.write_one.ensures.bytes p ∙ ap (λ (x : ℕ). overwritten (c.args.place + done) (take (end - done) (drop done bytes)) x p) (c.loop-done.invariant.1 p)
          ∙ over_more c.args.place done end bytes (content_byte c.args.blocks.now.items p) p (omega arith) inside),
      c.write_one.ensures.held ∙ c.loop-done.invariant.2,
    )
