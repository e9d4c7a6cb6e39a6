use Rattle.std.proofs.Common.{◌++◌, ◌∷◌, [], ap, add-one, ◌∙◌, sym, ◌≡◌}
use Rattle.nv_elf.proofs.Headers.{headers-push}
use Rattle.nv_elf.proofs.reader.headers.Goals as goal

pub loop-i-preserved : goal.loop-i-preserved
loop-i-preserved c =
    let more = headers-push c.args.bytes.now c.args.start c.loop-i.i in
    rw (c.in_ok-push.ensures.items, c.loop-i.invariant, c.at.ensures, add-one) (sym more)
