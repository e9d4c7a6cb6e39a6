use Rattle.std.proofs.Common.{ap, ◌<◌, length, arith}
use Rattle.nv_fs.specs.Contents.{Content}
use Rattle.nv_fs.proofs.Places.{content_changed}
use Rattle.nv_fs.proofs.disk.FileSystem.empty.Goals as goal

pub returns-then-i-as_slice-clause-state : goal.returns-then-i-as_slice-clause-state
returns-then-i-as_slice-clause-state c =
    let inside : c.args.i < length c.self.inside.files.items = (let e = ap length c.as_slice.ensures.value in omega arith) in
    content_changed c.self.inside c.args.self.now c.args.i c.index_mut.result.now c.clear.new.self _ c.self.view_is inside c.index_mut.ensures.value (ap (λ (z : Content). z.bytes) c.clear.ensures)
