use Rattle.std.proofs.Common.{◌∙◌, ap, ◌<◌, length, arith}
use Rattle.nv_fs.specs.Contents.{with_bytes}
use Rattle.nv_fs.proofs.Places.{file_is, content_changed}
use Rattle.nv_fs.proofs.disk.FileSystem.put_at.Goals as goal

pub returns-then-i-as_slice-clause-state : goal.returns-then-i-as_slice-clause-state
returns-then-i-as_slice-clause-state c =
    let inside : c.args.i < length c.self.inside.files.items = (let e = ap length c.as_slice.ensures.value in omega arith) in
    let held = file_is c.self.inside c.args.self.now c.args.i c.index_mut.result.now c.self.view_is inside c.index_mut.ensures.value in
    content_changed c.self.inside c.args.self.now c.args.i c.index_mut.result.now c.write_at.new.self _ c.self.view_is inside c.index_mut.ensures.value
    (c.write_at.ensures.bytes ∙ ap (λ f. with_bytes f.bytes c.args.place c.args.bytes.now) held)
