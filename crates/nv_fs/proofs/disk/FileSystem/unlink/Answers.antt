use Rattle.std.proofs.Common.{ap, ◌<◌, length, arith}
use Rattle.nv_fs.proofs.Places.{name_dropped}
use Rattle.nv_fs.proofs.disk.FileSystem.unlink.Goals as goal

pub returns-then-i-as_slice-clause-state : goal.returns-then-i-as_slice-clause-state
returns-then-i-as_slice-clause-state c =
    let inside : c.args.i < length c.self.inside.files.items = (let e = ap length c.as_slice.ensures.value in omega arith) in
    name_dropped c.self.inside c.args.self.now c.args.i c.index_mut.result.now c.forget_name.new.file c.self.view_is inside c.index_mut.ensures.value c.forget_name.ensures
