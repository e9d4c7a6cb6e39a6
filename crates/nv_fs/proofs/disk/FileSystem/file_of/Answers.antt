use Rattle.std.proofs.Common.{◌∙◌, ap}
use Rattle.nv_fs.specs.States.{Inode}
use Rattle.nv_fs.specs.Names.{file_of, is_named}
use Rattle.nv_fs.specs.Reserved.{Disk}
use Rattle.nv_fs.proofs.Places.{position_map}
use Rattle.nv_fs.proofs.disk.FileSystem.file_of.Goals as goal

pub returns : goal.returns
unfolding file_of
returns c =
    let here = λ (f : Inode). is_named c.args.name.now f.name in
    let all = c.as_slice.ensures.value in
    c.position.ensures.is ∙ ap (λ z. Rattle.std.specs.List.position_from (λ f. here (Rattle.nv_fs.specs.Views.inode_of f)) 0 z) all
    ∙ position_map here 0 c.self.inside.files.items ∙ ap (λ (v : Disk). file_of v.state c.args.name.now) c.self.view_is
