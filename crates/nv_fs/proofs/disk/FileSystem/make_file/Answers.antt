use Rattle.std.proofs.Common.{[], Some}
use Rattle.nv_fs.proofs.Places.{file_put}
use Rattle.nv_fs.proofs.disk.FileSystem.make_file.Goals as goal

pub returns-clause-state : goal.returns-clause-state
returns-clause-state c =
    file_put c.self.inside c.args.self.now c.put_file.new.files c.args.i _ (record { name = Some c.args.name.items; bytes = [] }) c.self.view_is c.put_file.ensures
    (λ j. record { name = Some c.args.name.items; bytes = (c.make.ensures j).bytes })
