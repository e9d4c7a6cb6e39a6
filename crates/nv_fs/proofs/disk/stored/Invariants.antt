use Rattle.std.proofs.Common.{◌≡◌, map, take}
use Rattle.nv_fs.specs.Views.{inode_of}
use Rattle.nv_fs.specs.Starts.{inode_from}
use Rattle.nv_fs.proofs.disk.stored.Given as goal

abbrev pub invariant-loop-name : goal.invariant-loop-name
invariant-loop-name l = map inode_of l.made.items ≡ map inode_from (take l.name-index l.files)
