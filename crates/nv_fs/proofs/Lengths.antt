-- The tables have the lengths of what calls see of them.
use Rattle.std.proofs.Common.{◌≡◌, ◌∙◌, sym, ap, length}
use Rattle.std.proofs.lemmas.List.{length-map}
use Rattle.nv_fs.specs.declared.disk.FileSystem.TheInside.{Inside}
use Rattle.nv_fs.specs.Views.{disk_of, inode_of, items_of}
use Rattle.nv_fs.specs.Reserved.{Disk}

pub files_length : (k : Inside) (d : Disk) → disk_of k ≡ d → length k.files.items ≡ length d.state.files
files_length k d h = sym (length-map k.files.items inode_of) ∙ ap (λ (z : Disk). length z.state.files) h

pub pipes_length : (k : Inside) (d : Disk) → disk_of k ≡ d → length k.pipes.items ≡ length d.state.pipes
pipes_length k d h = sym (length-map k.pipes.items items_of) ∙ ap (λ (z : Disk). length z.state.pipes) h
