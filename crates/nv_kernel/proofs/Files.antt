-- The files of a script, as the file system is made of them.
use Rattle.std.proofs.Common.{◌≡◌, ap, refl, ℕ, List, [], ◌∷◌, map}
use Rattle.std.specs.Global.{Vec}
use Rattle.nv_fs.specs.Starts.{inode_from as inode_of}
use Rattle.nv_kernel.specs.Serving.{named_inode}

pub same_files : (files : List (Vec ℕ × Vec ℕ)) → map inode_of files ≡ map named_inode (map (λ (file : Vec ℕ × Vec ℕ). (file.0.items, file.1.items)) files)
same_files [] = refl
same_files (file ∷ files) = ap (λ rest. inode_of file ∷ rest) (same_files files)
