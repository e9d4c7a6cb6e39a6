-- What the taking of memory for blocks of one file leaves of all other blocks.
use Rattle.std.proofs.Common.{◌≡◌, ◌∙◌, sym, ap, refl, ℕ, ◌<◌, Bool, true, false, ◌==◌, List, [], length, map, get_or, set, arith}
use Rattle.std.specs.Prelude.{◌≢◌}
use Rattle.std.proofs.lemmas.Bool.Decides.{nat_tests}
use Rattle.std.proofs.lemmas.List.{map-set, get_or-map, get_or-set_other}
use Rattle.nv_fs.specs.Contents.{Content}
use Rattle.nv_fs.specs.declared.disk.MemoryFile.{MemoryFile}
use Rattle.nv_fs.specs.declared.disk.FileSystem.TheInside.{Inside}
use Rattle.nv_fs.specs.Reserved.{Disk}
use Rattle.nv_fs.specs.Kept.{takes_memory, IsOutside, IsBeside}
use Rattle.nv_fs.specs.Views.{held_of, disk_of}
use Rattle.nv_fs.proofs.Places.{held_is}

-- those of another file
other_file : (xs : List MemoryFile) (i j : ℕ) (g : MemoryFile) → j ≢ i → get_or (map held_of (set xs i g)) j [] ≡ get_or (map held_of xs) j []
other_file xs i j g far = ap (λ (z : List (List Bool)). get_or z j []) (map-set held_of xs i g) ∙ get_or-set_other (map held_of xs) i j (held_of g) [] far

-- those of the same file
same_file : (xs : List MemoryFile) (i k : ℕ) (f g : MemoryFile) → i < length xs → f ≡ get_or xs i f → get_or g.bytes.held k false ≡ get_or f.bytes.held k false
    → get_or (get_or (map held_of (set xs i g)) i []) k false ≡ get_or (get_or (map held_of xs) i []) k false
same_file xs i k f g l h e =
    sym (ap (λ (z : List Bool). get_or z k false) (held_is xs i g l)) ∙ e ∙ ap (λ (z : List Bool). get_or z k false) (ap held_of h ∙ sym (get_or-map held_of xs i f [] l))

pub beside : (a : Inside) (d : Disk) (i place n : ℕ) (f : MemoryFile) (v : Content) → disk_of a ≡ d → i < length a.files.items → f ≡ get_or a.files.items i f
    → ((k : ℕ) → IsOutside place n k → get_or v.held k false ≡ get_or f.bytes.held k false)
    → (j k : ℕ) → IsBeside i place n j k → get_or (get_or (map held_of (set a.files.items i (record { name = f.name; bytes = v }))) j []) k false ≡ takes_memory d j k
beside a d i place n f v view l h outside j k b = by (j == i) refl ∙ ap (λ (e : Disk). takes_memory e j k) view
  where
    by : (t : Bool) → (j == i) ≡ t → get_or (get_or (map held_of (set a.files.items i (record { name = f.name; bytes = v }))) j []) k false ≡ get_or (get_or (map held_of a.files.items) j []) k false
    by true e =
        let s : j ≡ i = grind (arith, nat_tests) in
        ap (λ (m : ℕ). get_or (get_or (map held_of (set a.files.items i (record { name = f.name; bytes = v }))) m []) k false) s
        ∙ same_file a.files.items i k f (record { name = f.name; bytes = v }) l h (outside k (b s))
        ∙ ap (λ (m : ℕ). get_or (get_or (map held_of a.files.items) m []) k false) (sym s)
    by false e =
        let far : j ≢ i = λ s. (let z : (j == i) ≡ true = grind (arith, nat_tests) in cc) in
        ap (λ (z : List Bool). get_or z k false) (other_file a.files.items i j (record { name = f.name; bytes = v }) far)
