-- A change in one place of a table, as calls see it.
use Rattle.std.proofs.Common.{◌≡◌, ◌∙◌, sym, ap, refl, ℕ, ◌+◌, ◌<◌, Bool, true, false, cond, List, [], ◌∷◌, ◌++◌, length, map, get_or, set, Option, Some, None, subst}
use Rattle.std.specs.List.{position_from}
use Rattle.std.specs.Global.{Vec}
use Rattle.std.specs.Vec.{with_item}
use Rattle.std.specs.Prelude.{vec_capacity, slice_index, nat_lt}
use Rattle.std.proofs.lemmas.List.{map-set, get_or-map, set-get_or, get_or-set_same, length-set, length-map, map_push}
use Rattle.nv_fs.specs.Contents.{Content}
use Rattle.nv_fs.specs.declared.disk.MemoryFile.{MemoryFile}
use Rattle.nv_fs.specs.declared.disk.FileSystem.TheInside.{Inside}
use Rattle.nv_fs.specs.States.{FileState, Inode, file_at, with_at}
use Rattle.nv_fs.specs.Seeks.{bytes_of}
use Rattle.nv_fs.specs.Fetched.{pipe_at, with_pipe}
use Rattle.nv_fs.specs.Stored.{with_content}
use Rattle.nv_fs.specs.Opened.{unlinked}
use Rattle.nv_fs.specs.Reserved.{Disk}
use Rattle.nv_fs.specs.Views.{items_of, capacity_of, inode_of, held_of, state_of, disk_of}

pub pipe_is : (a : Inside) (d : Disk) (k : ℕ) (v : Vec ℕ) → disk_of a ≡ d → k < length a.pipes.items → v ≡ get_or a.pipes.items k v → v.items ≡ pipe_at d.state k
pipe_is a d k v view l h =
    ap items_of h ∙ sym (get_or-map items_of a.pipes.items k v [] l) ∙ ap (λ (e : Disk). pipe_at e.state k) view

pub pipe_changed : (a : Inside) (d : Disk) (k : ℕ) (v : Vec ℕ) (bytes : List ℕ) → disk_of a ≡ d → v.items ≡ bytes → state_of (record a { pipes = with_item a.pipes k v }) ≡ with_pipe d.state k bytes
pipe_changed a d k v bytes view h =
    ap (λ (z : List (List ℕ)). record (state_of a) { pipes = z }) (map-set items_of a.pipes.items k v ∙ ap (λ (z : List ℕ). set (map items_of a.pipes.items) k z) h) ∙ ap (λ (e : Disk). with_pipe e.state k bytes) view

pub pipe_same : (s : FileState) (k : ℕ) → with_pipe s k (pipe_at s k) ≡ s
pipe_same s k = ap (λ (z : List (List ℕ)). record s { pipes = z }) (set-get_or s.pipes k [])

pub pipe_reserved : (xs : List (Vec ℕ)) (k : ℕ) (v : Vec ℕ) → k < length xs → vec_capacity v ≡ slice_index (map capacity_of (set xs k v)) k
pipe_reserved xs k v l =
    let l' : k < length (set xs k v) = subst (λ (n : ℕ). k < n) (sym (length-set xs k v)) l in
    sym (get_or-map capacity_of (set xs k v) k v 0 l' ∙ ap capacity_of (get_or-set_same xs k v v l))

pub file_is : (a : Inside) (d : Disk) (i : ℕ) (f : MemoryFile) → disk_of a ≡ d → i < length a.files.items → f ≡ get_or a.files.items i f → inode_of f ≡ file_at d.state i
file_is a d i f view l h =
    ap inode_of h ∙ sym (get_or-map inode_of a.files.items i f _ l) ∙ ap (λ (e : Disk). file_at e.state i) view

pub file_changed : (a : Inside) (d : Disk) (i : ℕ) (f g : MemoryFile) (inode : Inode) → disk_of a ≡ d → inode_of g ≡ inode → state_of (record a { files = with_item a.files i g }) ≡ record d.state { files = set d.state.files i inode }
file_changed a d i f g inode view h =
    ap (λ (z : List Inode). record (state_of a) { files = z }) (map-set inode_of a.files.items i g ∙ ap (λ (z : Inode). set (map inode_of a.files.items) i z) h) ∙ ap (λ (e : Disk). record e.state { files = set e.state.files i inode }) view

-- another content under the same name
pub content_changed : (a : Inside) (d : Disk) (i : ℕ) (f : MemoryFile) (v : Content) (bytes : List ℕ) → disk_of a ≡ d → i < length a.files.items → f ≡ get_or a.files.items i f → v.bytes ≡ bytes
    → state_of (record a { files = with_item a.files i (record { name = f.name; bytes = v }) }) ≡ with_content d.state i bytes
content_changed a d i f v bytes view l h e =
    file_changed a d i f (record { name = f.name; bytes = v }) (record { name = (file_at d.state i).name; bytes = bytes }) view
    (λ j. record { name = (file_is a d i f view l h j).name; bytes = e j })

pub content_same : (s : FileState) (i : ℕ) → with_content s i (bytes_of s i) ≡ s
content_same s i = ap (λ (z : List Inode). record s { files = z }) (set-get_or s.files i _)

pub held_is : (xs : List MemoryFile) (i : ℕ) (g : MemoryFile) → i < length xs → g.bytes.held ≡ get_or (map held_of (set xs i g)) i []
held_is xs i g l =
    let l' : i < length (set xs i g) = subst (λ (n : ℕ). i < n) (sym (length-set xs i g)) l in
    sym (get_or-map held_of (set xs i g) i g [] l' ∙ ap held_of (get_or-set_same xs i g g l))

pub map_with_at : {X Y : Type 0} (f : X → Y) (xs : List X) (i : ℕ) (x : X) (y : Y) → f x ≡ y → map f (with_at xs i x) ≡ with_at (map f xs) i y
map_with_at f xs i x y h =
    by_place (nat_lt i (length xs)) ∙ ap (λ (n : ℕ). cond (nat_lt i n) (set (map f xs) i y) (map f xs ++ y ∷ [])) (sym (length-map xs f))
  where
    by_place : (b : Bool) → map f (cond b (set xs i x) (xs ++ x ∷ [])) ≡ cond b (set (map f xs) i y) (map f xs ++ y ∷ [])
    by_place true = map-set f xs i x ∙ ap (λ z. set (map f xs) i z) h
    by_place false = map_push f xs x ∙ ap (λ z. map f xs ++ z ∷ []) h

-- a place of the table is the first in what calls see
pub position_map : (p : Inode → Bool) (i : ℕ) (xs : List MemoryFile) → position_from (λ f. p (inode_of f)) i xs ≡ position_from p i (map inode_of xs)
position_map p i [] = refl
position_map p i (x ∷ xs) = ap (λ (z : Option ℕ). cond (p (inode_of x)) (Some i) z) (position_map p (i + 1) xs)

-- a file in a place of the table, or after it
pub file_put : (a : Inside) (d : Disk) (files : Vec MemoryFile) (i : ℕ) (f : MemoryFile) (inode : Inode) → disk_of a ≡ d → files.items ≡ with_at a.files.items i f → inode_of f ≡ inode
    → state_of (record a { files = files }) ≡ record d.state { files = with_at d.state.files i inode }
file_put a d files i f inode view h e =
    ap (λ (z : List Inode). record (state_of a) { files = z }) (ap (map inode_of) h ∙ map_with_at inode_of a.files.items i f inode e) ∙ ap (λ (v : Disk). record v.state { files = with_at v.state.files i inode }) view

-- a file without its name
pub name_dropped : (a : Inside) (d : Disk) (i : ℕ) (f g : MemoryFile) → disk_of a ≡ d → i < length a.files.items → f ≡ get_or a.files.items i f → g ≡ record f { name = None }
    → state_of (record a { files = with_item a.files i g }) ≡ unlinked d.state i
name_dropped a d i f g view l h e =
    file_changed a d i f g (record { name = None; bytes = bytes_of d.state i }) view
    (ap inode_of e ∙ (λ j. record { name = None; bytes = (file_is a d i f view l h j).bytes }))
