-- What a call that makes something takes, and what it leaves as it was.
use Rattle.std.proofs.Common.{◌≡◌, ◌≢◌, ◌∙◌, sym, ap, subst, refl, ℕ, ℤ, ◌+◌, ◌%◌, ◌<◌, Bool, true, false, cond, not, ◌&&◌, ◌||◌, ◌==◌, nat_le, List, [], ◌∷◌, length, get_or, drop, Option, Some, None, is_none, is_some, unwrap_or, option_map, ◌⊎◌, inl, inr, ⊎_elim, arith, length-set}
use Rattle.std.specs.Prelude.{slice_get, bit_and, IsTrue}
use Rattle.std.specs.List.{list_any, position_from, before_first}
use Rattle.std.specs.Str.{bytes_eq}
use Rattle.std.proofs.lemmas.Bool.{cases_eq, eq-eqb}
use Rattle.std.proofs.lemmas.List.{get_or-set_same, get_or-set_other}
use Rattle.nv_fs.specs.declared.open_file.OpenFile.{OpenFile}
use Rattle.nv_fs.specs.declared.open_file.Target.TheVariants.{File, Reader, Writer}
use Rattle.nv_calls.specs.Answer.{Answer, only}
use Rattle.nv_calls.specs.Errors.{ENOENT, EBADF, EEXIST, ENOTDIR, EINVAL, EMFILE, ENOSPC, ENAMETOOLONG}
use Rattle.nv_fs.specs.States.{one_way, FileState, Inode, open_of, numbered, opens_to, is_numbered, is_shared, is_kept, file_at, free_open, install}
use Rattle.nv_fs.specs.Closes.{dup_of, dup_open, share, free_descriptor}
use Rattle.nv_fs.specs.Ends.{pipe_of, pipe_from, pipe_on, free_pipe, free_above, with_empty}
use Rattle.nv_fs.specs.Names.{Resolved, Refused, Named, resolved, name_of, name_in, component_of, file_of, is_open_at, is_cwd, is_absolute}
use Rattle.nv_fs.specs.Opened.{open_at_of, open_resolved, open_unless, open_at_descriptor, open_file, opened, create, truncated, with_file, free_file, exclusive_error, has_flag}
use Rattle.nv_fs.specs.Stored.{with_content}
use Rattle.nv_laws.specs.Tables.{number_at, AreSoundTables}
use Rattle.nv_laws.specs.Calls.{is_error, ChangesNothing, TakesNew, HasOpened, HasDoubled, HasPiped}
use Rattle.nv_laws.proofs.Lookups.{some_is, or_none, is_inside, put_or_not, get_drop, with_or_other, with_or_same, first_is}
use Rattle.nv_laws.proofs.Holding.{open_is, file_is_free, free_file_near, pipe_is_free, free_pipe_near, takes_new, is_installed}
use Rattle.nv_laws.proofs.Sound.{with_pipe_is_sound, first_end_is_sound, emptied_is_sound, with_file_is_sound}
use Rattle.nv_fs.proofs.Cases.{by_test}

-- a descriptor that is found free
none_is : (ds : List (Option ℕ)) (fd : ℕ) (x : Option ℕ) → slice_get ds fd ≡ Some x → is_none x ≡ true → get_or ds fd None ≡ None
none_is ds fd None e h = or_none ds fd None ∙ ap (λ o. unwrap_or o None) e
none_is ds fd (Some y) e h = cc

free_at : (s : FileState) (fd : ℕ) → free_descriptor s ≡ Some fd → (fd < length s.descriptors) × (number_at s fd ≡ None)
unfolding free_descriptor
free_at s fd e =
    let r = first_is is_none s.descriptors 0 fd e in
    let is : r.0 ≡ fd = omega (arith, r.1) in
    (omega (arith, is, is_inside s.descriptors r.0 r.2 r.3), subst (λ (n : ℕ). number_at s n ≡ None) is (none_is s.descriptors r.0 r.2 r.3 r.4))

above_at : (s : FileState) (fd other : ℕ) → free_above s fd ≡ Some other → (fd < other) × (other < length s.descriptors) × (number_at s other ≡ None)
above_at s fd other e = by (position_from is_none 0 (drop (fd + 1) s.descriptors)) refl e
  where
    by : (q : Option ℕ) → position_from is_none 0 (drop (fd + 1) s.descriptors) ≡ q → option_map (λ n. fd + 1 + n) q ≡ Some other → (fd < other) × (other < length s.descriptors) × (number_at s other ≡ None)
    by None h e = cc
    by (Some n) h e =
        let r = first_is is_none (drop (fd + 1) s.descriptors) 0 n h in
        let place : other ≡ fd + 1 + r.0 = omega (arith, r.1, some_is (fd + 1 + n) other e) in
        let there : slice_get s.descriptors other ≡ Some r.2 = sym (get_drop s.descriptors (fd + 1) r.0 other place) ∙ r.3 in
        (omega (arith, place), is_inside s.descriptors other r.2 there, none_is s.descriptors other r.2 there r.4)

-- tables with the same descriptors and open files
same_shared : (s t : FileState) (number : ℕ) → t.descriptors ≡ s.descriptors → is_shared t number ≡ is_shared s number
unfolding is_shared
same_shared s t number e = ap (list_any (is_numbered number)) e

same_open : (s t : FileState) (fd : ℕ) → t.descriptors ≡ s.descriptors → t.opens ≡ s.opens → open_of t fd ≡ open_of s fd
unfolding open_of
same_open s t fd e f = λ i. numbered (f i) (get_or (e i) fd None)

takes_from : (s t after : FileState) (fd : ℕ) → t.descriptors ≡ s.descriptors → t.opens ≡ s.opens → TakesNew t after fd → TakesNew s after fd
takes_from s t after fd e f new = record {
  free = ap (λ (ds : List (Option ℕ)). get_or ds fd None) (sym e) ∙ new.free;
  number = new.number;
  has = new.has;
  unused = sym (same_shared s t new.number e) ∙ new.unused;
  others = λ d other. new.others d other ∙ same_open s t d e f;
}

refused : (s : FileState) (e : ℤ) → IsTrue (is_error e) → ChangesNothing s (only s e)
refused s e h = record { same = refl; error = h }

-- openat: a refusal is an error
abbrev Fails : Resolved → Type 0
Fails (Refused error) = IsTrue (is_error error)
Fails (Named name) = Unit {0}

abbrev Errs : ℤ → Type 0
Errs error = IsTrue (is_error error)

refusal_is_error : (s : FileState) (dir : ℤ) (path : List ℕ) → Fails (resolved s dir path)
unfolding resolved
refusal_is_error s dir path =
    by_test Fails (nat_le 256 (length path)) (Refused ENAMETOOLONG) _ refl
    (by_test Fails (length path == 0) (Refused ENOENT) _ refl
    (by_test Fails (not (is_absolute path) && not (is_cwd dir)) (Refused (cond (is_open_at s dir) ENOTDIR EBADF)) (name_of s (name_in path)) (by_test Errs (is_open_at s dir) ENOTDIR EBADF refl refl)
    (by_test Fails (list_any (λ b. b == 47) (name_in path)) (Refused (cond (is_some (file_of s (before_first (λ b. b == 47) (name_in path)))) ENOTDIR ENOENT)) (component_of (name_in path))
    (by_test Errs (is_some (file_of s (before_first (λ b. b == 47) (name_in path)))) ENOTDIR ENOENT refl refl)
    (by_test Fails ((length (name_in path) == 0) || (bytes_eq (name_in path) (46 ∷ [])) || (bytes_eq (name_in path) (46 ∷ 46 ∷ []))) (Refused EINVAL) (Named (name_in path)) refl tt))))

abbrev Unless : Option ℤ → Type 0
Unless None = Unit {0}
Unless (Some error) = IsTrue (is_error error)

refused_is_error : (file : Option ℕ) (flags : ℕ) → Unless (exclusive_error file flags)
refused_is_error (Some i) flags = by_test Unless (has_flag flags 64 && has_flag flags 128) (Some EEXIST) None refl tt
refused_is_error None flags = by_test Unless (has_flag flags 64) None (Some ENOENT) tt refl

-- What a file becomes before the new open file is made: another keeps all.
abbrev Ready : FileState → FileState → ℕ → Type 0
Ready s t i = (j : ℕ) → IsTrue (is_kept s j) → ((file_at t j).name ≡ (file_at s j).name) × ((j ≡ i) ⊎ (file_at t j ≡ file_at s j))

opens_on : (s t : FileState) (fd i flags : ℕ) → t.descriptors ≡ s.descriptors → t.opens ≡ s.opens → t.pipes ≡ s.pipes → AreSoundTables t → Ready s t i
    → fd < length s.descriptors → number_at s fd ≡ None → HasOpened s (open_file t fd i flags)
unfolding install
opens_on s t fd i flags e f g h ready l free =
    let l' : fd < length t.descriptors = subst (λ (ds : List (Option ℕ)). fd < length ds) (sym e) l in
    let free' : number_at t fd ≡ None = ap (λ (ds : List (Option ℕ)). get_or ds fd None) e ∙ free in record {
      fd = fd;
      ret = refl;
      new = takes_from s t (install t fd (opened i flags)) fd e f (takes_new t fd (opened i flags) h l' free');
      files = λ j kept. (
        (ready j kept).0,
        elim ((ready j kept).1) [
          | inl is ↦ inl (ap (opens_to (File j)) (is_installed t fd (opened i flags) l') ∙ eq-eqb j i is)
          | inr same ↦ inr same
        ],
      );
      pipes = g;
    }

emptied_ready : (s : FileState) (i : ℕ) → Ready s (with_content s i []) i
emptied_ready s i j kept = elim (cases_eq j i) [
  | inl is ↦ (subst (λ (k : ℕ). (file_at (with_content s i []) k).name ≡ (file_at s k).name) (sym is) there, inl is)
  | inr other ↦ (ap (λ (f : Inode). f.name) (get_or-set_other s.files i j new none other), inr (get_or-set_other s.files i j new none other))
]
  where
    none : Inode
    none = record { name = None; bytes = [] }

    new : Inode
    new = record { name = (file_at s i).name; bytes = [] }

    there : (file_at (with_content s i []) i).name ≡ (file_at s i).name
    there = ⊎_elim (ap (λ (f : Inode). f.name)) (λ q. ap (λ (f : Inode). f.name) (q.0 ∙ sym q.1)) (put_or_not s.files i new none)

opens_file : (s : FileState) (fd i flags : ℕ) → AreSoundTables s → fd < length s.descriptors → number_at s fd ≡ None → HasOpened s (open_file (truncated s i flags) fd i flags)
opens_file s fd i flags h l free = by (has_flag flags 512 && not (flags % 4 == 0)) (emptied_is_sound s i flags h)
  where
    by : (b : Bool) → AreSoundTables (cond b (with_content s i []) s) → HasOpened s (open_file (cond b (with_content s i []) s) fd i flags)
    by true h = opens_on s (with_content s i []) fd i flags refl refl refl h (emptied_ready s i) l free
    by false h = opens_on s s fd i flags refl refl refl h (λ j kept. (refl, inr refl)) l free

made_ready : (s : FileState) (name : List ℕ) → AreSoundTables s → Ready s (with_file s (free_file s) name) (free_file s)
made_ready s name h j kept = (ap (λ (f : Inode). f.name) same, inr same)
  where
    same : file_at (with_file s (free_file s) name) j ≡ file_at s j
    same = with_or_other s.files (free_file s) (record { name = Some name; bytes = [] }) (free_file_near s) j (record { name = None; bytes = [] })
        (λ is. let clash : true ≡ false = sym kept ∙ ap (is_kept s) is ∙ file_is_free s h in cc)

abbrev Opened : FileState → Answer FileState → Type 0
Opened s a = ChangesNothing s a ⊎ HasOpened s a

makes_file : (s : FileState) (fd : ℕ) (name : List ℕ) (flags : ℕ) → AreSoundTables s → fd < length s.descriptors → number_at s fd ≡ None → Opened s (create s fd name flags)
makes_file s fd name flags h l free =
    by_test (Opened s) (nat_le 256 (free_file s)) (only s ENOSPC) (open_file (with_file s (free_file s) name) fd (free_file s) flags) (inl (refused s ENOSPC refl))
    (inr (opens_on s (with_file s (free_file s) name) fd (free_file s) flags refl refl refl (with_file_is_sound s name h) (made_ready s name h) l free))

pub opens_new : (s : FileState) (dir : ℤ) (path : List ℕ) (flags : ℕ) → AreSoundTables s → ChangesNothing s (open_at_of s dir path flags) ⊎ HasOpened s (open_at_of s dir path flags)
unfolding open_at_of
opens_new s dir path flags h = by (resolved s dir path) (refusal_is_error s dir path)
  where
    at : (fd : Option ℕ) (name : List ℕ) (file : Option ℕ) → free_descriptor s ≡ fd → Opened s (open_at_descriptor s fd name file flags)
    at None name file e = inl (refused s EMFILE refl)
    at (Some fd) name None e = let r = free_at s fd e in makes_file s fd name flags h r.0 r.1
    at (Some fd) name (Some i) e = let r = free_at s fd e in inr (opens_file s fd i flags h r.0 r.1)

    unless : (q : Option ℤ) (name : List ℕ) (file : Option ℕ) → Unless q → Opened s (open_unless q s name file flags)
    unless None name file u = at (free_descriptor s) name file refl
    unless (Some error) name file u = inl (refused s error u)

    by : (r : Resolved) → Fails r → Opened s (open_resolved s r flags)
    by (Refused error) f = inl (refused s error f)
    by (Named name) f =
        by_test (Opened s) (flags % 4 == 3) (only s EINVAL) (open_unless (exclusive_error (file_of s name) flags) s name (file_of s name) flags) (inl (refused s EINVAL refl))
        (unless (exclusive_error (file_of s name) flags) name (file_of s name) (refused_is_error (file_of s name) flags))

-- dup
pub doubles : (s : FileState) (fd : ℕ) → ChangesNothing s (dup_of s fd) ⊎ HasDoubled s fd (dup_of s fd)
unfolding dup_of open_of
doubles s fd = by (open_of s fd) refl
  where
    onto : (to : Option ℕ) (o : ℕ × OpenFile) → open_of s fd ≡ Some o → free_descriptor s ≡ to → ChangesNothing s (share s to o.0) ⊎ HasDoubled s fd (share s to o.0)
    onto None o e f = inl (refused s EMFILE refl)
    onto (Some to) o e f =
        let r = free_at s to f in inr record {
          fd = to;
          ret = refl;
          free = r.1;
          shares = get_or-set_same s.descriptors to (Some o.0) None r.0 ∙ sym (open_is s fd o e).0;
          others = λ d other. ap (numbered s.opens) (get_or-set_other s.descriptors to d (Some o.0) None other);
          files = refl;
          pipes = refl;
        }

    by : (o : Option (ℕ × OpenFile)) → open_of s fd ≡ o → ChangesNothing s (dup_open s o) ⊎ HasDoubled s fd (dup_open s o)
    by None e = inl (refused s EBADF refl)
    by (Some o) e = onto (free_descriptor s) o e refl

-- pipe
descriptors_between : (s : FileState) (reading : ℕ) → length (install (with_empty s (free_pipe s)) reading (one_way (Reader (free_pipe s)) true)).descriptors ≡ length s.descriptors
unfolding install
descriptors_between s reading = length-set s.descriptors reading (Some (free_open (with_empty s (free_pipe s))))

free_between : (s : FileState) (reading writing : ℕ) → writing ≢ reading → number_at s writing ≡ None → number_at (install (with_empty s (free_pipe s)) reading (one_way (Reader (free_pipe s)) true)) writing ≡ None
unfolding install
free_between s reading writing other free = get_or-set_other s.descriptors reading writing (Some (free_open (with_empty s (free_pipe s)))) None other ∙ free

has_piped : (s : FileState) (reading writing : ℕ) → AreSoundTables s → reading < length s.descriptors → number_at s reading ≡ None → reading < writing → writing < length s.descriptors → number_at s writing ≡ None
    → HasPiped s (pipe_on s reading (Some writing))
unfolding install
has_piped s reading writing h l free above l' free' =
    let k = free_pipe s in
    let one = one_way (Reader k) true in
    let two = one_way (Writer k) false in
    let middle = install (with_empty s k) reading one in
    let other : writing ≢ reading = (λ e. omega (arith, e)) in
    let inside : writing < length middle.descriptors = omega (arith, descriptors_between s reading) in
    let near = free_pipe_near s in
    let second = takes_new middle writing two (first_end_is_sound s reading h) inside (free_between s reading writing other free') in record {
      pipe = k;
      unused = pipe_is_free s h;
      empty = with_or_same s.pipes k [] near [];
      reading = reading;
      writing = writing;
      between = middle;
      first = takes_from s (with_empty s k) middle reading refl refl (takes_new (with_empty s k) reading one (with_pipe_is_sound s h) l free);
      second = second;
      reader = ap (opens_to (Reader k)) (second.others reading (λ e. omega (arith, e)) ∙ is_installed (with_empty s k) reading one l) ∙ eq-eqb k k refl;
      writer = ap (opens_to (Writer k)) (is_installed middle writing two inside) ∙ eq-eqb k k refl;
      others = λ j n. with_or_other s.pipes k [] near j [] n;
      files = refl;
    }

abbrev Piped : FileState → Answer FileState → Type 0
Piped s a = ChangesNothing s a ⊎ HasPiped s a

pub pipes : (s : FileState) (flags : ℕ) → AreSoundTables s → ChangesNothing s (pipe_of s flags) ⊎ HasPiped s (pipe_of s flags)
unfolding pipe_of
pipes s flags h = by_test (Piped s) (bit_and flags 526336 == flags) (pipe_from s (free_descriptor s)) (only s EINVAL) (by (free_descriptor s) refl) (inl (refused s EINVAL refl))
  where
    on : (reading : ℕ) (writing : Option ℕ) → free_descriptor s ≡ Some reading → free_above s reading ≡ writing → ChangesNothing s (pipe_on s reading writing) ⊎ HasPiped s (pipe_on s reading writing)
    on reading None e f = inl (refused s EMFILE refl)
    on reading (Some writing) e f =
        let a = free_at s reading e in
        let b = above_at s reading writing f in inr (has_piped s reading writing h a.0 a.1 b.0 b.1 b.2)

    by : (reading : Option ℕ) → free_descriptor s ≡ reading → ChangesNothing s (pipe_from s reading) ⊎ HasPiped s (pipe_from s reading)
    by None e = inl (refused s EMFILE refl)
    by (Some reading) e = on reading (free_above s reading) e refl
