-- The tables are sound at first, and every call keeps them so.
use Rattle.std.proofs.Common.{◌≡◌, ◌∙◌, sym, ap, subst, refl, ℕ, ℤ, zero, suc, ◌%◌, ◌≤◌, ◌<◌, Bool, true, false, cond, not, ◌&&◌, ◌||◌, ◌==◌, nat_le, nat_lt, List, [], length, get_or, set, drop, Option, Some, None, ◌⊎◌, inl, inr, ⊎_elim, arith, length-set}
use Rattle.std.specs.Prelude.{slice_get, replicate, bit_and}
use Rattle.std.proofs.lemmas.Bool.{cases_eq}
use Rattle.std.proofs.lemmas.List.{get_or-set_other}
use Rattle.nv_fs.specs.declared.open_file.OpenFile.{OpenFile}
use Rattle.nv_fs.specs.declared.open_file.Target.{Target}
use Rattle.nv_fs.specs.declared.open_file.Target.TheVariants.{Input, Console, File, Reader, Writer}
use Rattle.nv_calls.specs.Answer.{Answer, only}
use Rattle.nv_calls.specs.Errors.{EBADF, EINVAL, ENOSPC}
use Rattle.nv_fs.specs.States.{one_way, FileState, Inode, open_of, file_at, free_open, install, with_at, moved_to}
use Rattle.nv_fs.specs.Starts.{first_state, first_descriptors, first_opens}
use Rattle.nv_fs.specs.Closes.{close_of, close_open, dup_of, dup_open, dup3_of, dup_onto, share, shared_at, free_descriptor, with_descriptor}
use Rattle.nv_fs.specs.Ends.{pipe_of, pipe_from, pipe_on, free_pipe, free_above, with_empty, with_ends}
use Rattle.nv_fs.specs.Names.{Resolved, Refused, Named, resolved, file_of, is_named}
use Rattle.nv_fs.specs.Opened.{open_at_of, open_resolved, open_unless, open_at_descriptor, open_file, opened, create, truncated, with_file, free_file, exclusive_error, has_flag, unlink_at_of, unlink_resolved, unlink_file}
use Rattle.nv_fs.specs.Seeks.{seek_of}
use Rattle.nv_fs.specs.Fetched.{read_of}
use Rattle.nv_fs.specs.Stored.{write_of, with_content}
use Rattle.nv_laws.specs.Tables.{StandsIn, AreSoundTables}
use Rattle.nv_laws.proofs.Lookups.{some_is, is_inside, set_other, set_same, put_or_not, with_other, with_same, with_longer, with_inside, first_is}
use Rattle.nv_laws.proofs.Holding.{open_is, stands, free_open_near, free_file_near, free_pipe_near}
use Rattle.nv_fs.proofs.Cases.{by_test, seek_cases, read_cases, write_cases}

-- tables that have grown
stands_on : (f g p q : ℕ) (t : Target) → f ≤ g → p ≤ q → StandsIn f p t → StandsIn g q t
stands_on f g p q Input a b h = tt
stands_on f g p q Console a b h = tt
stands_on f g p q (File i) a b h = omega (arith, h)
stands_on f g p q (Reader k) a b h = omega (arith, h)
stands_on f g p q (Writer k) a b h = omega (arith, h)

pub grown : (s : FileState) (files : List Inode) (pipes : List (List ℕ)) (input console : List ℕ) → AreSoundTables s → length s.files ≤ length files → length s.pipes ≤ length pipes
    → AreSoundTables (record s { files = files; pipes = pipes; input = input; console = console })
grown s files pipes input console h a b = record {
  count = h.count;
  descriptors = h.descriptors;
  opens = λ n o e. stands_on (length s.files) (length files) (length s.pipes) (length pipes) o.target a b (h.opens n o e);
}

-- a descriptor lets go, or has a number of the table
freed : (s : FileState) (fd : ℕ) → AreSoundTables s → AreSoundTables (with_descriptor s fd None)
freed s fd h = record {
  count = length-set s.descriptors fd None ∙ h.count;
  descriptors = λ d n e. elim (cases_eq d fd) [
    | inl here ↦ at_place d n here e
    | inr other ↦ h.descriptors d n (sym (get_or-set_other s.descriptors fd d None None other) ∙ e)
  ];
  opens = h.opens;
}
  where
    at_place : (d n : ℕ) → d ≡ fd → get_or (set s.descriptors fd None) d None ≡ Some n → n < length s.opens
    at_place d n here e =
        let gone : get_or (set s.descriptors fd None) fd None ≡ None = ⊎_elim (λ q. q) (λ q. q.0) (put_or_not s.descriptors fd None None) in
        let clash : Some n ≡ None = sym e ∙ ap (λ (k : ℕ). get_or (set s.descriptors fd None) k None) here ∙ gone in cc

-- a number that stands at a place after a change there
number_after : (ds : List (Option ℕ)) (fd d number n : ℕ) → get_or (set ds fd (Some number)) d None ≡ Some n → (n ≡ number) ⊎ (get_or ds d None ≡ Some n)
number_after ds fd d number n e = elim (cases_eq d fd) [
  | inl here ↦ at_place here
  | inr other ↦ inr (sym (get_or-set_other ds fd d (Some number) None other) ∙ e)
]
  where
    at_place : d ≡ fd → (n ≡ number) ⊎ (get_or ds d None ≡ Some n)
    at_place here =
        let e' : get_or (set ds fd (Some number)) fd None ≡ Some n = ap (λ (k : ℕ). get_or (set ds fd (Some number)) k None) (sym here) ∙ e in
        elim (put_or_not ds fd (Some number) None) [
          | inl put ↦ inl (some_is n number (sym e' ∙ put))
          | inr not_there ↦ (let clash : Some n ≡ None = sym e' ∙ not_there.0 in cc)
        ]

had : (s : FileState) (fd number : ℕ) → AreSoundTables s → number < length s.opens → AreSoundTables (with_descriptor s fd (Some number))
had s fd number h l = record {
  count = length-set s.descriptors fd (Some number) ∙ h.count;
  descriptors = λ d n e. elim (number_after s.descriptors fd d number n e) [
    | inl is ↦ omega (arith, is, l)
    | inr old ↦ h.descriptors d n old
  ];
  opens = h.opens;
}

-- a new open file of what stands in the tables
installed : (s : FileState) (fd : ℕ) (o : OpenFile) → AreSoundTables s → StandsIn (length s.files) (length s.pipes) o.target → AreSoundTables (install s fd o)
unfolding install
installed s fd o h there =
    let n = free_open s in
    let near = free_open_near s in record {
      count = length-set s.descriptors fd (Some n) ∙ h.count;
      descriptors = λ d m e. elim (number_after s.descriptors fd d n m e) [
        | inl is ↦ omega (arith, is, with_inside s.opens n o near)
        | inr old ↦ omega (arith, h.descriptors d m old, with_longer s.opens n o near)
      ];
      opens = λ m x e. elim (cases_eq m n) [
        | inl here ↦ subst (λ (y : OpenFile). StandsIn (length s.files) (length s.pipes) y.target) (some_is o x (sym (with_same s.opens n o near) ∙ ap (slice_get (with_at s.opens n o)) (sym here) ∙ e)) there
        | inr other ↦ h.opens m x (sym (with_other s.opens n o near m other) ∙ e)
      ];
    }

-- an open file moves
moves : (s : FileState) (fd : ℕ) (o : ℕ × OpenFile) (offset : ℕ) → AreSoundTables s → open_of s fd ≡ Some o → AreSoundTables (moved_to s o.0 o.1 offset)
moves s fd o offset h e =
    let new : OpenFile = record (o.1) { offset = offset } in
    let l = is_inside s.opens o.0 o.1 (open_is s fd o e).1 in record {
      count = h.count;
      descriptors = λ d m q. omega (arith, h.descriptors d m q, length-set s.opens o.0 new);
      opens = λ m x q. elim (cases_eq m o.0) [
        | inl here ↦ subst (λ (y : OpenFile). StandsIn (length s.files) (length s.pipes) y.target) (some_is new x (sym (set_same s.opens o.0 new l) ∙ ap (slice_get (set s.opens o.0 new)) (sym here) ∙ q)) (stands s fd o h e)
        | inr other ↦ h.opens m x (sym (set_other s.opens o.0 m new other) ∙ q)
      ];
    }

kept : (s : FileState) (i : ℕ) (f : Inode) → AreSoundTables s → AreSoundTables (record s { files = set s.files i f })
kept s i f h = grown s (set s.files i f) s.pipes s.input s.console h (omega (arith, length-set s.files i f)) (omega arith)

abbrev Sound : Answer FileState → Type 0
Sound a = AreSoundTables a.state

-- the first tables
none_left : (n d : ℕ) → get_or (replicate n None) d None ≡ (let none : Option ℕ = None in none)
none_left zero d = refl
none_left (suc n) zero = refl
none_left (suc n) (suc d) = none_left n d

pub first_is_sound : (polls : Bool) (input : List ℕ) (files : List Inode) → AreSoundTables (first_state polls input files)
unfolding first_descriptors
first_is_sound polls input files = record { count = refl; descriptors = named; opens = standing }
  where
    named : (fd n : ℕ) → get_or first_descriptors fd None ≡ Some n → n < 2
    named zero n e = omega (arith, some_is 0 n e)
    named (suc zero) n e = omega (arith, some_is 1 n e)
    named (suc (suc zero)) n e = omega (arith, some_is 1 n e)
    named (suc (suc (suc d))) n e = let clash : Some n ≡ None = sym e ∙ none_left 61 d in cc

    standing : (n : ℕ) (o : OpenFile) → slice_get first_opens n ≡ Some o → StandsIn (length files) 0 o.target
    standing zero o e = subst (λ (x : OpenFile). StandsIn (length files) 0 x.target) (some_is (one_way Input true) o e) tt
    standing (suc zero) o e = subst (λ (x : OpenFile). StandsIn (length files) 0 x.target) (some_is (one_way Console false) o e) tt
    standing (suc (suc n)) o e = cc

-- close, dup and dup3
pub closed_is_sound : (s : FileState) (fd : ℕ) → AreSoundTables s → AreSoundTables (close_of s fd).state
unfolding close_of
closed_is_sound s fd h = by (open_of s fd)
  where
    by : (o : Option (ℕ × OpenFile)) → AreSoundTables (close_open s fd o).state
    by None = h
    by (Some o) = freed s fd h

in_table : (s : FileState) (fd : ℕ) (o : ℕ × OpenFile) → open_of s fd ≡ Some o → o.0 < length s.opens
in_table s fd o e = is_inside s.opens o.0 o.1 (open_is s fd o e).1

pub doubled_is_sound : (s : FileState) (fd : ℕ) → AreSoundTables s → AreSoundTables (dup_of s fd).state
unfolding dup_of
doubled_is_sound s fd h = by (open_of s fd) refl
  where
    onto : (q : Option ℕ) (number : ℕ) → number < length s.opens → AreSoundTables (share s q number).state
    onto None number l = h
    onto (Some to) number l = had s to number h l

    by : (o : Option (ℕ × OpenFile)) → open_of s fd ≡ o → AreSoundTables (dup_open s o).state
    by None e = h
    by (Some o) e = onto (free_descriptor s) o.0 (in_table s fd o e)

pub moved_onto_is_sound : (s : FileState) (from to flags : ℕ) → AreSoundTables s → AreSoundTables (dup3_of s from to flags).state
unfolding dup3_of
moved_onto_is_sound s from to flags h =
    by_test Sound (not ((flags == 0) || (flags == 524288))) (only s EINVAL) _ h (by_test Sound (from == to) (only s EINVAL) (dup_onto s (open_of s from) to) h (by (open_of s from) refl))
  where
    by : (o : Option (ℕ × OpenFile)) → open_of s from ≡ o → AreSoundTables (dup_onto s o to).state
    by None e = h
    by (Some o) e = by_test Sound (nat_lt 63 to) (only s EBADF) (shared_at s to o.0) h (had s to o.0 h (in_table s from o e))

-- pipe
pub with_pipe_is_sound : (s : FileState) → AreSoundTables s → AreSoundTables (with_empty s (free_pipe s))
with_pipe_is_sound s h = grown s s.files (with_at s.pipes (free_pipe s) []) s.input s.console h (omega arith) (with_longer s.pipes (free_pipe s) [] (free_pipe_near s))

pub pipe_there : (s : FileState) → free_pipe s < length (with_empty s (free_pipe s)).pipes
pipe_there s = with_inside s.pipes (free_pipe s) [] (free_pipe_near s)

pub first_end_is_sound : (s : FileState) (fd : ℕ) → AreSoundTables s → AreSoundTables (install (with_empty s (free_pipe s)) fd (one_way (Reader (free_pipe s)) true))
first_end_is_sound s fd h = installed (with_empty s (free_pipe s)) fd (one_way (Reader (free_pipe s)) true) (with_pipe_is_sound s h) (pipe_there s)

second_end_is_sound : (s : FileState) (reading writing : ℕ) → AreSoundTables s → AreSoundTables (with_ends s (free_pipe s) reading writing)
unfolding install
second_end_is_sound s reading writing h =
    installed (install (with_empty s (free_pipe s)) reading (one_way (Reader (free_pipe s)) true)) writing (one_way (Writer (free_pipe s)) false) (first_end_is_sound s reading h) (pipe_there s)

pub piped_is_sound : (s : FileState) (flags : ℕ) → AreSoundTables s → AreSoundTables (pipe_of s flags).state
unfolding pipe_of
piped_is_sound s flags h = by_test Sound (bit_and flags 526336 == flags) (pipe_from s (free_descriptor s)) (only s EINVAL) (by (free_descriptor s)) h
  where
    on : (reading : ℕ) (writing : Option ℕ) → AreSoundTables (pipe_on s reading writing).state
    on reading None = h
    on reading (Some writing) = second_end_is_sound s reading writing h

    by : (reading : Option ℕ) → AreSoundTables (pipe_from s reading).state
    by None = h
    by (Some reading) = on reading (free_above s reading)

-- openat and unlinkat
file_inside : (s : FileState) (name : List ℕ) (i : ℕ) → file_of s name ≡ Some i → i < length s.files
unfolding file_of
file_inside s name i e = let r = first_is (λ f. is_named name f.name) s.files 0 i e in omega (arith, r.1, is_inside s.files r.0 r.2 r.3)

pub emptied_is_sound : (s : FileState) (i flags : ℕ) → AreSoundTables s → AreSoundTables (truncated s i flags)
emptied_is_sound s i flags h = by (has_flag flags 512 && not (flags % 4 == 0))
  where
    by : (b : Bool) → AreSoundTables (cond b (with_content s i []) s)
    by true = kept s i (record { name = (file_at s i).name; bytes = [] }) h
    by false = h

pub emptied_files : (s : FileState) (i flags : ℕ) → length (truncated s i flags).files ≡ length s.files
emptied_files s i flags = by (has_flag flags 512 && not (flags % 4 == 0))
  where
    by : (b : Bool) → length (cond b (with_content s i []) s).files ≡ length s.files
    by true = length-set s.files i (record { name = (file_at s i).name; bytes = [] })
    by false = refl

pub with_file_is_sound : (s : FileState) (name : List ℕ) → AreSoundTables s → AreSoundTables (with_file s (free_file s) name)
with_file_is_sound s name h = grown s (with_at s.files (free_file s) (record { name = Some name; bytes = [] })) s.pipes s.input s.console h (with_longer s.files (free_file s) (record { name = Some name; bytes = [] }) (free_file_near s)) (omega arith)

made : (s : FileState) (fd : ℕ) (name : List ℕ) (flags : ℕ) → AreSoundTables s → AreSoundTables (create s fd name flags).state
made s fd name flags h =
    by_test Sound (nat_le 256 (free_file s)) (only s ENOSPC) (open_file (with_file s (free_file s) name) fd (free_file s) flags) h
    (installed (with_file s (free_file s) name) fd (opened (free_file s) flags) (with_file_is_sound s name h) (with_inside s.files (free_file s) (record { name = Some name; bytes = [] }) (free_file_near s)))

pub opened_is_sound : (s : FileState) (dir : ℤ) (path : List ℕ) (flags : ℕ) → AreSoundTables s → AreSoundTables (open_at_of s dir path flags).state
unfolding open_at_of
opened_is_sound s dir path flags h = by (resolved s dir path)
  where
    at : (fd : Option ℕ) (name : List ℕ) (file : Option ℕ) → file_of s name ≡ file → AreSoundTables (open_at_descriptor s fd name file flags).state
    at None name file e = h
    at (Some fd) name None e = made s fd name flags h
    at (Some fd) name (Some i) e = installed (truncated s i flags) fd (opened i flags) (emptied_is_sound s i flags h) (omega (arith, file_inside s name i e, emptied_files s i flags))

    unless : (q : Option ℤ) (name : List ℕ) → AreSoundTables (open_unless q s name (file_of s name) flags).state
    unless None name = at (free_descriptor s) name (file_of s name) refl
    unless (Some error) name = h

    by : (r : Resolved) → AreSoundTables (open_resolved s r flags).state
    by (Refused error) = h
    by (Named name) = by_test Sound (flags % 4 == 3) (only s EINVAL) (open_unless (exclusive_error (file_of s name) flags) s name (file_of s name) flags) h (unless (exclusive_error (file_of s name) flags) name)

pub unlinked_is_sound : (s : FileState) (dir : ℤ) (path : List ℕ) (flags : ℕ) → AreSoundTables s → AreSoundTables (unlink_at_of s dir path flags).state
unfolding unlink_at_of
unlinked_is_sound s dir path flags h = by (resolved s dir path)
  where
    gone : (file : Option ℕ) → AreSoundTables (unlink_file s file).state
    gone None = h
    gone (Some i) = kept s i (record { name = None; bytes = (file_at s i).bytes }) h

    by : (r : Resolved) → AreSoundTables (unlink_resolved s r flags).state
    by (Refused error) = h
    by (Named name) = by_test Sound (flags == 0) (unlink_file s (file_of s name)) (only s EINVAL) (gone (file_of s name)) h

-- _llseek, read and write
pub sought_is_sound : (s : FileState) (fd high low whence : ℕ) → AreSoundTables s → AreSoundTables (seek_of s fd high low whence).state
sought_is_sound s fd high low whence h = seek_cases AreSoundTables s fd h (λ o offset e. moves s fd o offset h e) high low whence

pub read_is_sound : (s : FileState) (fd count : ℕ) → AreSoundTables s → AreSoundTables (read_of s fd count).state
read_is_sound s fd count h =
    read_cases AreSoundTables s fd h (λ o offset e. moves s fd o offset h e)
    (λ n. grown s s.files s.pipes (drop n s.input) s.console h (omega arith) (omega arith))
    (λ o k bytes e t. grown s s.files (set s.pipes k bytes) s.input s.console h (omega arith) (omega (arith, length-set s.pipes k bytes)))
    count

same_open : (s : FileState) (fd i : ℕ) (content : List ℕ) (o : ℕ × OpenFile) → open_of s fd ≡ Some o → open_of (with_content s i content) fd ≡ Some o
unfolding open_of
same_open s fd i content o e = e

pub written_is_sound : (s : FileState) (fd : ℕ) (bytes : List ℕ) → AreSoundTables s → AreSoundTables (write_of s fd bytes).state
written_is_sound s fd bytes h =
    write_cases AreSoundTables s fd h
    (λ printed. grown s s.files s.pipes s.input printed h (omega arith) (omega arith))
    (λ o i offset content e t. let f : Inode = record { name = (file_at s i).name; bytes = content } in moves (with_content s i content) fd o offset (kept s i f h) (same_open s fd i content o e))
    (λ o k content e t. grown s s.files (set s.pipes k content) s.input s.console h (omega arith) (omega (arith, length-set s.pipes k content)))
    bytes
