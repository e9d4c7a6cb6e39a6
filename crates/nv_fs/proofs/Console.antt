-- What calls on files print: a write to the console as many bytes as its result says, and no other call anything.
use Rattle.std.proofs.Common.{◌≡◌, ◌∙◌, sym, ap, refl, ℕ, ℤ, pos, negsuc, ◌+◌, ◌-◌, min, cond, not, ◌||◌, ◌==◌, nat_le, nat_lt, List, [], ◌++◌, length, take, Option, Some, None, append-nil, Bool, true, false}
use Rattle.std.proofs.lemmas.List.{length-take, take_min}
use Rattle.nv_calls.specs.Answer.{Answer, only}
use Rattle.nv_calls.specs.Errors.{EBADF, EINVAL, ENOSPC, EFBIG, EPIPE, EAGAIN}
use Rattle.nv_fs.specs.declared.open_file.OpenFile.{OpenFile}
use Rattle.nv_fs.specs.declared.open_file.Target.{Target}
use Rattle.nv_fs.specs.declared.open_file.Target.TheVariants as target
use Rattle.nv_fs.specs.States.{FileState, open_of, install, has_open}
use Rattle.nv_fs.specs.Closes.{close_open, close_of, free_descriptor, share, dup_open, dup_of, shared_at, dup_onto, dup3_of}
use Rattle.nv_fs.specs.Ends.{pipe_on, pipe_from, pipe_of, free_above, free_pipe, with_empty, with_ends}
use Rattle.nv_fs.specs.Fetched.{read_of, pipe_at}
use Rattle.nv_fs.specs.Names.{Resolved, Refused, Named, resolved, file_of}
use Rattle.nv_fs.specs.Opened.{open_file, opened, truncated, free_file, with_file, create, open_at_descriptor, exclusive_error, open_unless, open_resolved, open_at_of, unlink_file, unlink_resolved, unlink_at_of}
use Rattle.nv_fs.specs.Seeks.{seek_of}
use Rattle.nv_fs.specs.Stored.{MOST_WRITTEN, write_console, write_at, write_pipe, write_target, write_open, write_of, start_of, with_content}
use Rattle.nv_fs.specs.Told.{is_console, prints_to, prints}
use Rattle.nv_fs.proofs.Cases.{by_test, seek_cases, read_cases}

-- ---- a call that prints nothing

module _ (s : FileState) where
  abbrev Same : Answer FileState → Type 0
  Same a = a.state.console ≡ s.console

  close_cases : (fd : ℕ) (o : Option (ℕ × OpenFile)) → Same (close_open s fd o)
  close_cases fd None = refl
  close_cases fd (Some o) = refl

  pub close_same : (fd : ℕ) → Same (close_of s fd)
  unfolding close_of
  close_same fd = close_cases fd (open_of s fd)

  share_cases : (found : Option ℕ) (number : ℕ) → Same (share s found number)
  share_cases None number = refl
  share_cases (Some fd) number = refl

  dup_cases : (o : Option (ℕ × OpenFile)) → Same (dup_open s o)
  dup_cases None = refl
  dup_cases (Some o) = share_cases (free_descriptor s) o.0

  pub dup_same : (fd : ℕ) → Same (dup_of s fd)
  unfolding dup_of
  dup_same fd = dup_cases (open_of s fd)

  onto_cases : (o : Option (ℕ × OpenFile)) (to : ℕ) → Same (dup_onto s o to)
  onto_cases None to = refl
  onto_cases (Some o) to = by_test Same (nat_lt 63 to) (only s EBADF) (shared_at s to o.0) refl refl

  pub dup3_same : (from to flags : ℕ) → Same (dup3_of s from to flags)
  unfolding dup3_of
  dup3_same from to flags =
      by_test Same (not ((flags == 0) || (flags == 524288))) (only s EINVAL) (cond (from == to) (only s EINVAL) (dup_onto s (open_of s from) to)) refl
      (by_test Same (from == to) (only s EINVAL) (dup_onto s (open_of s from) to) refl (onto_cases (open_of s from) to))

  installed : (fd : ℕ) (o : OpenFile) → (install s fd o).console ≡ s.console
  unfolding install
  installed fd o = refl

pub installed_in : (s t : FileState) (fd : ℕ) (o : OpenFile) → t.console ≡ s.console → (install t fd o).console ≡ s.console
installed_in s t fd o e = installed t fd o ∙ e

module _ (s : FileState) where
  abbrev Kept : Answer FileState → Type 0
  Kept a = a.state.console ≡ s.console

  ends_kept : (k reading writing : ℕ) → (with_ends s k reading writing).console ≡ s.console
  ends_kept k reading writing = installed_in s _ writing _ (installed_in s (with_empty s k) reading _ refl)

  on_cases : (reading : ℕ) (o : Option ℕ) → Kept (pipe_on s reading o)
  on_cases reading None = refl
  on_cases reading (Some writing) = ends_kept (free_pipe s) reading writing

  from_cases : (o : Option ℕ) → Kept (pipe_from s o)
  from_cases None = refl
  from_cases (Some reading) = on_cases reading (free_above s reading)

  pub pipe_same : (flags : ℕ) → Kept (pipe_of s flags)
  unfolding pipe_of
  pipe_same flags = by_test Kept _ (pipe_from s (free_descriptor s)) (only s EINVAL) (from_cases (free_descriptor s)) refl

  open_kept : (t : FileState) (fd i flags : ℕ) → t.console ≡ s.console → Kept (open_file t fd i flags)
  open_kept t fd i flags e = installed_in s t fd (opened i flags) e

  truncated_kept : (i flags : ℕ) → (truncated s i flags).console ≡ s.console
  truncated_kept i flags = by_test (λ (t : FileState). t.console ≡ s.console) _ (with_content s i []) s refl refl

  create_cases : (fd : ℕ) (name : List ℕ) (flags : ℕ) → Kept (create s fd name flags)
  create_cases fd name flags =
      by_test Kept (nat_le 256 (free_file s)) (only s ENOSPC) (open_file (with_file s (free_file s) name) fd (free_file s) flags) refl
      (open_kept (with_file s (free_file s) name) fd (free_file s) flags refl)

  at_cases : (fd : Option ℕ) (name : List ℕ) (file : Option ℕ) (flags : ℕ) → Kept (open_at_descriptor s fd name file flags)
  at_cases None name file flags = refl
  at_cases (Some fd) name None flags = create_cases fd name flags
  at_cases (Some fd) name (Some i) flags = open_kept (truncated s i flags) fd i flags (truncated_kept i flags)

  unless_cases : (e : Option ℤ) (name : List ℕ) (file : Option ℕ) (flags : ℕ) → Kept (open_unless e s name file flags)
  unless_cases (Some e) name file flags = refl
  unless_cases None name file flags = at_cases (free_descriptor s) name file flags

  resolved_cases : (r : Resolved) (flags : ℕ) → Kept (open_resolved s r flags)
  resolved_cases (Refused error) flags = refl
  resolved_cases (Named name) flags =
      by_test Kept _ (only s EINVAL) (open_unless (exclusive_error (file_of s name) flags) s name (file_of s name) flags) refl
      (unless_cases (exclusive_error (file_of s name) flags) name (file_of s name) flags)

  pub open_same : (dir : ℤ) (path : List ℕ) (flags : ℕ) → Kept (open_at_of s dir path flags)
  unfolding open_at_of
  open_same dir path flags = resolved_cases (resolved s dir path) flags

  unlink_cases : (o : Option ℕ) → Kept (unlink_file s o)
  unlink_cases None = refl
  unlink_cases (Some i) = refl

  unlinked_cases : (r : Resolved) (flags : ℕ) → Kept (unlink_resolved s r flags)
  unlinked_cases (Refused error) flags = refl
  unlinked_cases (Named name) flags = by_test Kept (flags == 0) (unlink_file s (file_of s name)) (only s EINVAL) (unlink_cases (file_of s name)) refl

  pub unlink_same : (dir : ℤ) (path : List ℕ) (flags : ℕ) → Kept (unlink_at_of s dir path flags)
  unfolding unlink_at_of
  unlink_same dir path flags = unlinked_cases (resolved s dir path) flags

  pub seek_same : (fd high low whence : ℕ) → Kept (seek_of s fd high low whence)
  seek_same fd high low whence = seek_cases (λ t. t.console ≡ s.console) s fd refl (λ o offset e. refl) high low whence

  pub read_same : (fd count : ℕ) → Kept (read_of s fd count)
  read_same fd count = read_cases (λ t. t.console ≡ s.console) s fd refl (λ o offset e. refl) (λ n. refl) (λ o k bytes e t. refl) count

-- ---- a write

-- the bytes that a write prints, by whether it goes to the console and its result
abbrev pub shown : Bool → ℤ → List ℕ → List ℕ
shown true (pos n) bytes = take n bytes
shown true (negsuc n) bytes = []
shown false ret bytes = []

module _ (s : FileState) (bytes : List ℕ) where
  abbrev Prints : Bool → Answer FileState → Type 0
  Prints to a = a.state.console ≡ s.console ++ shown to a.ret bytes

  none : s.console ≡ s.console ++ []
  none = sym (append-nil s.console)

  console_cases : (limit : ℕ) → Prints true (write_console s limit bytes)
  console_cases limit =
      by_test (Prints true) (nat_le limit (length s.console)) (only s ENOSPC) _ none
      (let n : ℕ = min MOST_WRITTEN (limit - length s.console) in ap (λ z. s.console ++ z)
      (sym (ap (λ k. take k bytes) (length-take n bytes) ∙ take_min n bytes)))

  stored_cases : (o : ℕ × OpenFile) (i limit start : ℕ) → Prints false (write_at s o.0 o.1 i limit start bytes)
  stored_cases o i limit start = by_test (Prints false) (nat_le limit start) (only s EFBIG) _ none none

  piped_cases : (k limit : ℕ) → Prints false (write_pipe s k limit bytes)
  piped_cases k limit =
      by_test (Prints false) (not (has_open s (target.Reader k))) (only s EPIPE) _ none
      (by_test (Prints false) (nat_lt limit (length (pipe_at s k) + length bytes)) (only s EAGAIN) _ none none)

  target_cases : (o : ℕ × OpenFile) (t : Target) → Prints (is_console t) (write_target s o.0 o.1 t bytes)
  target_cases o target.Console = console_cases s.limit
  target_cases o (target.File i) = stored_cases o i 1048576 (start_of s o.1 i)
  target_cases o (target.Writer k) = piped_cases k 4096
  target_cases o target.Input = none
  target_cases o (target.Reader k) = none

  refused : (to : Bool) → Prints to (only s EBADF)
  refused true = none
  refused false = none

  nothing : (to : Bool) → Prints to (only s (pos 0))
  nothing true = none
  nothing false = none

  write_cases : (o : Option (ℕ × OpenFile)) → Prints (prints_to o) (write_open s o bytes)
  write_cases None = none
  write_cases (Some o) =
      let to : Bool = is_console o.1.target in
      by_test (Prints to) (not o.1.writes) (only s EBADF) _ (refused to)
      (by_test (Prints to) (length bytes == 0) (only s (pos 0)) (write_target s o.0 o.1 o.1.target bytes) (nothing to) (target_cases o o.1.target))

  pub write_prints : (fd : ℕ) → Prints (prints s fd) (write_of s fd bytes)
  unfolding prints write_of
  write_prints fd = write_cases (open_of s fd)
